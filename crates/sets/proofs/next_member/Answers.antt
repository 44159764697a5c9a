-- The zeros below the lowest bit that is left count the places skipped.
use native.Mathlib.Omega.{arith}
use Rattle.sets.proofs.Laws.{member_high}
use Rattle.sets.proofs.Members.{no_rest, rest_from}
use Rattle.sets.proofs.next_member.Goals as goal

pub returns-then-from-eq64 : goal.returns-then-from-eq64
returns-then-from-eq64 c = λ k l. member_high 64 c.args.set k c.ranges.set.fits (omega arith)

pub returns-then-rest-eq0 : goal.returns-then-rest-eq0
returns-then-rest-eq0 c = no_rest c.args.set c.args.from (omega arith) c.if-rest-eq0.true

pub returns : goal.returns
returns c = rest_from c.args.set c.args.from (omega arith) c.ranges.set.fits c.if-rest-eq0.false
