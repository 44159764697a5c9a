-- A word has no member from its width on.
use mathlib.Core.Path.{sym}
use Rattle.sets.proofs.Laws.{member_high}
use Rattle.sets.proofs.is_member.Goals as goal

pub returns-then-i-ge64 : goal.returns-then-i-ge64
returns-then-i-ge64 c = sym (member_high 64 c.args.set c.args.i c.ranges.set.fits c.if-i-ge64.true)
