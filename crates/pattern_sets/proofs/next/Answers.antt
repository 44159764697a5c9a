use native.Mathlib.Omega.{arith}
use borrow.Author.Rules.{rules}
use Rattle.pattern_sets.proofs.Laws.{passed_all, passed_more, found}
use Rattle.pattern_sets.proofs.next.Goals as goal

pub returns-in-Some : goal.returns-in-Some
returns-in-Some c = found c.args.set c.args.from c.loop-i.i c.loop-i.at c.loop-i.invariant.1 c.in-Some.k (omega arith) (rw c.in-Some.is at c.next_member.ensures)

pub loop-i-preserved : goal.loop-i-preserved
loop-i-preserved c = (omega arith, passed_more c.args.set c.args.from c.loop-i.i c.loop-i.at c.loop-i.invariant.1 c.loop-i.invariant.0 (rw c.in_default.is at c.next_member.ensures))

pub returns : goal.returns
returns c = passed_all c.args.set c.args.from (search rules) _ (omega arith) c.loop-i.invariant.1
