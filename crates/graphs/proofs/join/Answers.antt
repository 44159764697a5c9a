use borrow.Author.Rules.{rules}
use Rattle.graphs.proofs.Joining.{joining_goes, joining_ends}
use Rattle.graphs.proofs.join.Goals as goal

pub loop-i-preserved : goal.loop-i-preserved
loop-i-preserved c = λ R k. joining_goes _ _ c.loop-i.graph _ c.loop-i.i c.loop-i.gained c.join_word.result _ c.loop-i-test.true (c.loop-i.invariant R k) c.join_word.ensures (search rules) c.union-gained.ensures

pub returns : goal.returns
returns c = joining_ends _ _ _ _ _ c.loop-i-test.false c.loop-i.invariant
