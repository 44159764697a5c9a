use Rattle.sets.proofs.Laws.{member_single}
use Rattle.graphs.proofs.ClosedGraphs.{below_goes, below_ends}
use Rattle.graphs.proofs.close.Goals as goal

pub loop-g-preserved : goal.loop-g-preserved
loop-g-preserved c = λ R k. below_goes R _ _ _ (member_single 0) c.loop-g-test.true _ _ (c.loop-g.invariant R k) c.origins-open.ensures c.add_edges.ensures

pub returns : goal.returns
returns c = λ R k. below_ends R _ _ c.loop-g-test.false (c.loop-g.invariant R k)
