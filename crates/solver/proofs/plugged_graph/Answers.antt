-- The entries of both, plugged.
use Rattle.solver.proofs.plugged_graph.Goals as goal

pub returns : goal.returns
returns c = λ points l. c.plug.ensures _ _ (c.graph_at-first.ensures.keeps points l) (c.graph_at-second.ensures.keeps points l)
