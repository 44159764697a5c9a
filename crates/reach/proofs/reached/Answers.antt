-- What the closure has is what is reached.
use mathlib.Core.Path.{◌∙◌}
use Rattle.reach.proofs.Reaching.{reached_same}
use Rattle.reach.proofs.reached.Goals as goal

pub returns : goal.returns
returns c = λ φs G kept gaps_are exact.
    let a = c.args in
    reached_same φs G a.graph.now a.gaps.now a.count a.yields kept gaps_are exact c.edge_table-edges.result
    (c.edge_table-edges.ensures G kept.keeps) c.common.result c.closure.result (λ k. c.common.ensures k ∙ rw (c.roots.ensures k))
    c.closure.ensures
