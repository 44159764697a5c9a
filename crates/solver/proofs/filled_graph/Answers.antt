-- The value passes with the strings at the gap.
use mathlib.Core.Path.{sym}
use Rattle.entries.proofs.Transfers.{way_keeps, fill_keeps}
use Rattle.solver.proofs.filled_graph.Goals as goal

pub returns : goal.returns
returns c = λ points l.
    fill_keeps c.args.h c.values_at-values.result _ _ (λ t. sym (c.values_at-values.ensures.keeps points l t)) _
    (way_keeps _ _ c.filling.ensures _ _ (c.pass.ensures _ (c.graph_at-graph.ensures.keeps points l)))
