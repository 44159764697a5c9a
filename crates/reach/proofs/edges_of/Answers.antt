use mathlib.Core.Path.{sym, ◌∙◌}
use Rattle.reach.proofs.Edges.{edges_none, edges_more, edges_past}
use Rattle.reach.proofs.edges_of.Goals as goal
use Rattle.reach.proofs.edges_of.Goals.{then-has, else-has}

pub loop-g-init : goal.loop-g-init
loop-g-init c = edges_none _ _ _

pub loop-g-preserved : goal.loop-g-preserved
loop-g-preserved c = let low = c.loop-g-test.true in
    elim c.if-has.branch [
      | then-has m ↦ rw m.all-is (edges_more _ _ _ c.loop-g.g c.loop-g.all _ _ c.requires low (sym c.has.ensures ∙ m.if-has.true) (m.edges.ensures c.requires low) m.union-all.ensures c.loop-g.invariant)
      | else-has m ↦ rw m.all-is (edges_past _ _ _ c.loop-g.g c.loop-g.all (sym c.has.ensures ∙ m.if-has.false) c.loop-g.invariant)
    ]
