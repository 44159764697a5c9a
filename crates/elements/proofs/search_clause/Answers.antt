use mathlib.Core.Path.{sym, ◌∙◌}
use mathlib.Core.Logic.{inl, inr}
use Rattle.elements.proofs.Templates.{turning_begin, turning_by, turning_more, turning_all}
use Rattle.elements.proofs.search_clause.Goals as goal
use Rattle.elements.proofs.search_clause.Goals.{then-has, else-has}

pub loop-n-init : goal.loop-n-init
loop-n-init c = turning_begin _ _ _ _ _ _

pub returns-then-templates-n : goal.returns-then-templates-n
returns-then-templates-n c = turning_all _ _ _ _ _ _ _ _ c.loop-n.invariant (inl c.if-templates-n.true)

pub loop-n-preserved : goal.loop-n-preserved
loop-n-preserved c = let settled = c.requires in
    elim c.if-has.branch [
      | then-has m ↦ rw m.lowest-is (turning_more _ _ _ _ _ _ _ _ c.loop-n.invariant c.loop-n.auto.n c.loop-n-test.true c.if-templates-n.false
          (sym c.has.ensures ∙ m.if-has.true) settled.0 _ settled.1 m.search_template-found.result (rw m.new-start.ensures at m.search_template-found.ensures)
          m.lower-lowest.result m.lower-lowest.ensures)
      | else-has m ↦ rw m.lowest-is (turning_by _ _ _ _ _ _ _ _ c.loop-n.invariant (sym c.has.ensures ∙ m.if-has.false))
    ]

pub returns : goal.returns
returns c = turning_all _ _ _ _ _ _ _ _ c.loop-n.invariant (inr c.loop-n-test.false)
