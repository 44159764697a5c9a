use mathlib.Core.Path.{sym, ◌∙◌}
use mathlib.Core.Logic.{inl, inr}
use Rattle.reach.proofs.Templates.{looked_begin, looked_by, looked_next, looked_end}
use Rattle.reach.proofs.plainly_wrong.Goals as goal
use Rattle.reach.proofs.plainly_wrong.Goals.{then-has, else-has}

pub loop-n-init : goal.loop-n-init
loop-n-init c = looked_begin _ _ _ _ _ _ _

pub returns-then-templates-n : goal.returns-then-templates-n
returns-then-templates-n c = looked_end _ _ _ _ _ _ _ _ _ c.loop-n.invariant (inl c.if-templates-n.true)

pub loop-n-preserved : goal.loop-n-preserved
loop-n-preserved c = let low = c.loop-n-test.true in
    elim c.if-has.branch [
      | then-has m ↦ rw m.lowest-is (looked_next _ _ _ _ _ _ _ _ _ c.loop-n.invariant c.loop-n.auto.n low c.if-templates-n.false (sym c.has.ensures ∙ m.if-has.true)
          m.wrong_in-found.result m.wrong_in-found.ensures m.lower-lowest.result m.lower-lowest.ensures)
      | else-has m ↦ rw m.lowest-is (looked_by _ _ _ _ _ _ _ _ _ c.loop-n.invariant (sym c.has.ensures ∙ m.if-has.false))
    ]

pub returns : goal.returns
returns c = looked_end _ _ _ _ _ _ _ _ _ c.loop-n.invariant (inr c.loop-n-test.false)
