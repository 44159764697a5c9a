use mathlib.Core.Logic.{inl, inr}
use native.Mathlib.Omega.{arith}
use Rattle.occurrences.proofs.Tables.{telling_none, telling_more, telling_all}
use Rattle.occurrences.proofs.of_templates.Goals as goal

pub loop-n-init : goal.loop-n-init
loop-n-init c = telling_none _ _ _ _ c.requires

pub returns-then-templates-n : goal.returns-then-templates-n
returns-then-templates-n c = telling_all _ _ _ _ _ _ _ c.loop-n.invariant (inl c.if-templates-n.true)

pub outline_items-outer-requires : goal.outline_items-outer-requires
outline_items-outer-requires c = (c.loop-n.invariant.wide, omega arith)

pub loop-n-preserved : goal.loop-n-preserved
loop-n-preserved c = telling_more _ _ _ _ _ _ _ c.loop-n.invariant c.loop-n-test.true c.if-templates-n.false c.outline_items-outer.result _ c.outline_items-outer.ensures.long c.outline_items-outer.ensures.keeps
    (rw c.new.ensures at c.outline_items-outer.ensures.told)

pub returns-after-loop-n : goal.returns-after-loop-n
returns-after-loop-n c = telling_all _ _ _ _ _ _ _ c.loop-n.invariant (inr c.loop-n-test.false)
