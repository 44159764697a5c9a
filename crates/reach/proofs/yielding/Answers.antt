use mathlib.Core.Logic.{inl, inr}
use Rattle.reach.proofs.YieldingTemplates.{yielding_none, yielding_all}
use Rattle.reach.proofs.yielding.Goals as goal

pub loop-n-init : goal.loop-n-init
loop-n-init c = yielding_none _

pub returns-then-count-n : goal.returns-then-count-n
returns-then-count-n c = yielding_all _ _ _ _ (inl c.if-count-n.true) c.loop-n.invariant

pub returns : goal.returns
returns c = yielding_all _ _ _ _ (inr c.loop-n-test.false) c.loop-n.invariant
