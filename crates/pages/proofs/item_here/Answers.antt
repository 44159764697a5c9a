-- By the byte that stands here, if one does.
use mathlib.Core.Path.{refl}
use native.Mathlib.Omega.{arith}
use Rattle.pages.proofs.Steps.{no_step, text_step, gap_step, element_step, blank_step, end_step}
use Rattle.pages.proofs.item_here.Goals as goal

pub returns-then-s-here : goal.returns-then-s-here
returns-then-s-here c =
    let w = no_step _ _ c.if-s-here.true _ refl in
    record { is = w.0; moves = w.1 }

pub returns-in-33 : goal.returns-in-33
returns-in-33 c =
    let w = text_step _ _ c.if-s-here.false _ c.operand.ensures c.in-33.is _ c.on.ensures in
    record { is = w.0; moves = w.1 }

pub returns-in-34 : goal.returns-in-34
returns-in-34 c =
    let w = gap_step _ _ c.if-s-here.false _ c.operand.ensures _ c.operand-in-34.ensures c.in-34.is _ c.on-in-34.ensures in
    record { is = w.0; moves = w.1 }

pub returns-in-35 : goal.returns-in-35
returns-in-35 c =
    let w = element_step _ _ c.if-s-here.false _ c.operand.ensures _ c.operand-in-35.ensures c.in-35.is _ c.on-in-35.ensures in
    record { is = w.0; moves = w.1 }

pub returns-in-41 : goal.returns-in-41
returns-in-41 c =
    let w = blank_step _ _ c.if-s-here.false _ c.operand.ensures c.in-41.is _ c.on-in-41.ensures in
    record { is = w.0; moves = w.1 }

pub returns-in_default : goal.returns-in_default
returns-in_default c =
    let w = end_step _ _ c.if-s-here.false _ c.operand.ensures (λ e. omega arith) (λ e. omega arith) (λ e. omega arith) (λ e. omega arith) _ c.on-in_default.ensures in
    record { is = w.0; moves = w.1 }
