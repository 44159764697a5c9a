-- By the byte that stands here, if one does.
use native.Mathlib.Omega.{arith}
use Rattle.pages.proofs.Steps.{no_attribute_step, named_step, open_step, outside_step, done_step}
use Rattle.pages.proofs.attribute_here.Goals as goal

pub returns-then-s-here : goal.returns-then-s-here
returns-then-s-here c =
    let w = no_attribute_step _ _ c.if-s-here.true in
    record { is = w.0; moves = w.1 }

pub returns-in-36 : goal.returns-in-36
returns-in-36 c =
    let w = named_step _ _ c.if-s-here.false _ c.operand.ensures _ c.operand-name.ensures _ c.operand-in-36.ensures c.in-36.is _ c.on.ensures in
    record { is = w.0; moves = w.1 }

pub returns-in-37 : goal.returns-in-37
returns-in-37 c =
    let w = open_step _ _ c.if-s-here.false _ c.operand.ensures _ c.operand-name.ensures _ c.operand-in-37.ensures c.in-37.is _ c.on-in-37.ensures in
    record { is = w.0; moves = w.1 }

pub returns-in-40 : goal.returns-in-40
returns-in-40 c =
    let w = outside_step _ _ c.if-s-here.false _ c.operand.ensures _ c.operand-name.ensures c.in-40.is _ c.on-in-40.ensures in
    record { is = w.0; moves = w.1 }

pub returns-in_default : goal.returns-in_default
returns-in_default c =
    let w = done_step _ _ c.if-s-here.false _ c.operand.ensures (λ e. omega arith) (λ e. omega arith) (λ e. omega arith) in
    record { is = w.0; moves = w.1 }
