use native.Mathlib.Omega.{arith}
use borrow.Author.Tests.{not-true, not-false}
use Rattle.commands.proofs.Laws.{past_over, past_other}
use Rattle.judging.proofs.Shapes.{table_shaped, all_met, none_more, one_fails, one_more, one_settled, end_settled}
use Rattle.judging.proofs.first_failing.Goals as goal

pub returns-in_default : goal.returns-in_default
returns-in_default c = let a = c.args in
    let n = none_more c.loop-here.invariant (table_shaped a.shape a.strings.now a.order.now) (past_other _ _ _ _ c.past.ensures c.in_default.is (λ q. omega (arith, q))) in
    record { first = n.0; settled = n.1 }

pub returns-then-not-held : goal.returns-then-not-held
returns-then-not-held c = let a = c.args in
    let o = past_over _ _ _ _ _ c.past.ensures c.in-Some.is in
    let S = table_shaped a.shape a.strings.now a.order.now in
    record {
      first = one_fails c.loop-here.invariant S o.1 o.2 c.holds-held.ensures.truth (not-true _ c.if-not-held.true);
      settled = end_settled _ _ _ (omega arith);
    }

pub overflow_add-place : goal.overflow_add-place
overflow_add-place c = let o = past_over _ _ _ _ _ c.past.ensures c.in-Some.is in
    omega (arith, o.0, c.loop-here.invariant.few, c.well_formed.0.1)

pub loop-here-smaller-then-to-v : goal.loop-here-smaller-then-to-v
loop-here-smaller-then-to-v c = let o = past_over _ _ _ _ _ c.past.ensures c.in-Some.is in
    omega (arith, o.0, o.2, c.holds-held.ensures.forward)

pub loop-here-preserved-then-to-v : goal.loop-here-preserved-then-to-v
loop-here-preserved-then-to-v c = let a = c.args in
    let o = past_over _ _ _ _ _ c.past.ensures c.in-Some.is in
    let S = table_shaped a.shape a.strings.now a.order.now in
    one_more c.loop-here.invariant S o.1 o.2 c.holds-held.ensures.truth (not-false _ c.if-not-held.false) (omega (arith, o.0, o.2, c.holds-held.ensures.forward))

pub loop-here-smaller-then-not-same : goal.loop-here-smaller-then-not-same
loop-here-smaller-then-not-same c = let o = past_over _ _ _ _ _ c.past.ensures c.in-Some.is in
    omega (arith, o.0, o.2, c.holds-held.ensures.forward)

pub loop-here-preserved-then-not-same : goal.loop-here-preserved-then-not-same
loop-here-preserved-then-not-same c = let a = c.args in
    let o = past_over _ _ _ _ _ c.past.ensures c.in-Some.is in
    let S = table_shaped a.shape a.strings.now a.order.now in
    one_more c.loop-here.invariant S o.1 o.2 c.holds-held.ensures.truth (not-false _ c.if-not-held.false) (omega (arith, o.0, o.2, c.holds-held.ensures.forward))

pub loop-here-smaller : goal.loop-here-smaller
loop-here-smaller c = let o = past_over _ _ _ _ _ c.past.ensures c.in-Some.is in
    omega (arith, o.0, o.2, c.holds-held.ensures.forward)

pub loop-here-preserved : goal.loop-here-preserved
loop-here-preserved c = let a = c.args in
    let o = past_over _ _ _ _ _ c.past.ensures c.in-Some.is in
    let S = table_shaped a.shape a.strings.now a.order.now in
    one_settled c.loop-here.invariant S o.1 o.2 c.holds-held.ensures.truth (not-false _ c.if-not-held.false) (omega (arith, o.0, o.2, c.holds-held.ensures.forward)) c.is_settled-same.ensures.settled (not-false _ c.if-not-same.false)

pub returns : goal.returns
returns c = let a = c.args in
    let m = all_met c.loop-here.invariant (table_shaped a.shape a.strings.now a.order.now) (rw c.loop-here-test.false c.requires) in
    record { first = m.0; settled = m.1 }
