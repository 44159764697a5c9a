use Prim.Native.Nat.{◌≤◌, ◌<◌}
use mathlib.Core.Path.{◌≡◌, refl}
use Rattle.std.proofs.Common.{Err, rules}
use native.Mathlib.Omega.{arith}
use lib.ListN.{length-set}
use Rattle.programs.proofs.Laws.{stay_below}
use Rattle.summaries.proofs.Here.{HeadStands, head_stands}
use Rattle.summaries.proofs.Heads.{none_written, unwritten_after, heads_refused, heads_end, items_refuse, number_low, fewer_after, heads_go_on}
use Rattle.summaries.proofs.read_proposal.Goals as goal

pub loop-code-init : goal.loop-code-init
loop-code-init c = let e = c.requires.1 in (rw e, none_written _ e, λ kept r k h. h)

pub returns-in_default : goal.returns-in_default
returns-in_default c = c.loop-code.invariant.2 _ _ (record { same = λ i l. refl }) (search heads_refused)

pub returns-then-code-eq79 : goal.returns-then-code-eq79
returns-then-code-eq79 c = c.loop-code.invariant.2 _ _ (record { same = λ i l. refl }) (search heads_end)

pub bounds-heads-number : goal.bounds-heads-number
bounds-heads-number c =
    let st : HeadStands c.args.points c.args.s.now c.loop-code.least c.loop-code.at.at c.in-Moved.code c.in-Moved.next = head_stands _ _ _ _ _ _ _ c.head_here-d.ensures c.in-Moved.is c.if-code-eq79.false in
    number_low _ _ _ _ _ _ _ st c.if-code-eq79.false c.requires.0 c.head_number-number.ensures

pub offset_bounds-heads-number : goal.offset_bounds-heads-number
offset_bounds-heads-number c =
    let st : HeadStands c.args.points c.args.s.now c.loop-code.least c.loop-code.at.at c.in-Moved.code c.in-Moved.next = head_stands _ _ _ _ _ _ _ c.head_here-d.ensures c.in-Moved.is c.if-code-eq79.false in
    let lo : c.head_number-number.result < 256 = number_low _ _ _ _ _ _ _ st c.if-code-eq79.false c.requires.0 c.head_number-number.ensures in
    omega arith

pub returns-in_err-at : goal.returns-in_err-at
returns-in_err-at c =
    let st : HeadStands c.args.points c.args.s.now c.loop-code.least c.loop-code.at.at c.in-Moved.code c.in-Moved.next = head_stands _ _ _ _ _ _ _ c.head_here-d.ensures c.in-Moved.is c.if-code-eq79.false in
    let ri : c.loop-code.least ≤ c.head_number-number.result = rw c.head_number-number.ensures st.rises in
    let up : c.from_residual.result ≡ Err c.in_err-at.field-0.0 = search rules in
    rw up (c.loop-code.invariant.2 _ _
    (stay_below _ _ _ c.loop-code.heads _ ri (record { same = λ i l. refl }))
    (items_refuse _ _ _ _ _ _ _ _ c.head_here-d.ensures c.in-Moved.is c.if-code-eq79.false st _ c.operand.ensures _ c.context_of.ensures _ c.read_holdings.ensures _ _ c.in_err-at.was))

pub overflow_add-least : goal.overflow_add-least
overflow_add-least c =
    let st : HeadStands c.args.points c.args.s.now c.loop-code.least c.loop-code.at.at c.in-Moved.code c.in-Moved.next = head_stands _ _ _ _ _ _ _ c.head_here-d.ensures c.in-Moved.is c.if-code-eq79.false in
    let lo : c.head_number-number.result < 256 = number_low _ _ _ _ _ _ _ st c.if-code-eq79.false c.requires.0 c.head_number-number.ensures in
    omega arith

pub loop-code-smaller : goal.loop-code-smaller
loop-code-smaller c =
    let st : HeadStands c.args.points c.args.s.now c.loop-code.least c.loop-code.at.at c.in-Moved.code c.in-Moved.next = head_stands _ _ _ _ _ _ _ c.head_here-d.ensures c.in-Moved.is c.if-code-eq79.false in
    fewer_after _ _ _ _ _ _ _ _ c.head_here-d.ensures c.in-Moved.is c.if-code-eq79.false st _ c.operand.ensures _ c.context_of.ensures _ c.read_holdings.ensures _ c.in_ok-at.was

pub loop-code-preserved : goal.loop-code-preserved
loop-code-preserved c =
    let st : HeadStands c.args.points c.args.s.now c.loop-code.least c.loop-code.at.at c.in-Moved.code c.in-Moved.next = head_stands _ _ _ _ _ _ _ c.head_here-d.ensures c.in-Moved.is c.if-code-eq79.false in
    let ri : c.loop-code.least ≤ c.head_number-number.result = rw c.head_number-number.ensures st.rises in
    let lo : c.head_number-number.result < 256 = number_low _ _ _ _ _ _ _ st c.if-code-eq79.false c.requires.0 c.head_number-number.ensures in (
      simp length-set c.loop-code.invariant.0,
      unwritten_after _ _ _ _ ri c.loop-code.invariant.1,
      λ kept r k h. c.loop-code.invariant.2 kept r (stay_below _ _ _ c.loop-code.heads _ ri k)
          (heads_go_on _ _ _ _ _ _ _ _ c.head_here-d.ensures c.in-Moved.is c.if-code-eq79.false st _ c.operand.ensures _ c.context_of.ensures _ c.read_holdings.ensures _ c.in_ok-at.was
          _ c.head_number-number.ensures c.loop-code.heads c.loop-code.invariant.0 lo c.loop-code.invariant.1 kept k r h),
    )
