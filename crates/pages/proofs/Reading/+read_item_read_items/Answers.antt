use mathlib.Core.Path.{◌≡◌, sym, ◌∙◌}
use native.Mathlib.Omega.{arith}
use borrow.Author.Rules.{rules}
use Rattle.std.specs.Prelude.{Err}
use Rattle.commands.specs.declared.Decoded.TheVariants.{Moved}
use Rattle.commands.specs.Commands.{command}
use Rattle.commands.proofs.Laws.{moved}
use Rattle.pages.proofs.Laws.{element_range}
use Rattle.pages.proofs.Agreement.{items_end, items_refused, items_next, list_ended, list_goes_on, item_refused, item_leaf, item_missing, item_deep, item_attributes_refused, item_element, item_permitted}
use Rattle.pages.proofs.Trees.{attributes_onward, item_onward}
use Rattle.pages.proofs.Reading.+read_item_read_items.Goals as goal

pub read_item-item_command-d-requires : goal.read_item-item_command-d-requires
read_item-item_command-d-requires t c =
    rw c.allowed.ensures.items (item_permitted c.args.kind)

pub read_item-returns-in_default : goal.read_item-returns-in_default
read_item-returns-in_default t c = search item_refused

pub read_item-returns-then-code-ne35 : goal.read_item-returns-then-code-ne35
read_item-returns-then-code-ne35 t c = search item_leaf

pub read_item-has-requires : goal.read_item-has-requires
read_item-has-requires t c =
    let range = element_range _ _ _ _ _ (sym c.item_command-d.ensures ∙ c.in-Moved.is) c.if-code-ne35.false in
    omega (arith, c.operand.ensures)

pub read_item-returns-then-not-has : goal.read_item-returns-then-not-has
read_item-returns-then-not-has t c = search item_missing

pub read_item-returns-then-allowed-depth : goal.read_item-returns-then-allowed-depth
read_item-returns-then-allowed-depth t c = search item_deep

pub read_item-returns-in_err-inside : goal.read_item-returns-in_err-inside
read_item-returns-in_err-inside t c = search (rules, item_attributes_refused)

pub read_item-overflow_add-depth : goal.read_item-overflow_add-depth
read_item-overflow_add-depth t c =
    omega (arith, c.if-allowed-depth.false, c.allowed-2.type_inv)

pub read_item-read_items-requires : goal.read_item-read_items-requires
read_item-read_items-requires t c =
    let stands : command c.allowed.result.items c.args.self.s.now c.args.here.at ≡ Moved c.in-Moved.code c.in-Moved.next = sym c.item_command-d.ensures ∙ c.in-Moved.is in
    let m = moved _ _ _ _ _ stands in
    let i = attributes_onward _ _ _ _ _ _ c.in_ok-inside.was c.read_attributes.ensures m.inside in
    (omega (arith, i, m.forward), tt)

pub read_item-returns-in_err-after : goal.read_item-returns-in_err-after
read_item-returns-in_err-after t c =
    let up : c.from_residual-in_err-after.result ≡ Err c.in_err-after.field-0.0 = search rules in
    rw up (item_element _ _ c.allowed.ensures.items _ _ _ _ _ c.item_command-d.ensures _ _ c.in-Moved.is c.if-code-ne35.false _ c.operand.ensures _ c.has.ensures _ c.allowed-2.ensures.nesting c.if-not-has.false c.if-allowed-depth.false _ c.read_attributes.ensures _ _ c.in_ok-inside.was (rw c.in_err-after.was at c.read_items.ensures))

pub read_item-returns : goal.read_item-returns
read_item-returns t c =
    item_element _ _ c.allowed.ensures.items _ _ _ _ _ c.item_command-d.ensures _ _ c.in-Moved.is c.if-code-ne35.false _ c.operand.ensures _ c.has.ensures _ c.allowed-2.ensures.nesting c.if-not-has.false c.if-allowed-depth.false _ c.read_attributes.ensures _ _ c.in_ok-inside.was (rw c.in_ok-after.was at c.read_items.ensures)

pub read_items-loop-next-init : goal.read_items-loop-next-init
read_items-loop-next-init t c =
    (omega arith, λ r h. h)

pub read_items-returns-in-Some : goal.read_items-returns-in-Some
read_items-returns-in-Some t c =
    let e = list_ended _ c.args.depth _ _ c.end_of-end.ensures _ c.past.ensures _ c.in-Some.is in
    c.loop-next.invariant.1 _ (items_end _ _ _ _ _ _ e.0 e.1)

pub read_items-read_item-requires : goal.read_items-read_item-requires
read_items-read_item-requires t c =
    (omega (arith, c.loop-next.invariant.0, c.decreases), tt)

pub read_items-returns-in_err-p : goal.read_items-returns-in_err-p
read_items-returns-in_err-p t c =
    let goes_on = list_goes_on _ c.args.depth _ _ c.end_of-end.ensures _ c.past.ensures c.in_default.is in
    let up : c.from_residual.result ≡ Err c.in_err-p.field-0.0 = search rules in
    c.loop-next.invariant.1 _ (rw up (items_refused _ _ _ _ _ goes_on _ c.read_item.ensures _ c.in_err-p.was))

pub read_items-loop-next-smaller : goal.read_items-loop-next-smaller
read_items-loop-next-smaller t c =
    let o = item_onward _ _ _ _ _ _ _ c.in_ok-p.was c.read_item.ensures in
    omega (arith, o.forward, o.within)

pub read_items-loop-next-preserved : goal.read_items-loop-next-preserved
read_items-loop-next-preserved t c =
    let q = c.in_ok-p.was in
    let goes_on = list_goes_on _ c.args.depth _ _ c.end_of-end.ensures _ c.past.ensures c.in_default.is in
    let o = item_onward _ _ _ _ _ _ _ q c.read_item.ensures in
    (omega (arith, o.forward, c.loop-next.invariant.0), λ r h. c.loop-next.invariant.1 r (items_next _ _ _ _ _ goes_on _ c.read_item.ensures _ r q h))
