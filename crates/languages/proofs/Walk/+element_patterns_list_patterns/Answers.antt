use mathlib.Core.Path.{refl, sym, ◌∙◌}
use native.Mathlib.Omega.{arith}
use lib.Dec.{lit<}
use borrow.Author.Tests.{not-true, not-false}
use Rattle.pages.proofs.Steps.{text_moves, blank_moves, gap_moves, element_moves, end_moves}
use Rattle.languages.proofs.Lines.{content_absent, gap_absent}
use Rattle.languages.proofs.Lists.{list_had, unfilled, stuck, full, list_begins, list_text, list_blank, list_gap, list_none, list_element, list_nothing, list_ends}
use Rattle.languages.proofs.Walk.+element_patterns_list_patterns.Goals as goal

pub element_patterns-returns-then-not-filled : goal.element_patterns-returns-then-not-filled
element_patterns-returns-then-not-filled t c = let a = c.args in
    record { forward = c.attributes_take-filled.ensures.forward; patterned = unfilled _ _ a.e a.self.now.r _ _ a.takes.now c.attributes_take-filled.result c.attributes_take-filled.ensures.filled (not-true _ c.if-not-filled.true) _ c.empty.ensures }

pub element_patterns-returns-then-is_empty : goal.element_patterns-returns-then-is_empty
element_patterns-returns-then-is_empty t c = let a = c.args in
    record { forward = omega (arith, c.attributes_take-filled.ensures.forward, c.list_patterns-inside.ensures.forward); patterned = stuck _ _ a.e a.self.now.r _ _ a.takes.now c.attributes_take-filled.result c.attributes_take-filled.ensures.filled c.list_patterns-inside.result c.list_patterns-inside.ensures.patterned c.is_empty.result c.is_empty.ensures c.if-is_empty.true }

pub element_patterns-returns : goal.element_patterns-returns
element_patterns-returns t c = let a = c.args in
    record {
      forward = omega (arith, c.attributes_take-filled.ensures.forward, c.list_patterns-inside.ensures.forward);
      patterned = full _ _ a.e a.self.now.r _ _ a.takes.now c.attributes_take-filled.result c.attributes_take-filled.ensures.filled c.list_patterns-inside.result c.list_patterns-inside.ensures.patterned c.is_empty.result c.is_empty.ensures c.if-is_empty.false (not-false _ c.if-not-filled.false)
          _ c.single.ensures _ c.only.ensures;
    }

pub list_patterns-loop-next-init : goal.list_patterns-loop-next-init
list_patterns-loop-next-init t c = list_begins _ _ _ _ _ _ _ _ _ _ c.only.ensures c.line_of-line.ensures

pub list_patterns-loop-next-smaller-then-has : goal.list_patterns-loop-next-smaller-then-has
list_patterns-loop-next-smaller-then-has t c = let m = text_moves _ _ _ c.item_here.ensures.moves _ c.in-Text.is in
    omega (arith, m.inside, m.forward)

pub list_patterns-loop-next-preserved-then-has : goal.list_patterns-loop-next-preserved-then-has
list_patterns-loop-next-preserved-then-has t c = let q = c.in-Text.is in
    list_text _ _ _ _ _ _ _ _ _ _ c.loop-next.invariant _ c.item_here.ensures.is _ q (text_moves _ _ _ c.item_here.ensures.moves _ q).forward _ c.with_content-longer.ensures

pub list_patterns-loop-next-smaller-else-has : goal.list_patterns-loop-next-smaller-else-has
list_patterns-loop-next-smaller-else-has t c = let m = text_moves _ _ _ c.item_here.ensures.moves _ c.in-Text.is in
    omega (arith, m.inside, m.forward)

pub list_patterns-loop-next-preserved-else-has : goal.list_patterns-loop-next-preserved-else-has
list_patterns-loop-next-preserved-else-has t c = let q = c.in-Text.is in
    list_text _ _ _ _ _ _ _ _ _ _ c.loop-next.invariant _ c.item_here.ensures.is _ q (text_moves _ _ _ c.item_here.ensures.moves _ q).forward _ (content_absent _ c.loop-next.line 0 (lit< tt) (sym c.has.ensures ∙ c.if-has.false))

pub list_patterns-has-requires-in-Gap : goal.list_patterns-has-requires-in-Gap
list_patterns-has-requires-in-Gap t c = omega (arith, (gap_moves _ _ _ c.item_here.ensures.moves _ _ c.in-Gap.is).1)

pub list_patterns-with_gap-longer-requires : goal.list_patterns-with_gap-longer-requires
list_patterns-with_gap-longer-requires t c = (gap_moves _ _ _ c.item_here.ensures.moves _ _ c.in-Gap.is).1

pub list_patterns-returns-then-is_empty : goal.list_patterns-returns-then-is_empty
list_patterns-returns-then-is_empty t c = let q = c.in-Gap.is in
    record {
      forward = omega (arith, c.loop-next.invariant.forward, (gap_moves _ _ _ c.item_here.ensures.moves _ _ q).0.forward);
      patterned = list_had _ _ _ _ c.args.takes.now _ _ (list_none _ _ _ _ _ _ _ _ _ _ c.loop-next.invariant _ c.item_here.ensures.is _ _ q c.with_gap-longer.result c.with_gap-longer.ensures c.is_empty.result c.if-is_empty.true c.is_empty.ensures _ refl);
    }

pub list_patterns-loop-next-smaller-then-has-2 : goal.list_patterns-loop-next-smaller-then-has-2
list_patterns-loop-next-smaller-then-has-2 t c = let m = (gap_moves _ _ _ c.item_here.ensures.moves _ _ c.in-Gap.is).0 in
    omega (arith, m.inside, m.forward)

pub list_patterns-loop-next-preserved-then-has-2 : goal.list_patterns-loop-next-preserved-then-has-2
list_patterns-loop-next-preserved-then-has-2 t c = let q = c.in-Gap.is in
    let m = gap_moves _ _ _ c.item_here.ensures.moves _ _ q in
    list_gap _ _ _ _ _ _ _ _ _ _ c.loop-next.invariant _ c.item_here.ensures.is _ _ q m.0.forward _ c.with_gap-longer.ensures

pub list_patterns-loop-next-smaller-else-has-2 : goal.list_patterns-loop-next-smaller-else-has-2
list_patterns-loop-next-smaller-else-has-2 t c = let m = (gap_moves _ _ _ c.item_here.ensures.moves _ _ c.in-Gap.is).0 in
    omega (arith, m.inside, m.forward)

pub list_patterns-loop-next-preserved-else-has-2 : goal.list_patterns-loop-next-preserved-else-has-2
list_patterns-loop-next-preserved-else-has-2 t c = let q = c.in-Gap.is in
    let m = gap_moves _ _ _ c.item_here.ensures.moves _ _ q in
    list_gap _ _ _ _ _ _ _ _ _ _ c.loop-next.invariant _ c.item_here.ensures.is _ _ q m.0.forward _ (gap_absent _ _ c.loop-next.line _ m.1 (sym c.has-in-Gap.ensures ∙ c.if-has-2.false))

pub list_patterns-element_patterns-element-requires : goal.list_patterns-element_patterns-element-requires
list_patterns-element_patterns-element-requires t c = let m = element_moves _ _ _ c.item_here.ensures.moves _ _ c.in-Element.is in
    (omega (arith, m.0.inside, m.0.forward, c.loop-next.invariant.forward, c.decreases), m.1)

pub list_patterns-returns-then-is_empty-2 : goal.list_patterns-returns-then-is_empty-2
list_patterns-returns-then-is_empty-2 t c = let q = c.in-Element.is in
    record {
      forward = omega (arith, c.loop-next.invariant.forward, (element_moves _ _ _ c.item_here.ensures.moves _ _ q).0.forward, c.element_patterns-element.ensures.forward);
      patterned = list_had _ _ _ _ c.args.takes.now _ _ (list_nothing _ _ _ _ _ _ _ _ _ _ c.loop-next.invariant _ c.item_here.ensures.is _ _ q c.element_patterns-element.result c.element_patterns-element.ensures.patterned c.is_empty-in-Element.result c.is_empty-in-Element.ensures c.if-is_empty-2.true);
    }

pub list_patterns-has-requires-in-Element : goal.list_patterns-has-requires-in-Element
list_patterns-has-requires-in-Element t c = (element_moves _ _ _ c.item_here.ensures.moves _ _ c.in-Element.is).1

pub list_patterns-with_content-longer-requires-then-has-3 : goal.list_patterns-with_content-longer-requires-then-has-3
list_patterns-with_content-longer-requires-then-has-3 t c = (element_moves _ _ _ c.item_here.ensures.moves _ _ c.in-Element.is).1

pub list_patterns-loop-next-smaller-then-has-3 : goal.list_patterns-loop-next-smaller-then-has-3
list_patterns-loop-next-smaller-then-has-3 t c = let m = (element_moves _ _ _ c.item_here.ensures.moves _ _ c.in-Element.is).0 in
    omega (arith, m.inside, m.forward, c.element_patterns-element.ensures.forward)

pub list_patterns-loop-next-preserved-then-has-3 : goal.list_patterns-loop-next-preserved-then-has-3
list_patterns-loop-next-preserved-then-has-3 t c = let q = c.in-Element.is in
    let m = element_moves _ _ _ c.item_here.ensures.moves _ _ q in
    list_element _ _ _ _ _ _ _ _ _ _ c.loop-next.invariant _ c.item_here.ensures.is _ _ q c.element_patterns-element.result c.element_patterns-element.ensures.patterned c.is_empty-in-Element.result c.is_empty-in-Element.ensures c.if-is_empty-2.false
    (omega (arith, m.0.forward, c.element_patterns-element.ensures.forward)) _ c.with_content-longer-then-has-3.ensures

pub list_patterns-loop-next-smaller-else-has-3 : goal.list_patterns-loop-next-smaller-else-has-3
list_patterns-loop-next-smaller-else-has-3 t c = let m = (element_moves _ _ _ c.item_here.ensures.moves _ _ c.in-Element.is).0 in
    omega (arith, m.inside, m.forward, c.element_patterns-element.ensures.forward)

pub list_patterns-loop-next-preserved-else-has-3 : goal.list_patterns-loop-next-preserved-else-has-3
list_patterns-loop-next-preserved-else-has-3 t c = let q = c.in-Element.is in
    let m = element_moves _ _ _ c.item_here.ensures.moves _ _ q in
    list_element _ _ _ _ _ _ _ _ _ _ c.loop-next.invariant _ c.item_here.ensures.is _ _ q c.element_patterns-element.result c.element_patterns-element.ensures.patterned c.is_empty-in-Element.result c.is_empty-in-Element.ensures c.if-is_empty-2.false
    (omega (arith, m.0.forward, c.element_patterns-element.ensures.forward)) _ (content_absent _ c.loop-next.line _ m.1 (sym c.has-in-Element.ensures ∙ c.if-has-3.false))

pub list_patterns-loop-next-smaller : goal.list_patterns-loop-next-smaller
list_patterns-loop-next-smaller t c = let m = blank_moves _ _ _ c.item_here.ensures.moves _ c.in-Blank.is in
    omega (arith, m.inside, m.forward)

pub list_patterns-loop-next-preserved : goal.list_patterns-loop-next-preserved
list_patterns-loop-next-preserved t c = let q = c.in-Blank.is in
    list_blank _ _ _ _ _ _ _ _ _ _ c.loop-next.invariant _ c.item_here.ensures.is _ q (blank_moves _ _ _ c.item_here.ensures.moves _ q).forward

pub list_patterns-returns-in-End : goal.list_patterns-returns-in-End
list_patterns-returns-in-End t c = let q = c.in-End.is in
    record { forward = omega (arith, c.loop-next.invariant.forward, end_moves _ _ _ c.item_here.ensures.moves _ q); patterned = list_had _ _ _ _ c.args.takes.now _ _ (list_ends _ _ _ _ _ _ _ _ c.loop-next.line _ c.loop-next.invariant _ c.item_here.ensures.is _ q) }
