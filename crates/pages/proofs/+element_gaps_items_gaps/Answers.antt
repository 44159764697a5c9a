use mathlib.Core.Path.{refl}
use native.Mathlib.Omega.{arith}
use Rattle.pages.proofs.Steps.{text_moves, blank_moves, gap_moves, element_moves, end_moves}
use Rattle.pages.proofs.Gathering.{onto_start, text_gaps, blank_gaps, gap_gaps, element_gaps_go, end_gaps, inner_gaps}
use Rattle.pages.proofs.+element_gaps_items_gaps.Goals as goal

pub element_gaps-items_gaps-requires : goal.element_gaps-items_gaps-requires
element_gaps-items_gaps-requires t c = (omega (arith, c.attribute_gaps-named.ensures.forward), tt)

pub element_gaps-returns : goal.element_gaps-returns
element_gaps-returns t c = record {
  forward = omega (arith, c.attribute_gaps-named.ensures.forward, c.items_gaps.ensures.forward);
  found = inner_gaps _ _ _ c.attribute_gaps-named.result c.items_gaps.result c.attribute_gaps-named.ensures.found c.items_gaps.ensures.found;
}

pub items_gaps-loop-next-init : goal.items_gaps-loop-next-init
items_gaps-loop-next-init t c = onto_start _ _ _

pub items_gaps-loop-next-smaller-in-Text : goal.items_gaps-loop-next-smaller-in-Text
items_gaps-loop-next-smaller-in-Text t c = let m = text_moves _ _ _ c.item_here-item.ensures.moves _ c.in-Text.is in
    omega (arith, m.inside, m.forward)

pub items_gaps-loop-next-preserved-in-Text : goal.items_gaps-loop-next-preserved-in-Text
items_gaps-loop-next-preserved-in-Text t c = text_gaps _ _ _ c.item_here-item.ensures.is c.item_here-item.ensures.moves _ _ _ c.loop-next.invariant _ c.in-Text.is

pub items_gaps-with-requires : goal.items_gaps-with-requires
items_gaps-with-requires t c = let m = gap_moves _ _ _ c.item_here-item.ensures.moves _ _ c.in-Gap.is in
    omega (arith, m.1)

pub items_gaps-loop-next-smaller-in-Gap : goal.items_gaps-loop-next-smaller-in-Gap
items_gaps-loop-next-smaller-in-Gap t c = let m = (gap_moves _ _ _ c.item_here-item.ensures.moves _ _ c.in-Gap.is).0 in
    omega (arith, m.inside, m.forward)

pub items_gaps-loop-next-preserved-in-Gap : goal.items_gaps-loop-next-preserved-in-Gap
items_gaps-loop-next-preserved-in-Gap t c = gap_gaps _ _ _ c.item_here-item.ensures.is c.item_here-item.ensures.moves _ _ _ c.loop-next.invariant _ _ c.in-Gap.is _ c.with.ensures

pub items_gaps-element_gaps-found-requires : goal.items_gaps-element_gaps-found-requires
items_gaps-element_gaps-found-requires t c = let m = (element_moves _ _ _ c.item_here-item.ensures.moves _ _ c.in-Element.is).0 in
    (omega (arith, m.inside, m.forward, c.loop-next.invariant.forward), tt)

pub items_gaps-loop-next-smaller-in-Element : goal.items_gaps-loop-next-smaller-in-Element
items_gaps-loop-next-smaller-in-Element t c = let m = (element_moves _ _ _ c.item_here-item.ensures.moves _ _ c.in-Element.is).0 in
    omega (arith, m.inside, m.forward, c.element_gaps-found.ensures.forward)

pub items_gaps-loop-next-preserved-in-Element : goal.items_gaps-loop-next-preserved-in-Element
items_gaps-loop-next-preserved-in-Element t c = element_gaps_go _ _ _ c.item_here-item.ensures.is c.item_here-item.ensures.moves _ _ _ c.loop-next.invariant _ _ c.in-Element.is c.element_gaps-found.result c.element_gaps-found.ensures.forward c.element_gaps-found.ensures.found

pub items_gaps-loop-next-smaller : goal.items_gaps-loop-next-smaller
items_gaps-loop-next-smaller t c = let m = blank_moves _ _ _ c.item_here-item.ensures.moves _ c.in-Blank.is in
    omega (arith, m.inside, m.forward)

pub items_gaps-loop-next-preserved : goal.items_gaps-loop-next-preserved
items_gaps-loop-next-preserved t c = blank_gaps _ _ _ c.item_here-item.ensures.is c.item_here-item.ensures.moves _ _ _ c.loop-next.invariant _ c.in-Blank.is

pub items_gaps-returns-in-End : goal.items_gaps-returns-in-End
items_gaps-returns-in-End t c = let q = c.in-End.is in
    record {
      forward = omega (arith, c.loop-next.invariant.forward, end_moves _ _ _ c.item_here-item.ensures.moves _ q);
      found = end_gaps _ _ _ c.item_here-item.ensures.is c.item_here-item.ensures.moves _ _ _ c.loop-next.invariant _ q _ refl refl;
    }
