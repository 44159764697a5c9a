use native.Mathlib.Omega.{arith}
use lib.ListN.{length-set}
use Rattle.pages.proofs.Steps.{text_moves, blank_moves, gap_moves, element_moves, end_moves}
use Rattle.occurrences.proofs.Elements.{element_stands, element_keeps}
use Rattle.occurrences.proofs.Outlining.{adds_all, list_ends, list_text, list_blank, list_gap, list_element, element_told}
use Rattle.occurrences.proofs.+outline_element_outline_items.Goals as goal

pub outline_element-with-requires : goal.outline_element-with-requires
outline_element-with-requires t c = c.requires.2

pub outline_element-outline_items-requires : goal.outline_element-outline_items-requires
outline_element-outline_items-requires t c = let pre = c.requires in
    (omega (arith, c.after_attributes-inside.ensures.forward), (simp length-set pre.0, pre.2))

pub outline_element-returns : goal.outline_element-returns
outline_element-returns t c = let args = c.args in
    let pre = c.requires in
    record {
      forward = omega (arith, c.after_attributes-inside.ensures.forward, c.outline_items.ensures.forward);
      long = c.outline_items.ensures.long;
      keeps = λ m k T. c.outline_items.ensures.keeps m k (element_keeps args.table.now pre.0 args.n args.e pre.1 c.with.result c.with.ensures m k T);
      told = element_told args.s.now args.n args.start args.e c.after_attributes-inside.result c.after_attributes-inside.ensures.after _
          (element_stands args.table.now pre.0 args.n args.e pre.1 c.with.result c.with.ensures)
          c.outline_items.result _ c.outline_items.ensures.keeps c.outline_items.ensures.told;
    }

pub outline_items-loop-next-init : goal.outline_items-loop-next-init
outline_items-loop-next-init t c = record { forward = omega arith; room = c.requires.0; keeps = λ m k T. T; goes = λ r larger K A. A }

pub outline_items-with-contents-requires : goal.outline_items-with-contents-requires
outline_items-with-contents-requires t c = omega arith

pub outline_items-loop-next-smaller-in-Text : goal.outline_items-loop-next-smaller-in-Text
outline_items-loop-next-smaller-in-Text t c = let m = text_moves _ _ _ c.item_here.ensures.moves _ c.in-Text.is in
    omega (arith, m.inside, m.forward)

pub outline_items-loop-next-preserved-in-Text : goal.outline_items-loop-next-preserved-in-Text
outline_items-loop-next-preserved-in-Text t c = let stands = c.in-Text.is in
    let m = text_moves _ _ _ c.item_here.ensures.moves _ stands in
    record {
      forward = omega (arith, c.loop-next.invariant.forward, m.forward);
      room = c.loop-next.invariant.room;
      keeps = c.loop-next.invariant.keeps;
      goes = λ r larger K A. c.loop-next.invariant.goes r larger K (list_text _ _ _ _ _ c.item_here.result c.item_here.ensures.is r larger _ stands _ c.with-contents.ensures A);
    }

pub outline_items-with-gaps-requires : goal.outline_items-with-gaps-requires
outline_items-with-gaps-requires t c = omega (arith, (gap_moves _ _ _ c.item_here.ensures.moves _ _ c.in-Gap.is).1)

pub outline_items-loop-next-smaller-in-Gap : goal.outline_items-loop-next-smaller-in-Gap
outline_items-loop-next-smaller-in-Gap t c = let m = gap_moves _ _ _ c.item_here.ensures.moves _ _ c.in-Gap.is in
    omega (arith, m.0.inside, m.0.forward)

pub outline_items-loop-next-preserved-in-Gap : goal.outline_items-loop-next-preserved-in-Gap
outline_items-loop-next-preserved-in-Gap t c = let stands = c.in-Gap.is in
    let m = gap_moves _ _ _ c.item_here.ensures.moves _ _ stands in
    record {
      forward = omega (arith, c.loop-next.invariant.forward, m.0.forward);
      room = c.loop-next.invariant.room;
      keeps = c.loop-next.invariant.keeps;
      goes = λ r larger K A. c.loop-next.invariant.goes r larger K (list_gap _ _ _ _ _ c.item_here.result c.item_here.ensures.is r larger _ m.1 _ stands _ c.with-gaps.ensures A);
    }

pub outline_items-with-contents-requires-in-Element : goal.outline_items-with-contents-requires-in-Element
outline_items-with-contents-requires-in-Element t c = (element_moves _ _ _ c.item_here.ensures.moves _ _ c.in-Element.is).1

pub outline_items-outline_element-here-requires : goal.outline_items-outline_element-here-requires
outline_items-outline_element-here-requires t c = let m = element_moves _ _ _ c.item_here.ensures.moves _ _ c.in-Element.is in
    (omega (arith, m.0.inside, m.0.forward, c.loop-next.invariant.forward), (c.loop-next.invariant.room, m.1, c.requires.1))

pub outline_items-loop-next-smaller-in-Element : goal.outline_items-loop-next-smaller-in-Element
outline_items-loop-next-smaller-in-Element t c = let m = element_moves _ _ _ c.item_here.ensures.moves _ _ c.in-Element.is in
    omega (arith, m.0.inside, m.0.forward, c.outline_element-here.ensures.forward)

pub outline_items-loop-next-preserved-in-Element : goal.outline_items-loop-next-preserved-in-Element
outline_items-loop-next-preserved-in-Element t c = let stands = c.in-Element.is in
    let m = element_moves _ _ _ c.item_here.ensures.moves _ _ stands in
    record {
      forward = omega (arith, c.loop-next.invariant.forward, m.0.forward, c.outline_element-here.ensures.forward);
      room = c.outline_element-here.ensures.long;
      keeps = λ a b T. c.outline_element-here.ensures.keeps a b (c.loop-next.invariant.keeps a b T);
      goes = λ r larger K A. c.loop-next.invariant.goes r larger (λ a b T. K a b (c.outline_element-here.ensures.keeps a b T))
          (list_element _ _ _ _ _ c.item_here.result c.item_here.ensures.is r larger _ _ stands _ c.with-contents-in-Element.ensures c.outline_element-here.result _ K c.outline_element-here.ensures.told A);
    }

pub outline_items-loop-next-smaller : goal.outline_items-loop-next-smaller
outline_items-loop-next-smaller t c = let m = blank_moves _ _ _ c.item_here.ensures.moves _ c.in-Blank.is in
    omega (arith, m.inside, m.forward)

pub outline_items-loop-next-preserved : goal.outline_items-loop-next-preserved
outline_items-loop-next-preserved t c = let is_blank = c.in-Blank.is in
    let m = blank_moves _ _ _ c.item_here.ensures.moves _ is_blank in
    record {
      forward = omega (arith, c.loop-next.invariant.forward, m.forward);
      room = c.loop-next.invariant.room;
      keeps = c.loop-next.invariant.keeps;
      goes = λ r larger K A. c.loop-next.invariant.goes r larger K (list_blank _ _ _ _ _ c.item_here.result c.item_here.ensures.is r larger _ is_blank A);
    }

pub outline_items-returns-in-End : goal.outline_items-returns-in-End
outline_items-returns-in-End t c = let stands = c.in-End.is in
    record {
      forward = omega (arith, c.loop-next.invariant.forward, end_moves _ _ _ c.item_here.ensures.moves _ stands);
      long = c.loop-next.invariant.room;
      keeps = c.loop-next.invariant.keeps;
      told = adds_all _ _ _ _ _ (c.loop-next.invariant.goes _ _ (λ m k T. T) (list_ends _ _ _ _ _ c.item_here.result c.item_here.ensures.is _ stands _));
    }
