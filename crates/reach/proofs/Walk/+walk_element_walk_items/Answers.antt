use native.Mathlib.Omega.{arith}
use Rattle.pages.proofs.Steps.{text_moves, blank_moves, gap_moves, element_moves, end_moves}
use Rattle.reach.proofs.ListWalks.{adds_all, list_ends, list_text, list_blank, list_gap, list_element, element_walked}
use Rattle.reach.proofs.Walk.+walk_element_walk_items.Goals as goal

pub walk_element-returns : goal.walk_element-returns
walk_element-returns t c = let a = c.args in
    let w = a.self.now in
    record {
      forward = omega (arith, c.walk_items-list.ensures.forward, c.carriable_names-carriable.ensures.forward);
      walked = element_walked w.s.now w.rules.now w.graph.now w.brings.now w.n a.start c.carriable_names-carriable.result c.carriable_names-carriable.ensures.carriable
          c.walk_items-list.result c.walk_items-list.ensures.walked c.union_of.result (omega arith) c.union_of.ensures;
    }

pub walk_items-loop-next-smaller-in-Text : goal.walk_items-loop-next-smaller-in-Text
walk_items-loop-next-smaller-in-Text t c = let m = text_moves _ _ _ c.item_here.ensures.moves _ c.in-Text.is in
    omega (arith, m.inside, m.forward)

pub walk_items-loop-next-preserved-in-Text : goal.walk_items-loop-next-preserved-in-Text
walk_items-loop-next-preserved-in-Text t c = let is_text = c.in-Text.is in
    let m = text_moves _ _ _ c.item_here.ensures.moves _ is_text in
    record {
      forward = omega (arith, c.loop-next.invariant.forward, m.forward);
      goes = λ r A. c.loop-next.invariant.goes r (list_text _ _ _ _ _ _ _ _ _ c.item_here.result c.item_here.ensures.is _ is_text _ c.with-inside.ensures r A);
    }

pub walk_items-with-gaps-requires : goal.walk_items-with-gaps-requires
walk_items-with-gaps-requires t c = omega (arith, (gap_moves _ _ _ c.item_here.ensures.moves _ _ c.in-Gap.is).1)

pub walk_items-loop-next-smaller-in-Gap : goal.walk_items-loop-next-smaller-in-Gap
walk_items-loop-next-smaller-in-Gap t c = let m = gap_moves _ _ _ c.item_here.ensures.moves _ _ c.in-Gap.is in
    omega (arith, m.0.inside, m.0.forward)

pub walk_items-loop-next-preserved-in-Gap : goal.walk_items-loop-next-preserved-in-Gap
walk_items-loop-next-preserved-in-Gap t c = let is_gap_lem = c.in-Gap.is in
    let m = gap_moves _ _ _ c.item_here.ensures.moves _ _ is_gap_lem in
    record {
      forward = omega (arith, c.loop-next.invariant.forward, m.0.forward);
      goes = λ r A. c.loop-next.invariant.goes r (list_gap _ _ _ _ _ _ _ _ _ c.item_here.result c.item_here.ensures.is _ m.1 _ is_gap_lem _ c.with-gaps.ensures r A);
    }

pub walk_items-with-inside-requires-in-Element : goal.walk_items-with-inside-requires-in-Element
walk_items-with-inside-requires-in-Element t c = (element_moves _ _ _ c.item_here.ensures.moves _ _ c.in-Element.is).1

pub walk_items-walk_element-element-requires : goal.walk_items-walk_element-element-requires
walk_items-walk_element-element-requires t c = let m = element_moves _ _ _ c.item_here.ensures.moves _ _ c.in-Element.is in
    omega (arith, m.0.inside, m.0.forward, c.loop-next.invariant.forward)

pub walk_items-bounds-self-e : goal.walk_items-bounds-self-e
walk_items-bounds-self-e t c = omega (arith, (element_moves _ _ _ c.item_here.ensures.moves _ _ c.in-Element.is).1)

pub walk_items-loop-next-smaller-in-Element : goal.walk_items-loop-next-smaller-in-Element
walk_items-loop-next-smaller-in-Element t c = let m = element_moves _ _ _ c.item_here.ensures.moves _ _ c.in-Element.is in
    omega (arith, m.0.inside, m.0.forward, c.walk_element-element.ensures.forward)

pub walk_items-loop-next-preserved-in-Element : goal.walk_items-loop-next-preserved-in-Element
walk_items-loop-next-preserved-in-Element t c = let is_element_lem = c.in-Element.is in
    let m = element_moves _ _ _ c.item_here.ensures.moves _ _ is_element_lem in
    record {
      forward = omega (arith, c.loop-next.invariant.forward, m.0.forward, c.walk_element-element.ensures.forward);
      goes = λ r A. c.loop-next.invariant.goes r (list_element _ _ _ _ _ _ _ _ _ c.item_here.result c.item_here.ensures.is _ _ is_element_lem _ c.with-inside-in-Element.ensures
          c.walk_element-element.result c.walk_element-element.ensures.walked c.outside_at-own.result c.outside_at-own.ensures c.lower-lowest.result c.lower-lowest.ensures c.lower-wrong.result c.lower-wrong.ensures r A);
    }

pub walk_items-loop-next-smaller : goal.walk_items-loop-next-smaller
walk_items-loop-next-smaller t c = let m = blank_moves _ _ _ c.item_here.ensures.moves _ c.in-Blank.is in
    omega (arith, m.inside, m.forward)

pub walk_items-loop-next-preserved : goal.walk_items-loop-next-preserved
walk_items-loop-next-preserved t c = let is_blank = c.in-Blank.is in
    let m = blank_moves _ _ _ c.item_here.ensures.moves _ is_blank in
    record {
      forward = omega (arith, c.loop-next.invariant.forward, m.forward);
      goes = λ r A. c.loop-next.invariant.goes r (list_blank _ _ _ _ _ _ _ _ _ c.item_here.result c.item_here.ensures.is _ is_blank r A);
    }

pub walk_items-returns-in-End : goal.walk_items-returns-in-End
walk_items-returns-in-End t c = let is_end = c.in-End.is in
    record { forward = omega (arith, c.loop-next.invariant.forward, end_moves _ _ _ c.item_here.ensures.moves _ is_end); walked = adds_all _ _ _ _ _ _ _ (c.loop-next.invariant.goes _ (list_ends _ _ _ _ _ _ _ _ _ c.item_here.result c.item_here.ensures.is _ is_end)) }
