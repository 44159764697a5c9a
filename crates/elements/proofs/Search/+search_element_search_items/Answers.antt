use mathlib.Core.Path.{sym, ◌∙◌}
use native.Mathlib.Omega.{arith}
use lib.Dec.{lit<}
use Rattle.pages.proofs.Steps.{text_moves, blank_moves, gap_moves, element_moves, end_moves}
use Rattle.languages.proofs.Lines.{content_absent, gap_absent}
use Rattle.languages.proofs.Lists.{list_begins, list_text, list_blank, list_gap, list_known, list_ends}
use Rattle.elements.proofs.Searches.{adds_all, adds_end, adds_text, adds_blank, adds_gap, adds_element, element_known, other_element, own_element}
use Rattle.elements.proofs.Search.+search_element_search_items.Goals as goal

pub search_element-search_items-list-requires : goal.search_element-search_items-list-requires
search_element-search_items-list-requires t c = omega (arith, c.attributes_take-filled.ensures.forward)

pub search_element-returns-then-e-clause : goal.search_element-returns-then-e-clause
search_element-returns-then-e-clause t c = let args = c.args in
    let w = args.self.now in
    record {
      forward = omega (arith, c.attributes_take-filled.ensures.forward, c.search_items-list.ensures.forward);
      searched = other_element w.s.now args.here.at args.e args.start w.clause w.graph.now w.takes.now w.n c.search_items-list.result
          c.if-e-clause.true c.attributes_take-filled.result c.attributes_take-filled.ensures.filled c.search_items-list.ensures.searched c.has_pattern.result c.has_pattern.ensures;
    }

pub search_element-search_items-list-requires-2 : goal.search_element-search_items-list-requires-2
search_element-search_items-list-requires-2 t c = omega (arith, c.attribute_patterns-attributes.ensures.forward)

pub search_element-returns : goal.search_element-returns
search_element-returns t c = let args = c.args in
    let w = args.self.now in
    record {
      forward = omega (arith, c.attribute_patterns-attributes.ensures.forward, c.search_items-list-2.ensures.forward);
      searched = own_element w.s.now args.here.at args.e args.start w.clause w.graph.now w.takes.now w.n c.search_items-list-2.result
          c.if-e-clause.false c.attribute_patterns-attributes.result c.attribute_patterns-attributes.ensures.patterned c.search_items-list-2.ensures.searched c.can_fail-fails.result c.can_fail-fails.ensures c.wrong_if-own.result c.wrong_if-own.ensures c.has_pattern-2.result c.has_pattern-2.ensures c.lower.result c.lower.ensures;
    }

pub search_items-loop-next-init : goal.search_items-loop-next-init
search_items-loop-next-init t c = record { listed = list_begins _ _ _ _ _ _ _ _ _ _ c.only.ensures c.line_of-line.ensures; goes = λ next found A. A }

pub search_items-loop-next-smaller-then-has : goal.search_items-loop-next-smaller-then-has
search_items-loop-next-smaller-then-has t c = let m = text_moves _ _ _ c.item_here.ensures.moves _ c.in-Text.is in
    omega (arith, m.inside, m.forward)

pub search_items-loop-next-preserved-then-has : goal.search_items-loop-next-preserved-then-has
search_items-loop-next-preserved-then-has t c = let stands = c.in-Text.is in
    let m = text_moves _ _ _ c.item_here.ensures.moves _ stands in
    record {
      listed = list_text _ _ _ _ _ _ _ _ _ _ c.loop-next.invariant.listed c.item_here.result c.item_here.ensures.is _ stands m.forward _ c.with_content-longer.ensures;
      goes = λ next found A. c.loop-next.invariant.goes next found (adds_text _ _ _ _ _ _ _ c.item_here.result c.item_here.ensures.is next found _ stands A);
    }

pub search_items-loop-next-smaller-else-has : goal.search_items-loop-next-smaller-else-has
search_items-loop-next-smaller-else-has t c = let m = text_moves _ _ _ c.item_here.ensures.moves _ c.in-Text.is in
    omega (arith, m.inside, m.forward)

pub search_items-loop-next-preserved-else-has : goal.search_items-loop-next-preserved-else-has
search_items-loop-next-preserved-else-has t c = let stands = c.in-Text.is in
    let m = text_moves _ _ _ c.item_here.ensures.moves _ stands in
    record {
      listed = list_text _ _ _ _ _ _ _ _ _ _ c.loop-next.invariant.listed c.item_here.result c.item_here.ensures.is _ stands m.forward _ (content_absent _ c.loop-next.line 0 (lit< tt) (sym c.has.ensures ∙ c.if-has.false));
      goes = λ next found A. c.loop-next.invariant.goes next found (adds_text _ _ _ _ _ _ _ c.item_here.result c.item_here.ensures.is next found _ stands A);
    }

pub search_items-has-requires-in-Gap : goal.search_items-has-requires-in-Gap
search_items-has-requires-in-Gap t c = omega (arith, (gap_moves _ _ _ c.item_here.ensures.moves _ _ c.in-Gap.is).1)

pub search_items-with_gap-longer-requires : goal.search_items-with_gap-longer-requires
search_items-with_gap-longer-requires t c = (gap_moves _ _ _ c.item_here.ensures.moves _ _ c.in-Gap.is).1

pub search_items-loop-next-smaller-then-has-2 : goal.search_items-loop-next-smaller-then-has-2
search_items-loop-next-smaller-then-has-2 t c = let m = gap_moves _ _ _ c.item_here.ensures.moves _ _ c.in-Gap.is in
    omega (arith, m.0.inside, m.0.forward)

pub search_items-loop-next-preserved-then-has-2 : goal.search_items-loop-next-preserved-then-has-2
search_items-loop-next-preserved-then-has-2 t c = let stands = c.in-Gap.is in
    let m = gap_moves _ _ _ c.item_here.ensures.moves _ _ stands in
    record {
      listed = list_gap _ _ _ _ _ _ _ _ _ _ c.loop-next.invariant.listed c.item_here.result c.item_here.ensures.is _ _ stands m.0.forward _ c.with_gap-longer.ensures;
      goes = λ next found A. c.loop-next.invariant.goes next found (adds_gap _ _ _ _ _ _ _ c.item_here.result c.item_here.ensures.is next found _ _ stands A);
    }

pub search_items-loop-next-smaller-else-has-2 : goal.search_items-loop-next-smaller-else-has-2
search_items-loop-next-smaller-else-has-2 t c = let m = gap_moves _ _ _ c.item_here.ensures.moves _ _ c.in-Gap.is in
    omega (arith, m.0.inside, m.0.forward)

pub search_items-loop-next-preserved-else-has-2 : goal.search_items-loop-next-preserved-else-has-2
search_items-loop-next-preserved-else-has-2 t c = let stands = c.in-Gap.is in
    let m = gap_moves _ _ _ c.item_here.ensures.moves _ _ stands in
    record {
      listed = list_gap _ _ _ _ _ _ _ _ _ _ c.loop-next.invariant.listed c.item_here.result c.item_here.ensures.is _ _ stands m.0.forward _ (gap_absent _ _ c.loop-next.line _ m.1 (sym c.has-in-Gap.ensures ∙ c.if-has-2.false));
      goes = λ next found A. c.loop-next.invariant.goes next found (adds_gap _ _ _ _ _ _ _ c.item_here.result c.item_here.ensures.is next found _ _ stands A);
    }

pub search_items-search_element-found-requires : goal.search_items-search_element-found-requires
search_items-search_element-found-requires t c = let m = element_moves _ _ _ c.item_here.ensures.moves _ _ c.in-Element.is in
    omega (arith, m.0.inside, m.0.forward, c.loop-next.invariant.listed.forward)

pub search_items-with_element-longer-requires : goal.search_items-with_element-longer-requires
search_items-with_element-longer-requires t c = (element_moves _ _ _ c.item_here.ensures.moves _ _ c.in-Element.is).1

pub search_items-loop-next-smaller-in-Element : goal.search_items-loop-next-smaller-in-Element
search_items-loop-next-smaller-in-Element t c = let m = element_moves _ _ _ c.item_here.ensures.moves _ _ c.in-Element.is in
    omega (arith, m.0.inside, m.0.forward, c.search_element-found.ensures.forward)

pub search_items-loop-next-preserved-in-Element : goal.search_items-loop-next-preserved-in-Element
search_items-loop-next-preserved-in-Element t c = let stands = c.in-Element.is in
    let m = element_moves _ _ _ c.item_here.ensures.moves _ _ stands in
    record {
      listed = list_known _ _ _ _ _ _ _ _ _ _ c.loop-next.invariant.listed c.item_here.result c.item_here.ensures.is _ _ stands c.search_element-found.result.yields c.search_element-found.result.next.at (omega (arith, m.0.forward, c.search_element-found.ensures.forward))
          (element_known _ _ _ _ _ _ _ _ c.search_element-found.result c.search_element-found.ensures.searched c.item_here.result c.item_here.ensures.is stands) _ c.with_element-longer.ensures;
      goes = λ next found A. c.loop-next.invariant.goes next found (adds_element _ _ _ _ _ _ _ c.item_here.result c.item_here.ensures.is next found _ _ stands c.search_element-found.result c.search_element-found.ensures.searched c.lower-wrong.result c.lower-wrong.ensures A);
    }

pub search_items-loop-next-smaller : goal.search_items-loop-next-smaller
search_items-loop-next-smaller t c = let m = blank_moves _ _ _ c.item_here.ensures.moves _ c.in-Blank.is in
    omega (arith, m.inside, m.forward)

pub search_items-loop-next-preserved : goal.search_items-loop-next-preserved
search_items-loop-next-preserved t c = let stands = c.in-Blank.is in
    let m = blank_moves _ _ _ c.item_here.ensures.moves _ stands in
    record {
      listed = list_blank _ _ _ _ _ _ _ _ _ _ c.loop-next.invariant.listed c.item_here.result c.item_here.ensures.is _ stands m.forward;
      goes = λ next found A. c.loop-next.invariant.goes next found (adds_blank _ _ _ _ _ _ _ c.item_here.result c.item_here.ensures.is next found _ stands A);
    }

pub search_items-returns-in-End : goal.search_items-returns-in-End
search_items-returns-in-End t c = let stands = c.in-End.is in record {
  forward = omega (arith, c.loop-next.invariant.listed.forward, end_moves _ _ _ c.item_here.ensures.moves _ stands);
  searched = adds_all _ _ _ _ _ _ _ (c.loop-next.invariant.goes _ _ (adds_end _ _ _ _ _ _ _ c.item_here.result c.item_here.ensures.is _ stands)) (list_ends _ _ _ _ _ _ _ _ c.loop-next.line _ c.loop-next.invariant.listed c.item_here.result c.item_here.ensures.is _ stands);
}
