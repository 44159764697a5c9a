use mathlib.Core.Path.{◌≡◌, refl}
use native.Mathlib.Omega.{arith}
use borrow.Author.Rules.{rules}
use Rattle.pages.proofs.Steps.{text_moves, blank_moves, gap_moves, element_moves, end_moves}
use Rattle.judging.specs.Inner.Judgement.{of_element}
use Rattle.judging.specs.Inner.Promises.{broken_by}
use Rattle.judging.proofs.WordLaws.{no_content_lem}
use Rattle.judging.proofs.ItemLaws.{leaf_judged, element_judged, all_left, list_ends, text_more, going_blank, gap_more, element_more}
use Rattle.judging.proofs.+judge_item_judge_items.Goals.{judge_item-in-Some, judge_item-in-None}
use Rattle.judging.proofs.+judge_item_judge_items.Goals as goal

pub judge_item-returns-in_default : goal.judge_item-returns-in_default
judge_item-returns-in_default t c = rw c.judge_leaf.ensures (record {
  remembered = c.requires;
  forward = rw c.item_here-item.ensures.is (omega arith);
  judged = λ D T. leaf_judged D _ _ c.item_here-item.result c.item_here-item.ensures.is c.in_default.not-Element;
})

pub judge_item-judge_items-list-requires : goal.judge_item-judge_items-list-requires
judge_item-judge_items-list-requires t c = let m = (element_moves _ _ _ c.item_here-item.ensures.moves _ _ c.in-Element.is).0 in
    (omega (arith, m.inside, m.forward, c.read_attributes-named.ensures.forward), (search rules, c.requires))

pub judge_item-bounds-rules-e : goal.judge_item-bounds-rules-e
judge_item-bounds-rules-e t c = let m = element_moves _ _ _ c.item_here-item.ensures.moves _ _ c.in-Element.is in omega (arith, m.1)

pub judge_item-returns : goal.judge_item-returns
judge_item-returns t c = let s = c.args in record {
  remembered = c.outcome_of-outcome.ensures.remembered;
  forward = rw (← c.item_here-item.ensures.is, c.in-Element.is) (omega (arith, c.read_attributes-named.ensures.forward, c.judge_items-list.ensures.forward));
  judged = λ D T.
      let is_wrong : c.match-outcome.wrong ≡ of_element (broken_by c.outcome_of-outcome.result) c.args.here.at c.judge_items-list.result.wrong = elim c.match-outcome.branch [
        | judge_item-in-Some w ↦ rw (w.wrong-is, w.in-Some.is) refl
        | judge_item-in-None w ↦ rw (w.wrong-is, w.in-None.is) refl
      ] in
      rw is_wrong (element_judged D _ _ c.item_here-item.result c.item_here-item.ensures.is _ s.rules.now T _ _ c.in-Element.is c.read_attributes-named.result _ c.read_attributes-named.ensures.named c.judge_items-list.result _
      (c.judge_items-list.ensures.judged D T) c.outcome_of-outcome.result c.outcome_of-outcome.ensures.outcome);
}

pub judge_items-loop-next-init : goal.judge_items-loop-next-init
judge_items-loop-next-init t c = record {
  forward = omega arith;
  room = c.requires.0;
  counted = omega arith;
  remembered = c.requires.1;
  judging = λ D T f depth φ end e. all_left D _ depth φ end f _ _ e (no_content_lem _);
}

pub judge_items-loop-next-smaller-in-Text : goal.judge_items-loop-next-smaller-in-Text
judge_items-loop-next-smaller-in-Text t c = let m = text_moves _ _ _ c.item_here-item.ensures.moves _ c.in-Text.is in omega (arith, m.inside, m.forward)

pub judge_items-loop-next-preserved-in-Text : goal.judge_items-loop-next-preserved-in-Text
judge_items-loop-next-preserved-in-Text t c = let m = text_moves _ _ _ c.item_here-item.ensures.moves _ c.in-Text.is in
    record {
      forward = omega (arith, c.loop-next.invariant.forward, m.forward);
      room = c.add_content-inside.ensures.long;
      counted = c.add_content-inside.ensures.counted;
      remembered = c.loop-next.invariant.remembered;
      judging = λ D T f depth φ end e. text_more D _ depth φ end _ _ _ _ (c.loop-next.invariant.judging D T f depth φ end e) c.item_here-item.result c.item_here-item.ensures.is _ c.in-Text.is _ _ c.add_content-inside.ensures.more;
    }

pub judge_items-loop-next-smaller-in-Gap : goal.judge_items-loop-next-smaller-in-Gap
judge_items-loop-next-smaller-in-Gap t c = let m = gap_moves _ _ _ c.item_here-item.ensures.moves _ _ c.in-Gap.is in omega (arith, m.0.inside, m.0.forward)

pub judge_items-loop-next-preserved-in-Gap : goal.judge_items-loop-next-preserved-in-Gap
judge_items-loop-next-preserved-in-Gap t c = let m = gap_moves _ _ _ c.item_here-item.ensures.moves _ _ c.in-Gap.is in
    record {
      forward = omega (arith, c.loop-next.invariant.forward, m.0.forward);
      room = c.loop-next.invariant.room;
      counted = c.loop-next.invariant.counted;
      remembered = c.loop-next.invariant.remembered;
      judging = λ D T f depth φ end e. gap_more D _ depth φ end _ _ _ _ (c.loop-next.invariant.judging D T f depth φ end e) c.item_here-item.result c.item_here-item.ensures.is _ _ c.in-Gap.is;
    }

pub judge_items-add_content-inside-requires-in-Element : goal.judge_items-add_content-inside-requires-in-Element
judge_items-add_content-inside-requires-in-Element t c = let m = element_moves _ _ _ c.item_here-item.ensures.moves _ _ c.in-Element.is in
    (c.loop-next.invariant.room, m.1, c.loop-next.invariant.counted)

pub judge_items-loop-next-smaller-in-Element : goal.judge_items-loop-next-smaller-in-Element
judge_items-loop-next-smaller-in-Element t c = let m = element_moves _ _ _ c.item_here-item.ensures.moves _ _ c.in-Element.is in
    omega (arith, m.0.inside, m.0.forward, rw (← c.item_here-item.ensures.is, c.in-Element.is) at c.judge_item-judged.ensures.forward)

pub judge_items-loop-next-preserved-in-Element : goal.judge_items-loop-next-preserved-in-Element
judge_items-loop-next-preserved-in-Element t c = let m = element_moves _ _ _ c.item_here-item.ensures.moves _ _ c.in-Element.is in
    let on = rw (← c.item_here-item.ensures.is, c.in-Element.is) at c.judge_item-judged.ensures.forward in
    record {
      forward = omega (arith, c.loop-next.invariant.forward, m.0.forward, on);
      room = c.add_content-inside-in-Element.ensures.long;
      counted = c.add_content-inside-in-Element.ensures.counted;
      remembered = c.judge_item-judged.ensures.remembered;
      judging = λ D T f depth φ end e. rw c.or-wrong.ensures (element_more D _ depth φ end _ _ _ _ (c.loop-next.invariant.judging D T f depth φ end e) c.item_here-item.result c.item_here-item.ensures.is _ _ c.in-Element.is c.judge_item-judged.result (c.judge_item-judged.ensures.judged D T)
          _ _ c.add_content-inside-in-Element.ensures.more);
    }

pub judge_items-loop-next-smaller : goal.judge_items-loop-next-smaller
judge_items-loop-next-smaller t c = let m = blank_moves _ _ _ c.item_here-item.ensures.moves _ c.in-Blank.is in omega (arith, m.inside, m.forward)

pub judge_items-loop-next-preserved : goal.judge_items-loop-next-preserved
judge_items-loop-next-preserved t c = let q = c.in-Blank.is in
    going_blank _ _ _ _ _ _ _ _ _ c.loop-next.invariant c.item_here-item.result c.item_here-item.ensures.is _ q (blank_moves _ _ _ c.item_here-item.ensures.moves _ q).forward

pub judge_items-returns-in-End : goal.judge_items-returns-in-End
judge_items-returns-in-End t c = let m = end_moves _ _ _ c.item_here-item.ensures.moves _ c.in-End.is in record {
  remembered = c.loop-next.invariant.remembered;
  forward = omega (arith, c.loop-next.invariant.forward, m);
  judged = λ D T f depth end φ e. list_ends D _ depth φ end _ _ _ _ (c.loop-next.invariant.judging D T f depth φ end e) c.item_here-item.result c.item_here-item.ensures.is _ c.in-End.is;
}
