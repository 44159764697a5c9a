-- An element's contents are judged, then the element by its rule; a list's items one after the other. The measure is twice the unread
-- bytes, and one more for a list, which begins with an item at the same offset.
use Prim.Native.Nat.{◌+◌, ◌-◌}
use lib.ListN.{length}
use Rattle.judging.proofs.ItemLaws.{Going}
use Rattle.judging.proofs.+judge_item_judge_items.Given as goal

abbrev pub invariant-judge_items-loop-next : goal.invariant-judge_items-loop-next
invariant-judge_items-loop-next l = Going l.v l.rules l.p l.initial.place.at l.order l.shapes l.place.at l.inside l.wrong

abbrev pub decreases-judge_items-loop-next : goal.decreases-judge_items-loop-next
decreases-judge_items-loop-next l = length l.p - l.place.at

abbrev pub decreases-judge_item : goal.decreases-judge_item
decreases-judge_item l = (length l.p.now - l.here.at) + (length l.p.now - l.here.at)

abbrev pub decreases-judge_items : goal.decreases-judge_items
decreases-judge_items l = (length l.p.now - l.here.at) + (length l.p.now - l.here.at) + 1
