-- The gaps of the items passed are in the word. The measure is twice the unread bytes, and one more for an element, whose contents may
-- begin where its attributes stand.
use Prim.Native.Nat.{◌+◌, ◌-◌}
use lib.ListN.{length}
use Rattle.pages.specs.Inner.Gaps.{ItemsGaps}
use Rattle.pages.proofs.Gathering.{Onto}
use Rattle.pages.proofs.+element_gaps_items_gaps.Given as goal

abbrev pub decreases-element_gaps : goal.decreases-element_gaps
decreases-element_gaps l = (length l.s.now - l.before.next.at) + (length l.s.now - l.before.next.at) + 1

abbrev pub decreases-items_gaps : goal.decreases-items_gaps
decreases-items_gaps l = (length l.s.now - l.before.next.at) + (length l.s.now - l.before.next.at)

abbrev pub invariant-items_gaps-loop-next : goal.invariant-items_gaps-loop-next
invariant-items_gaps-loop-next l = Onto (ItemsGaps l.s) l.initial.found.next.at l.initial.found.gaps l.found.next.at l.found.gaps

abbrev pub decreases-items_gaps-loop-next : goal.decreases-items_gaps-loop-next
decreases-items_gaps-loop-next l = length l.s - l.found.next.at
