-- An element is put into the table, and then its contents are walked over; a list's items one after the other. The measure is twice the
-- unread bytes: a list has one more, and an element two more than where its attributes stand.
use Prim.Native.Nat.{◌+◌, ◌-◌}
use lib.ListN.{length}
use Rattle.occurrences.proofs.Outlining.{Going}
use Rattle.occurrences.proofs.+outline_element_outline_items.Given as goal

abbrev pub decreases-outline_element : goal.decreases-outline_element
decreases-outline_element l = (length l.s.now - l.start.at) + (length l.s.now - l.start.at) + 2

abbrev pub decreases-outline_items : goal.decreases-outline_items
decreases-outline_items l = (length l.s.now - l.start.at) + (length l.s.now - l.start.at) + 1

abbrev pub invariant-outline_items-loop-next : goal.invariant-outline_items-loop-next
invariant-outline_items-loop-next l = Going l.s l.n l.initial.here.at l.initial.table l.here.at l.contents l.gaps l.table

abbrev pub decreases-outline_items-loop-next : goal.decreases-outline_items-loop-next
decreases-outline_items-loop-next l = length l.s - l.here.at
