-- An element's contents are walked over, then it is tested; a list's items one after the other. The measure is twice the unread bytes: a
-- list has one more, and an element two more than where its attributes stand.
use Prim.Native.Nat.{◌+◌, ◌-◌}
use lib.ListN.{length}
use Rattle.reach.proofs.ListWalks.{Going}
use Rattle.reach.proofs.Walk.+walk_element_walk_items.Given as goal

abbrev pub decreases-walk_element : goal.decreases-walk_element
decreases-walk_element l = (length l.self.now.s.now - l.start.at) + (length l.self.now.s.now - l.start.at) + 2

abbrev pub decreases-walk_items : goal.decreases-walk_items
decreases-walk_items l = (length l.self.now.s.now - l.start.at) + (length l.self.now.s.now - l.start.at) + 1

abbrev pub invariant-walk_items-loop-next : goal.invariant-walk_items-loop-next
invariant-walk_items-loop-next l = Going l.self.s.now l.self.rules.now l.self.graph.now l.self.brings.now l.self.n l.initial.here.at l.here.at l.inside l.gaps l.wrong

abbrev pub decreases-walk_items-loop-next : goal.decreases-walk_items-loop-next
decreases-walk_items-loop-next l = length l.self.s.now - l.here.at
