-- The elements inside an element are searched, then itself, if it has the clause's name; a list's items one after the other. The measure
-- is twice the unread bytes: a list has one more, and an element two more than where its attributes stand.
use Prim.Native.Nat.{◌+◌, ◌-◌}
use lib.ListN.{length}
use Rattle.elements.proofs.Searches.{Going}
use Rattle.elements.proofs.Search.+search_element_search_items.Given as goal

abbrev pub decreases-search_element : goal.decreases-search_element
decreases-search_element l = (length l.self.now.s.now - l.start.at) + (length l.self.now.s.now - l.start.at) + 2

abbrev pub decreases-search_items : goal.decreases-search_items
decreases-search_items l = (length l.self.now.s.now - l.start.at) + (length l.self.now.s.now - l.start.at) + 1

abbrev pub invariant-search_items-loop-next : goal.invariant-search_items-loop-next
invariant-search_items-loop-next l = Going l.self.s.now l.self.clause l.self.graph.now l.self.takes.now l.self.n l.initial.here.at l.line l.here.at l.wrong

abbrev pub decreases-search_items-loop-next : goal.decreases-search_items-loop-next
decreases-search_items-loop-next l = length l.self.s.now - l.here.at
