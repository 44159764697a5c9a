-- An element's attributes, then the list inside it; a list's items one after the other. The measure is twice the unread bytes, and one more
-- for a list, two for an element, whose list may stand where its attributes do.
use Prim.Native.Nat.{◌+◌, ◌-◌}
use lib.ListN.{length}
use Rattle.languages.proofs.Lists.{LentSets, ListTo}
use Rattle.languages.proofs.Walk.+element_patterns_list_patterns.Given as goal

abbrev pub decreases-element_patterns : goal.decreases-element_patterns
decreases-element_patterns l = (length l.self.now.s.now - l.here.at) + (length l.self.now.s.now - l.here.at) + 2

abbrev pub decreases-list_patterns : goal.decreases-list_patterns
decreases-list_patterns l = (length l.self.now.s.now - l.start.at) + (length l.self.now.s.now - l.start.at) + 1

abbrev pub invariant-list_patterns-loop-next : goal.invariant-list_patterns-loop-next
invariant-list_patterns-loop-next l = ListTo l.self.s.now l.self.r l.self.graph.now l.self.n l.takes (LentSets l.self.r l.self.graph.now l.self.n l.takes) (λ φs G M X known. known) l.initial.here.at l.line l.here.at

abbrev pub decreases-list_patterns-loop-next : goal.decreases-list_patterns-loop-next
decreases-list_patterns-loop-next l = length l.self.s.now - l.here.at
