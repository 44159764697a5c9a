-- An entry that lies within this one is joined already; else the words before the loop's place are joined, and those of the other entry
-- are its own still, or none of this one's.
use Rattle.states.specs.Inner.States.{graph_words}
use Rattle.states.proofs.Put.{RowJoined}
use Rattle.states.proofs.join_entry.Given as goal

abbrev pub invariant-loop-i : goal.invariant-loop-i
invariant-loop-i l = RowJoined l.initial.work (graph_words l.initial.work l.q l.z) l.first l.i l.work l.gained
