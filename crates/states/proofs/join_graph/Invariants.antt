-- The words before the loop's place are joined.
use Rattle.states.proofs.Put.{RowJoined}
use Rattle.states.proofs.join_graph.Given as goal

abbrev pub invariant-loop-i : goal.invariant-loop-i
invariant-loop-i l = RowJoined l.initial.work l.from l.first l.i l.work l.gained
