-- The words before the loop's place are joined.
use Rattle.summaries.specs.Summaries.{Summary}
use Rattle.graphs.specs.Inner.Graphs.{Keeps}
use Rattle.graphs.proofs.Joining.{JoinedTo}
use Rattle.graphs.proofs.join.Given as goal

abbrev pub invariant-loop-i : goal.invariant-loop-i
invariant-loop-i l = (R : Summary) → Keeps l.initial.graph R → JoinedTo l.initial.graph l.from l.graph l.i l.gained
