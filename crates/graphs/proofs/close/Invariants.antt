-- The gaps before the loop's are closed.
use Rattle.summaries.specs.Summaries.{Summary}
use Rattle.graphs.specs.Inner.Graphs.{Keeps}
use Rattle.graphs.proofs.ClosedGraphs.{closed_below}
use Rattle.graphs.proofs.close.Given as goal

abbrev pub invariant-loop-g : goal.invariant-loop-g
invariant-loop-g l = (R : Summary) → Keeps l.initial.graph R → Keeps l.graph (closed_below l.g R)
