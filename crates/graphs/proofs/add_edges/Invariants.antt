-- The edges of the templates before the next one are added.
use mathlib.Core.Bool.{false}
use Prim.Native.Nat.{◌<◌}
use Rattle.sets.specs.Sets.{member}
use Rattle.sets.proofs.Steps.{IsMember, steps_left}
use Rattle.summaries.specs.Summaries.{Summary}
use Rattle.graphs.specs.Inner.Graphs.{Keeps}
use Rattle.graphs.proofs.AddingAt.{AddedTo}
use Rattle.graphs.proofs.add_edges.Given as goal

abbrev pub invariant-loop-next : goal.invariant-loop-next
invariant-loop-next l = IsMember l.from l.next × (l.g < 8 → (R : Summary) → Keeps l.initial.graph R → AddedTo false l.g (member l.to) l.from l.graph R l.next)

abbrev pub decreases-loop-next : goal.decreases-loop-next
decreases-loop-next l = steps_left l.next
