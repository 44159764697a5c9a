-- The strings of the templates before the next one are added.
use mathlib.Core.Bool.{true}
use Prim.Native.Nat.{◌<◌}
use Rattle.strings.specs.Inner.Promises.{holds_value}
use Rattle.sets.proofs.Steps.{IsMember, steps_left}
use Rattle.summaries.specs.Summaries.{Summary}
use Rattle.graphs.specs.Inner.Graphs.{Keeps}
use Rattle.graphs.proofs.AddingAt.{AddedTo}
use Rattle.graphs.proofs.add_strings.Given as goal

abbrev pub invariant-loop-next : goal.invariant-loop-next
invariant-loop-next l = IsMember l.at l.next × (l.h < 8 → (R : Summary) → Keeps l.initial.graph R → AddedTo true l.h (holds_value l.values) l.at l.graph R l.next)

abbrev pub decreases-loop-next : goal.decreases-loop-next
decreases-loop-next l = steps_left l.next
