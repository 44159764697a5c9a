-- The members before the next one have their sets in.
use Rattle.sets.proofs.Steps.{steps_left}
use Rattle.reach.proofs.Unions.{UnitedTo}
use Rattle.reach.proofs.union_of.Given as goal

abbrev pub invariant-loop-next : goal.invariant-loop-next
invariant-loop-next l = UnitedTo l.first l.set l.table l.next l.all

abbrev pub decreases-loop-next : goal.decreases-loop-next
decreases-loop-next l = steps_left l.next
