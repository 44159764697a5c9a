-- The templates before the next one are passed.
use Rattle.sets.proofs.Steps.{steps_left}
use Rattle.languages.proofs.GapSets.{UnionTo}
use Rattle.languages.proofs.union_of.Given as goal

abbrev pub invariant-loop-next : goal.invariant-loop-next
invariant-loop-next l = UnionTo l.templates l.sets l.next l.set

abbrev pub decreases-loop-next : goal.decreases-loop-next
decreases-loop-next l = steps_left l.next
