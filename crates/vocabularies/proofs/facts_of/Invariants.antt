-- What is gathered over each command and what is pending behind it come to the facts of the formula.
use Prim.Native.Nat.{◌-◌}
use lib.ListN.{length}
use Rattle.vocabularies.proofs.Pending.{Gathering}
use Rattle.vocabularies.proofs.facts_of.Given as goal

abbrev pub invariant-loop-here : goal.invariant-loop-here
invariant-loop-here l = Gathering l.s l.initial.here.at l.end.at l.facts l.here.at

abbrev pub decreases-loop-here : goal.decreases-loop-here
decreases-loop-here l = length l.s - l.here.at
