-- Each command of the list adds its name to the set; what is read from the next one on is read from the start.
use Prim.Native.Nat.{◌-◌}
use lib.ListN.{length}
use Rattle.vocabularies.proofs.NameLists.{NamesContinue}
use Rattle.vocabularies.proofs.read_names.Given as goal

abbrev pub invariant-loop-context : goal.invariant-loop-context
invariant-loop-context l = NamesContinue l.s l.context l.initial.place.at l.least l.place.at l.set

abbrev pub decreases-loop-context : goal.decreases-loop-context
decreases-loop-context l = length l.s - l.place.at
