-- Each clause is read and its facts are counted; what is read from the next one on is read from the start.
use Prim.Native.Nat.{◌-◌}
use lib.ListN.{length}
use Rattle.vocabularies.proofs.Clauses.{ClausesContinue}
use Rattle.vocabularies.proofs.read_clauses.Given as goal

abbrev pub invariant-loop-start : goal.invariant-loop-start
invariant-loop-start l = ClausesContinue l.s l.initial.place.at l.place.at

abbrev pub decreases-loop-start : goal.decreases-loop-start
decreases-loop-start l = length l.s - l.place.at
