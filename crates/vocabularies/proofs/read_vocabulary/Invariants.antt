-- Each rule is put into the tables; what is read from the next one on is read from the start.
use Prim.Native.Nat.{◌-◌}
use lib.ListN.{length}
use Rattle.vocabularies.specs.Inner.Promises.{Long}
use Rattle.vocabularies.proofs.Vocabularies.{RulesContinue}
use Rattle.vocabularies.proofs.read_vocabulary.Given as goal

abbrev pub invariant-loop-code : goal.invariant-loop-code
invariant-loop-code l = Long l.tables × RulesContinue l.s l.place.at l.tables

abbrev pub decreases-loop-code : goal.decreases-loop-code
decreases-loop-code l = length l.s - l.place.at
