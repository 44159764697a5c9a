-- The fact stands at no place before the loop's.
use Rattle.vocabularies.specs.Inner.Promises.{meaning_of}
use Rattle.schemes.proofs.Placing.{From}
use Rattle.schemes.proofs.place_of.Given as goal

abbrev pub invariant-loop-i : goal.invariant-loop-i
invariant-loop-i l = From l.facts (meaning_of l.fact) l.i
