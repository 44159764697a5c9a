-- The tables have the contents of the facts before the loop's, and the places of the pairs.
use Rattle.schemes.proofs.Tabling.{Tabled}
use Rattle.schemes.proofs.facts_scheme.Given as goal

abbrev pub invariant-loop-i : goal.invariant-loop-i
invariant-loop-i l = Tabled l.facts l.i l.contents l.befores l.afters
