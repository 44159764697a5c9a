-- The gaps before the loop's have their rows.
use mathlib.Core.List.{[]}
use Rattle.languages.proofs.GapSets.{FilledTo, GapRow}
use Rattle.languages.proofs.gaps_from.Given as goal

abbrev pub invariant-loop-g : goal.invariant-loop-g
invariant-loop-g l = FilledTo 8 [] (GapRow l.graph l.n l.sets) l.takes l.g
