-- The templates before the loop's have their targets in the table.
use Rattle.languages.specs.Inner.Promises.{Targets}
use Rattle.languages.proofs.GapSets.{FilledTo}
use Rattle.languages.proofs.all_targets.Given as goal

abbrev pub invariant-loop-n : goal.invariant-loop-n
invariant-loop-n l = FilledTo 32 0 (Targets l.graph) l.table l.n
