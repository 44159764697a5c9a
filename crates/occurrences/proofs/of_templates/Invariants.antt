-- The templates passed are told of.
use Rattle.occurrences.proofs.Tables.{TellingTo}
use Rattle.occurrences.proofs.of_templates.Given as goal

abbrev pub invariant-loop-n : goal.invariant-loop-n
invariant-loop-n l = TellingTo l.s l.templates.starts l.templates.count l.n l.contents l.gaps l.table
