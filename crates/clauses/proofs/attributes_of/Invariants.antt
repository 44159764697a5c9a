-- The names have those of the attributes that the facts before the loop's are about.
use Rattle.clauses.proofs.AttributeFlags.{NamedTo}
use Rattle.clauses.proofs.attributes_of.Given as goal

abbrev pub invariant-loop-i : goal.invariant-loop-i
invariant-loop-i l = NamedTo l.facts l.i l.names
