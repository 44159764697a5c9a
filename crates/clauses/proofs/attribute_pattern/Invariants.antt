-- Each turn puts the flag of one fact more at its place.
use Rattle.clauses.proofs.AttributeFlags.{Numbering}
use Rattle.clauses.proofs.attribute_pattern.Given as goal

abbrev pub invariant-loop-i : goal.invariant-loop-i
invariant-loop-i l = Numbering l.facts l.a l.s l.i l.pattern
