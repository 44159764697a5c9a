-- Each turn leaves the strings that one fact more does not tell from s.
use Rattle.clauses.proofs.StringSets.{AlikeTo}
use Rattle.clauses.proofs.alike.Given as goal

abbrev pub invariant-loop-i : goal.invariant-loop-i
invariant-loop-i l = AlikeTo l.facts l.a l.s l.i l.set
