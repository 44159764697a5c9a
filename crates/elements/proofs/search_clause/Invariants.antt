-- The templates passed have been searched.
use Rattle.elements.proofs.Templates.{Turning}
use Rattle.elements.proofs.search_clause.Given as goal

abbrev pub invariant-loop-n : goal.invariant-loop-n
invariant-loop-n l = Turning l.s l.clause l.graph l.templates.starts l.templates.count l.chosen l.n l.lowest
