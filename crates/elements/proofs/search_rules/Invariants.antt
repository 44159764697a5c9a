-- The rules of the elements passed have been searched.
use Rattle.elements.proofs.Rules.{Ruled}
use Rattle.elements.proofs.search_rules.Given as goal

abbrev pub invariant-loop-e : goal.invariant-loop-e
invariant-loop-e l = Ruled l.s l.vocabulary.declared l.vocabulary.rules l.standing l.graph l.templates.starts l.templates.count l.reached l.e l.lowest
