-- The templates passed have been looked at.
use Rattle.reach.proofs.Templates.{Looked}
use Rattle.reach.proofs.plainly_wrong.Given as goal

abbrev pub invariant-loop-n : goal.invariant-loop-n
invariant-loop-n l = Looked l.s l.rules l.templates.starts l.templates.count l.graph l.within l.reached l.n l.lowest
