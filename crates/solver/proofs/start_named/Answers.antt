-- By whether some statement names it.
use mathlib.Core.Path.{sym, ◌∙◌}
use Rattle.solver.proofs.Starting.{named_starts, not_named_starts}
use Rattle.solver.proofs.start_named.Goals as goal

pub returns-then-not-has : goal.returns-then-not-has
returns-then-not-has c = not_named_starts _ _ _ (sym c.has.ensures ∙ c.if-not-has.true)

pub returns : goal.returns
returns c = named_starts _ _ _ _ (sym c.has.ensures ∙ c.if-not-has.false) c.start_variable.ensures
