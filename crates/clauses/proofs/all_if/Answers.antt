-- All bits are set, or none.
use mathlib.Core.Path.{sym, ◌∙◌}
use Rattle.clauses.proofs.TrueForms.{all_held}
use Rattle.clauses.proofs.all_if.Goals as goal

pub returns-then-is_true : goal.returns-then-is_true
returns-then-is_true c = λ x h. all_held x h ∙ sym c.if-is_true.true
