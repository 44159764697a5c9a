-- By the answer.
use mathlib.Core.Path.{◌∙◌}
use Rattle.elements.proofs.Searches.{told_where}
use Rattle.elements.proofs.wrong_if.Goals as goal

pub returns : goal.returns
returns c = c.then_some.ensures ∙ told_where c.args.fails c.args.n c.args.at c.args.place
