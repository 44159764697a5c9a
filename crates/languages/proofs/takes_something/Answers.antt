-- There is a string or absence.
use Rattle.languages.proofs.AttributeGaps.{some_taken}
use borrow.Author.Rules.{rules}
use Rattle.languages.proofs.takes_something.Goals as goal

pub returns : goal.returns
returns c G keeps low = some_taken _ _ _ (search rules) G keeps low c.attribute_values-values.result (c.attribute_values-values.ensures (search rules) low) c.takes_nothing.result c.takes_nothing.ensures
