-- The strings of the gap are not empty.
use Rattle.languages.proofs.AttributeGaps.{some_string}
use borrow.Author.Rules.{rules}
use Rattle.languages.proofs.string_reaches.Goals as goal

pub returns : goal.returns
returns c G keeps low = some_string _ _ _ (search rules) G keeps low c.strings_at-values.result (c.strings_at-values.ensures (search rules) low) c.is_empty.result c.is_empty.ensures
