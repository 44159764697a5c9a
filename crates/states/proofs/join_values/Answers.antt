-- One of two words is joined.
use borrow.Author.Rules.{rules}
use Rattle.states.proofs.Put.{any_joined, named_joined}
use Rattle.states.proofs.join_values.Goals as goal

pub returns-in-Any : goal.returns-in-Any
returns-in-Any c = rw c.in-Any.is (any_joined _ _ _ (search rules) (search rules) _ c.strings_place-first.ensures _ _ c.join_word.ensures)

pub returns-in-Named : goal.returns-in-Named
returns-in-Named c = rw c.in-Named.is (named_joined _ _ _ (search rules) (search rules) _ c.strings_place-first.ensures _ _ _ c.join_word-in-Named.ensures)
