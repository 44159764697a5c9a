-- Any string is covered by any string alone.
use Rattle.strings.proofs.Laws.{any_not_within}
use borrow.Author.Rules.{rules}
use Rattle.strings.proofs.values_within.Goals as goal

pub returns-in-Any-Named : goal.returns-in-Any-Named
returns-in-Any-Named c = rw (c.in-Any-Named.is-0, c.in-Any-Named.is-1) (any_not_within c.in-Any-Named.field-0-1 (search rules))
