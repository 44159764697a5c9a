use mathlib.Core.Path.{sym}
use borrow.Author.Rules.{rules}
use Rattle.proposals.proofs.Values.{unlisted_named}
use Rattle.proposals.proofs.takes_any.Goals as goal

pub returns-in-Named : goal.returns-in-Named
returns-in-Named c = rw c.in-Named.is (sym (unlisted_named c.in-Named.field-0 (search rules)))
