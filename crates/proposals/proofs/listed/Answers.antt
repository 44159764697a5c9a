use borrow.Author.Rules.{rules}
use Rattle.sets.proofs.Laws.{member_zero}
use Rattle.proposals.proofs.Values.{listed_named}
use Rattle.proposals.proofs.listed.Goals as goal

pub returns-in-Any : goal.returns-in-Any
returns-in-Any c = rw c.in-Any.is member_zero

pub returns-in-Named : goal.returns-in-Named
returns-in-Named c = rw c.in-Named.is (listed_named c.in-Named.set (search rules))
