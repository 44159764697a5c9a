-- No bit is set.
use Rattle.graphs.proofs.Adding.{none_keeps}
use borrow.Author.Rules.{rules}
use Rattle.graphs.proofs.none.Goals as goal

pub returns : goal.returns
returns c = none_keeps _ (search rules)
