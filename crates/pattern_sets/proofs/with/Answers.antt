-- One word gains the pattern's bit.
use Rattle.pattern_sets.proofs.Laws.{with_pattern}
use borrow.Author.Rules.{rules}
use Rattle.pattern_sets.proofs.with.Goals as goal

pub returns : goal.returns
returns c = λ y. with_pattern c.args.set c.args.x c.with.result (search rules) c.with.ensures y
