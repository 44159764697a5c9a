-- The word keeps what it shares with the other exactly where it lies within it.
use mathlib.Core.Path.{refl}
use borrow.Author.Rules.{rules}
use Rattle.sets.proofs.Laws.{within}
use Rattle.sets.proofs.is_within.Goals as goal

pub returns : goal.returns
returns c = within c.args.a c.args.b (search rules) (search rules) _ refl
