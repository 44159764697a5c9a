-- Each word is the union of two words.
use Rattle.pattern_sets.proofs.Laws.{pattern_by_pattern}
use mathlib.Core.Path.{refl}
use mathlib.Core.Bool.{◌||◌}
use borrow.Author.Rules.{rules}
use Rattle.pattern_sets.proofs.union.Goals as goal

pub returns : goal.returns
returns c = pattern_by_pattern ◌||◌ refl c.args.a c.args.b c.by_words.result (search rules) (search rules) (search rules) c.by_words.ensures
