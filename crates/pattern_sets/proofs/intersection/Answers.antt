-- Each word has what two words have in common.
use Rattle.pattern_sets.proofs.Laws.{pattern_by_pattern}
use mathlib.Core.Path.{refl}
use mathlib.Core.Bool.{◌&&◌}
use borrow.Author.Rules.{rules}
use Rattle.pattern_sets.proofs.intersection.Goals as goal

pub returns : goal.returns
returns c = pattern_by_pattern ◌&&◌ refl c.args.a c.args.b c.by_words.result (search rules) (search rules) (search rules) c.by_words.ensures
