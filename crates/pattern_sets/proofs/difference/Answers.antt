-- Each word lacks what another has.
use Rattle.pattern_sets.proofs.Laws.{pattern_by_pattern}
use mathlib.Core.Path.{refl}
use mathlib.Core.Bool.{not, ◌&&◌}
use borrow.Author.Rules.{rules}
use Rattle.pattern_sets.proofs.difference.Goals as goal

pub returns : goal.returns
returns c = pattern_by_pattern (λ s t. s && not t) refl c.args.a c.args.b c.by_words.result (search rules) (search rules) (search rules) c.by_words.ensures
