-- A shifted word's bits are those further down.
use Rattle.pattern_sets.proofs.Shifting.{shifts}
use Rattle.pattern_sets.proofs.shifted_word.Goals as goal

pub returns : goal.returns
returns c = shifts c.args.word c.args.n
