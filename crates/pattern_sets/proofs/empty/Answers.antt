-- No word has a member.
use Rattle.pattern_sets.proofs.Laws.{holds_empty}
use Rattle.pattern_sets.proofs.empty.Goals as goal

pub returns : goal.returns
returns c = holds_empty
