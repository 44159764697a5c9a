-- No bit of 0 is set.
use Rattle.sets.proofs.Laws.{member_zero}
use Rattle.strings.proofs.none.Goals as goal

pub returns : goal.returns
returns c = member_zero
