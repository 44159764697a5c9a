-- The word has a bit for each named string.
use Rattle.strings.proofs.Laws.{all_strings}
use Rattle.strings.proofs.all.Goals as goal

pub returns : goal.returns
returns c = all_strings
