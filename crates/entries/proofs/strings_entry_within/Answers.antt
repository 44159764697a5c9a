-- By the strings of both.
use Rattle.entries.proofs.Tests.{values_decide}
use Rattle.entries.proofs.strings_entry_within.Goals as goal

pub returns : goal.returns
returns c = λ xs ys l m. values_decide _ _ _ _ (c.strings_of.ensures xs l) (c.strings_of-2.ensures ys m) c.values_within.result c.values_within.ensures
