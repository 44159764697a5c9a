-- The first point has none before it.
use Rattle.proposals.proofs.Repeats.{repeats}
use Rattle.proposals.proofs.Entries.is_repeated.Goals as goal

pub returns : goal.returns
returns c = λ e. repeats _ _ _ c.if-p-eq0.false (c.same_entry.ensures e)
