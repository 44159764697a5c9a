-- The entries passed are counted.
use Rattle.proposals.proofs.Tables.{Filled, IsLength}
use Rattle.proposals.proofs.entry_lengths.Given as goal

abbrev pub invariant-loop-i : goal.invariant-loop-i
invariant-loop-i l = Filled (IsLength l.templates l.work) l.i l.lengths
