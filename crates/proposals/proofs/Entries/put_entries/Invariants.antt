-- The entries passed are written.
use Rattle.summaries.specs.ProposalOf.{each}
use Rattle.memory.specs.Inner.Laid.{Writes}
use Rattle.proposals.proofs.Tables.{Filled, IsEnd}
use Rattle.proposals.specs.Inner.Bytes.{headed_at}
use Rattle.proposals.proofs.Entries.put_entries.Given as goal

abbrev pub invariant-loop-i : goal.invariant-loop-i
invariant-loop-i l = Writes l.initial.out l.at (each l.i (headed_at l.self.templates l.self.work.now)) l.n l.out × Filled (IsEnd l.self.templates l.self.work.now l.out l.n) l.i l.ends
