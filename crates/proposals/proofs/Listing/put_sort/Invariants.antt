-- The items of the first operands passed are written.
use Rattle.memory.specs.Inner.Laid.{Writes}
use Rattle.summaries.specs.ProposalOf.{each}
use Rattle.graphs.specs.Inner.Graphs.{holds}
use Rattle.proposals.specs.Inner.Bytes.{row_bytes}
use Rattle.proposals.proofs.Listing.put_sort.Given as goal

abbrev pub invariant-loop-a : goal.invariant-loop-a
invariant-loop-a l = Writes l.initial.out l.at (each l.a (row_bytes l.self.templates (holds l.self.graph.now) l.sort)) l.n l.out
