-- The items of the second operands passed are written.
use Rattle.memory.specs.Inner.Laid.{Writes}
use Rattle.summaries.specs.ProposalOf.{each}
use Rattle.graphs.specs.Inner.Graphs.{holds}
use Rattle.proposals.specs.Inner.Bytes.{place_bytes}
use Rattle.proposals.proofs.Listing.put_row.Given as goal

abbrev pub invariant-loop-b : goal.invariant-loop-b
invariant-loop-b l = Writes l.initial.out l.at (each l.b (place_bytes l.self.templates (holds l.self.graph.now) l.sort l.a)) l.n l.out
