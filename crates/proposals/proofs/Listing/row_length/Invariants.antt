-- The bytes of the second operands passed are counted.
use mathlib.Core.Path.{◌≡◌}
use lib.ListN.{length}
use Rattle.summaries.specs.ProposalOf.{each}
use Rattle.graphs.specs.Inner.Graphs.{holds}
use Rattle.proposals.specs.Inner.Bytes.{place_bytes}
use Rattle.proposals.proofs.Listing.row_length.Given as goal

abbrev pub invariant-loop-b : goal.invariant-loop-b
invariant-loop-b l = l.total ≡ length (each l.b (place_bytes l.self.templates (holds l.self.graph.now) l.sort l.a))
