-- The bytes of the first operands passed are counted.
use mathlib.Core.Path.{◌≡◌}
use lib.ListN.{length}
use Rattle.summaries.specs.ProposalOf.{each}
use Rattle.graphs.specs.Inner.Graphs.{holds}
use Rattle.proposals.specs.Inner.Bytes.{row_bytes}
use Rattle.proposals.proofs.Listing.sort_length.Given as goal

abbrev pub invariant-loop-a : goal.invariant-loop-a
invariant-loop-a l = l.total ≡ length (each l.a (row_bytes l.self.templates (holds l.self.graph.now) l.sort))
