-- The members of a set that has just what is held.
use mathlib.Core.Path.{ap, ◌∙◌}
use lib.ListN.{length}
use Rattle.graphs.specs.Inner.Graphs.{holds}
use Rattle.proposals.proofs.Sorts.{place_is}
use Rattle.proposals.proofs.Listing.place_length.Goals as goal

pub returns : goal.returns
returns c = c.members_length.ensures ∙ ap length (place_is c.args.self.now.templates c.args.self.now.few (holds c.args.self.now.graph.now) c.args.sort _ _ _ c.members_of-set.ensures _ c.prefix.ensures _ c.limit.ensures)
