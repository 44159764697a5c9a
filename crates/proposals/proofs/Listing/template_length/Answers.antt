-- The bytes of each sort are added.
use native.Mathlib.Omega.{arith}
use Rattle.graphs.specs.Inner.Graphs.{holds}
use Rattle.proposals.proofs.Sorts.{template_length}
use Rattle.proposals.proofs.Listing.template_length.Goals as goal

pub returns : goal.returns
returns c = omega (arith, template_length c.args.self.now.templates (holds c.args.self.now.graph.now))
