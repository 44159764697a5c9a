-- The template is a root, and an origin of each gap passed.
use Prim.Native.Nat.{◌<◌}
use Rattle.summaries.specs.Proposal.{root, claim}
use Rattle.summaries.specs.Summaries.{Summary}
use Rattle.graphs.specs.Inner.Graphs.{Keeps, adding}
use Rattle.entries.proofs.Templates.{LoadedTo}
use Rattle.entries.proofs.add_template.Given as goal

abbrev pub invariant-loop-k : goal.invariant-loop-k
invariant-loop-k l = l.t < 32 → (R : Summary) → Keeps l.initial.graph (adding (claim (root l.t)) R) → LoadedTo l.t l.gaps R l.k l.graph
