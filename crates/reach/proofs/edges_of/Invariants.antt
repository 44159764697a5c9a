-- The gaps passed have their edges in.
use Rattle.reach.proofs.Edges.{EdgesTo}
use Rattle.reach.proofs.edges_of.Given as goal

abbrev pub invariant-loop-g : goal.invariant-loop-g
invariant-loop-g l = EdgesTo l.graph l.n l.gaps l.g l.all
