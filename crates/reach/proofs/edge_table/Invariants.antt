-- The templates passed have their edges in the table.
use Prim.Native.Nat.{◌+◌, ◌≤◌}
use Rattle.summaries.specs.Summaries.{Summary}
use Rattle.graphs.specs.Inner.Graphs.{Keeps}
use Rattle.reach.proofs.Filling.{Filled}
use Rattle.reach.proofs.Edges.{EdgesAt}
use Rattle.reach.proofs.edge_table.Given as goal

abbrev pub invariant-loop-n : goal.invariant-loop-n
invariant-loop-n l = (l.n ≤ l.count + 1) × ((G : Summary) → Keeps l.graph G → Filled (EdgesAt G l.gaps l.yields) 32 l.n l.table)
