-- What is left to unload is what the graph keeps now.
use Prim.Native.Nat.{ℕ, ◌-◌}
use mathlib.Core.List.{List}
use lib.ListN.{length}
use Rattle.entries.specs.Inner.Entries.{Unloads}
use Rattle.entries.proofs.unload.Given as goal

abbrev pub invariant-loop-item : goal.invariant-loop-item
invariant-loop-item l = (after : List ℕ) → Unloads l.s l.at.at l.graph after → Unloads l.s l.initial.at.at l.initial.graph after

abbrev pub decreases-loop-item : goal.decreases-loop-item
decreases-loop-item l = length l.s - l.at.at
