-- The template is a root, and an origin of each gap passed.
use Prim.Native.Nat.{ℕ, ◌<◌}
use Rattle.entries.proofs.Fragments.{Origin}
use Rattle.entries.proofs.fragment_holds.Given as goal

abbrev pub invariant-loop-k : goal.invariant-loop-k
invariant-loop-k l = (i : ℕ) → i < l.k → Origin l.graph l.gaps l.t i
