-- The patterns before the loop's place are joined with all of b.
use Prim.Native.Nat.{ℕ, ◌-◌, ◌≤◌}
use mathlib.Core.Path.{◌≡◌}
use mathlib.Core.Bool.{true}
use Rattle.pattern_sets.specs.Inner.PatternSets.{holds}
use Rattle.pattern_sets.specs.Inner.Images.{joined_by, Apart}
use Rattle.pattern_sets.proofs.Stepping.{JoinedTo}
use Rattle.pattern_sets.proofs.joined_sets.Given as goal

abbrev pub invariant-loop-x : goal.invariant-loop-x
invariant-loop-x l = (l.from ≤ 256) × (((x : ℕ) → holds l.a x ≡ true → Apart x l.firsts l.seconds) → JoinedTo (joined_by l.firsts l.seconds) l.a l.b l.from l.set)

abbrev pub decreases-loop-x : goal.decreases-loop-x
decreases-loop-x l = 256 - l.from
