-- Joining two sets, a member of the one after the other.
use Prim.Native.Nat.{ℕ, ◌<◌}
use mathlib.Core.Path.{◌≡◌}
use mathlib.Core.List.{List}
use mathlib.Core.Bool.{true}
use Rattle.pattern_sets.specs.Inner.PatternSets.{holds}

module _ (op : ℕ → ℕ → ℕ) (a b : List ℕ) where
  -- The patterns of a before a place, joined with those of b.
  pub record JoinedTo (at : ℕ) (r : List ℕ) : Type 0 where
    pub complete : (x y : ℕ) → x < at → holds a x ≡ true → holds b y ≡ true → holds r (op x y) ≡ true
    pub sound : (z : ℕ) → holds r z ≡ true → (x : ℕ) × (y : ℕ) × (holds a x ≡ true) × (holds b y ≡ true) × (op x y ≡ z)
