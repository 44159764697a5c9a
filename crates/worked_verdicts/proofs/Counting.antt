-- What holds below a number and at it.
use Prim.Native.Nat.{ℕ, suc, ◌<◌}
use native.Mathlib.Omega.{arith}
use mathlib.Core.Path.{◌≡◌, refl}
use mathlib.Core.Bool.{Bool, true, false}
use lib.Dec.{eqb}
use borrow.Author.Tests.{eqb-true, eqb-false}

pub one_more : (P : ℕ → Type 0) (p : ℕ) → ((q : ℕ) → q < p → P q) → P p → (q : ℕ) → q < suc p → P q
one_more P p below here q h = go (eqb q p) refl
  where
    go : (b : Bool) → eqb q p ≡ b → P q
    go true e = rw (eqb-true q p e) here
    go false e = let n = eqb-false q p e in below q (omega arith)
