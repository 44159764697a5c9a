-- Tests of numbers, and of all numbers below a bound.
use Prim.Native.Nat.{ℕ, zero, suc, ◌<◌}
use mathlib.Core.Path.{◌≡◌, refl, sym}
use mathlib.Core.Bool.{Bool, true, false, false≢true}
use mathlib.Core.Logic.{⊎_elim}
use native.Mathlib.Omega.{arith}
use lib.Dec.{eqb}
use borrow.Author.Tests.{eqb-true, eqb-false, eq-eqb}
use Rattle.sets.proofs.Booleans.{or_left, or_right, or_cases, either, alike}
use Rattle.patterns.specs.Inner.Rounds.{any_below}

pub eqb_same : (n : ℕ) → eqb n n ≡ true
eqb_same n = eq-eqb n n refl

pub eqb_sym : (m n : ℕ) → eqb m n ≡ eqb n m
eqb_sym m n = alike (eqb m n) (eqb n m) (λ e. eq-eqb n m (sym (eqb-true m n e))) (λ e. eq-eqb m n (sym (eqb-true n m e)))

pub any_below_lem : (n : ℕ) (p : ℕ → Bool) (i : ℕ) → i < n → p i ≡ true → any_below n p ≡ true
unfolding any_below
any_below_lem zero p i h e = absurd (omega arith)
any_below_lem (suc n) p i h e = ⊎_elim
    (λ (q : eqb i n ≡ true). or_left (p n) (any_below n p) (rw (← (eqb-true i n q)) e))
    (λ (q : eqb i n ≡ false). or_right (p n) (any_below n p) (any_below_lem n p i (let ne : i ≡ n → ⊥ = eqb-false i n q in omega arith) e))
    (either (eqb i n))

-- The number that passes.
pub below_any : (n : ℕ) (p : ℕ → Bool) → any_below n p ≡ true → (i : ℕ) × (i < n) × (p i ≡ true)
unfolding any_below
below_any zero p e = absurd (false≢true e)
below_any (suc n) p e = ⊎_elim
    (λ (q : p n ≡ true). (n, omega arith, q))
    (λ (q : any_below n p ≡ true). let (i, h, r) = below_any n p q in (i, omega arith, r))
    (or_cases (p n) (any_below n p) e)
