-- How many numbers are as a test says: with a test that more numbers pass the count grows, and it is at most that of all.
use Prim.Native.Nat.{ℕ, zero, suc, ◌+◌, ◌≤◌, ◌<◌}
use mathlib.Core.Path.{◌≡◌, refl}
use mathlib.Core.Bool.{Bool, true, false, cond, false≢true}
use native.Mathlib.Omega.{arith}
use lib.Dec.{eqb}
use borrow.Author.Tests.{eqb-true, eqb-false}
use Rattle.sets.specs.Inner.Promises.{count_below}

one_grows : (a b : Bool) → (a ≡ true → b ≡ true) → cond a 1 0 ≤ cond b 1 0
one_grows true true h = omega arith
one_grows true false h = absurd (false≢true (h refl))
one_grows false true h = omega arith
one_grows false false h = omega arith

pub count_grows : (n : ℕ) (p q : ℕ → Bool) → ((x : ℕ) → x < n → p x ≡ true → q x ≡ true) → count_below n p ≤ count_below n q
unfolding count_below
count_grows zero p q h = omega arith
count_grows (suc n) p q h =
    let below : count_below n p ≤ count_below n q = count_grows n p q (λ x k. h x (omega arith)) in
    let last = one_grows (p n) (q n) (h n (omega arith)) in
    omega arith

-- A number that passes the second test alone.
pub count_more : (n : ℕ) (p q : ℕ → Bool) → ((x : ℕ) → x < n → p x ≡ true → q x ≡ true) → (y : ℕ) → y < n → p y ≡ false → q y ≡ true
    → count_below n p < count_below n q
unfolding count_below
count_more zero p q h y k fails passes = absurd (omega arith)
count_more (suc n) p q h y k fails passes = go (eqb y n) refl (λ ne. count_more n p q (λ x i. h x (omega arith)) y (omega arith) fails passes)
  where
    go : (t : Bool) → eqb y n ≡ t → ((y ≡ n → ⊥) → count_below n p < count_below n q) → count_below n p + cond (p n) 1 0 < count_below n q + cond (q n) 1 0
    go true e more =
        let is : y ≡ n = eqb-true y n e in
        let a : p n ≡ false = rw (← is) fails in
        let b : q n ≡ true = rw (← is) passes in
        let below : count_below n p ≤ count_below n q = count_grows n p q (λ x i. h x (omega arith)) in
        rw (a, b) (omega arith)
    go false e more =
        let below : count_below n p < count_below n q = more (eqb-false y n e) in
        let last = one_grows (p n) (q n) (h n (omega arith)) in
        omega arith

pub count_most : (n : ℕ) (p : ℕ → Bool) → count_below n p ≤ n
unfolding count_below
count_most zero p = omega arith
count_most (suc n) p = go (p n) (count_most n p)
  where
    go : (b : Bool) → count_below n p ≤ n → count_below n p + cond b 1 0 ≤ suc n
    go true h = omega arith
    go false h = omega arith
