-- How many members of a set are below a limit: the digits that are set among its lowest ones.
use Prim.Native.Nat.{ℕ, zero, suc, ◌+◌, ◌*◌, ◌/◌, ◌%◌, ◌^◌, ◌<◌}
use native.Mathlib.Omega.{arith}
use native.Mathlib.Nat.{mod-lt, mod-eq_of_lt, mod-one, pow-suc, mul_comm}
use mathlib.Core.Path.{◌≡◌, refl, sym, ap, ◌∙◌}
use mathlib.Core.Bool.{Bool, true, false, cond}
use lib.Arith.{mod-mul}
use lib.Pow.{pow_pos, pow-lt}
use lib.Count.{ones_in, ones, ones_cat}
use lib.Dec.{eqb}
use borrow.Author.Tests.{eqb-true, eqb-false}
use Rattle.sets.specs.Sets.{member}
use Rattle.sets.specs.Inner.Promises.{count_below}

-- One digit.
digit_ones : (a : ℕ) → a < 2 → ones a ≡ cond (eqb a 1) 1 0
unfolding ones ones_in
digit_ones a l = go (eqb a 1) refl
  where
    go : (t : Bool) → eqb a 1 ≡ t → ones a ≡ cond (eqb a 1) 1 0
    go true e = let q : a ≡ 1 = eqb-true a 1 e in rw q
    go false e = let n = eqb-false a 1 e in let q : a ≡ 0 = zero_of n in rw q
      where
        zero_of : (a ≡ 1 → ⊥) → a ≡ 0
        zero_of n = omega arith

no_ones : ones 0 ≡ 0
unfolding ones ones_in
no_ones = refl

pub ones_below : (k n : ℕ) → ones (n % 2 ^ k) ≡ count_below k (member n)
unfolding count_below member
ones_below zero n = rw (mod-one n) no_ones
ones_below (suc k) n =
    let split : n % 2 ^ suc k ≡ (n / 2 ^ k % 2) * 2 ^ k + n % 2 ^ k = ap (λ (m : ℕ). n % m) (pow-suc 2 k ∙ mul_comm (2 ^ k) 2) ∙ mod-mul n (omega arith) (pow_pos k) in
    rw split (ones_cat k (n / 2 ^ k % 2) (n % 2 ^ k) (mod-lt n (pow_pos k)) ∙ rw (digit_ones (n / 2 ^ k % 2) (omega arith), ones_below k n) (omega arith))

pub ones_all : (k n : ℕ) → n < 2 ^ k → ones n ≡ count_below k (member n)
ones_all k n l = ap ones (sym (mod-eq_of_lt l)) ∙ ones_below k n

-- The number with one digit, as the machine shifts it.
pub shifted : (k : ℕ) → k < 64 → 1 * 2 ^ k % 0x1_0000_0000_0000_0000 ≡ 2 ^ k
shifted k l = let e : 1 * 2 ^ k ≡ 2 ^ k = omega arith in rw e (mod-eq_of_lt (pow-lt l))
