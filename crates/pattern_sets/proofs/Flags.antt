-- Numbers by their bits.
use Prim.Native.Nat.{ℕ, zero, suc, ◌+◌, ◌-◌, ◌*◌, ◌/◌, ◌%◌, ◌^◌, ◌≤◌, ◌<◌}
use mathlib.Core.Path.{◌≡◌, refl, sym, ap, ◌∙◌}
use mathlib.Core.Bool.{Bool, true, false, cond, ◌&&◌, ◌||◌, and-false, or_comm, false≢true}
use native.Mathlib.Nat.{div-eq-sub-div}
use native.Mathlib.Omega.{arith}
use lib.Bits.{bit_and, bit_or, or_disjoint, or_lt, and_le_r}
use lib.Dec.{eqb, ltb}
use lib.Pow.{pow_pos, pow-lt}
use borrow.Author.Tests.{ne_eqb, eqb-true, ltb-true, ltb-false}
use Rattle.sets.specs.Sets.{member}
use Rattle.sets.proofs.Laws.{member_and, member_or, member_zero, member_high, member_single, same_members}
use Rattle.pattern_sets.specs.Inner.Images.{number_of, pattern, raised_at}
use Rattle.sets.proofs.Members.{double_head, double_tail}

doubled : (b : Bool) (n m : ℕ) → n < m → cond b 1 0 + 2 * n < 2 * m
doubled true n m h = omega arith
doubled false n m h = omega arith

number_below : (n : ℕ) (p : ℕ → Bool) → number_of n p < 2 ^ n
unfolding number_of
number_below zero p = omega arith
number_below (suc n) p =
    let t : 2 ^ suc n ≡ 2 * 2 ^ n = omega arith in
    rw t (doubled (p 0) (number_of n (λ i. p (suc i))) (2 ^ n) (number_below n (λ i. p (suc i))))

number_bit : (n : ℕ) (p : ℕ → Bool) (i : ℕ) → i < n → member (number_of n p) i ≡ p i
unfolding number_of
number_bit zero p i h = absurd (omega arith)
number_bit (suc n) p zero h = double_head (p 0) (number_of n (λ i. p (suc i)))
number_bit (suc n) p (suc i) h = double_tail (p 0) (number_of n (λ i. p (suc i))) i ∙ number_bit n (λ i. p (suc i)) i (omega arith)

module _ (p : ℕ → Bool) where
  pub pattern_below : pattern p < 256
  pattern_below = number_below 8 p

  pub pattern_bit : (i : ℕ) → i < 8 → member (pattern p) i ≡ p i
  pattern_bit i h = number_bit 8 p i h

  pub pattern_high : (i : ℕ) → 8 ≤ i → member (pattern p) i ≡ false
  pattern_high i h = member_high 8 (pattern p) i pattern_below h

  pub pattern_is : (x : ℕ) → x < 256 → ((i : ℕ) → i < 8 → member x i ≡ p i) → pattern p ≡ x
  pattern_is x b h = same_members 8 (pattern p) x pattern_below b (λ i l. pattern_bit i l ∙ sym (h i l))

pub pattern_same : (p q : ℕ → Bool) → ((i : ℕ) → i < 8 → p i ≡ q i) → pattern p ≡ pattern q
pattern_same p q h = pattern_is p (pattern q) (pattern_below q) (λ i l. pattern_bit q i l ∙ sym (h i l))

-- ---- one flag more

-- A number that has flag i is at least 2 ^ i.
pub member_large : (z i : ℕ) → member z i ≡ true → 2 ^ i ≤ z
member_large z i h = go (ltb z (2 ^ i)) refl
  where
    go : (t : Bool) → ltb z (2 ^ i) ≡ t → 2 ^ i ≤ z
    go true e = absurd (false≢true (sym (member_high i z i (ltb-true z (2 ^ i) e) (omega arith)) ∙ h))
    go false e = ltb-false z (2 ^ i) e

-- Where flag i is absent it is added as a number.
module _ (y i : ℕ) (absent : member y i ≡ false) where
  one : 1 * 2 ^ i ≡ 2 ^ i
  one = omega arith

  clears : (k : ℕ) (t : Bool) → eqb k i ≡ t → (member y k && t) ≡ false
  clears k true e = ap (λ (b : Bool). b && true) (ap (member y) (eqb-true k i e) ∙ absent)
  clears k false e = and-false (member y k)

  apart : bit_and y (1 * 2 ^ i) ≡ 0
  apart = same_members (suc i) (bit_and y (1 * 2 ^ i)) 0
      (let l : bit_and y (1 * 2 ^ i) ≤ 1 * 2 ^ i = and_le_r y (1 * 2 ^ i) in
      let t : 2 ^ suc i ≡ 2 * 2 ^ i = omega arith in
      let p : 0 < 2 ^ i = pow_pos i in
      omega arith)
      (pow_pos (suc i))
      (λ k h. member_and y (1 * 2 ^ i) k ∙ ap (λ (b : Bool). member y k && b) (member_single i k) ∙ clears k (eqb k i) refl ∙ sym (member_zero k))

  sum : y + 2 ^ i ≡ bit_or y (1 * 2 ^ i)
  sum = ap (λ (n : ℕ). y + n) (sym one) ∙ sym (or_disjoint y (1 * 2 ^ i) apart)

  pub added_below : i < 8 → y < 256 → y + 2 ^ i < 256
  added_below l b =
      let p : 2 ^ i < 2 ^ 8 = pow-lt l in
      rw sum (or_lt 8 y (1 * 2 ^ i) b (omega arith))

  pub added : (j : ℕ) → member (y + 2 ^ i) j ≡ (eqb j i || member y j)
  added j =
      ap (λ (n : ℕ). member n j) sum
      ∙ member_or y (1 * 2 ^ i) j
      ∙ ap (λ (b : Bool). member y j || b) (member_single i j)
      ∙ or_comm (member y j) (eqb j i)

-- Without flag i, the number below lacks it.
pub lacks : (z i : ℕ) → member z i ≡ true → member (z - 2 ^ i) i ≡ false
unfolding member
lacks z i h =
    let p : 0 < 2 ^ i = pow_pos i in
    let q : z / 2 ^ i ≡ (z - 2 ^ i) / 2 ^ i + 1 = div-eq-sub-div p (member_large z i h) in
    let o : z / 2 ^ i % 2 ≡ 1 = eqb-true (z / 2 ^ i % 2) 1 h in
    ne_eqb ((z - 2 ^ i) / 2 ^ i % 2) 1 (λ e. omega arith)

-- A pattern that has the flag already.
pub raised_same : (i y : ℕ) → y < 256 → member y i ≡ true → raised_at i y ≡ y
raised_same i y b h = pattern_is (λ j. eqb j i || member y j) y b (λ j l. go j (eqb j i) refl)
  where
    go : (j : ℕ) (t : Bool) → eqb j i ≡ t → member y j ≡ (t || member y j)
    go j true e = ap (member y) (eqb-true j i e) ∙ h
    go j false e = refl

-- A pattern that lacks it.
pub raised_more : (i y : ℕ) → i < 8 → y < 256 → member y i ≡ false → raised_at i y ≡ y + 2 ^ i
raised_more i y l b h = pattern_is (λ j. eqb j i || member y j) (y + 2 ^ i) (added_below y i h l b) (λ j k. added y i h j)
