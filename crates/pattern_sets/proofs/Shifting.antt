-- Sets moved by a power of two, and the members that one word has and another lacks.
use Prim.Native.Nat.{ℕ, zero, suc, ◌+◌, ◌-◌, ◌*◌, ◌/◌, ◌%◌, ◌^◌, ◌≤◌, ◌<◌}
use mathlib.Core.Path.{◌≡◌, refl, sym, ap, ◌∙◌}
use mathlib.Core.List.{List, [], ◌∷◌}
use native.Mathlib.Omega.{arith}
use lib.ListN.{get_or}
use lib.Dec.{eqb, lit<}
use lib.Pow.{pow-lt, shl_exact, shl-shr, shr-shr, field, mod-mod-pow}
use Rattle.sets.specs.Sets.{member}
use Rattle.pattern_sets.specs.Inner.PatternSets.{holds}
use Rattle.pattern_sets.specs.Inner.Images.{ShiftedMembers, Shifted}
use Rattle.pattern_sets.proofs.Flags.{member_large}

-- ---- a word shifted up

-- Bits below 2 ^ m do not change when the rest is cut off.
cut_bit : (n m k : ℕ) → k < m → n % 2 ^ m / 2 ^ k % 2 ≡ n / 2 ^ k % 2
cut_bit n m k h =
    let e : m ≡ (m - k - 1 + 1) + k = omega arith in
    ap (λ (j : ℕ). n % 2 ^ j / 2 ^ k % 2) e
    ∙ ap (λ (v : ℕ). v % 2) (field n (m - k - 1 + 1) k)
    ∙ mod-mod-pow (n / 2 ^ k) (m - k - 1) 1

pub member_cut : (n m k : ℕ) → k < m → member (n % 2 ^ m) k ≡ member n k
unfolding member
member_cut n m k h = ap (λ (v : ℕ). eqb v 1) (cut_bit n m k h)

raised_bit : (w n k : ℕ) → n ≤ k → member (w * 2 ^ n) k ≡ member w (k - n)
unfolding member
raised_bit w n k h =
    let e : n + (k - n) ≡ k = omega arith in
    let q : w * 2 ^ n / 2 ^ k ≡ w / 2 ^ (k - n) =
    ap (λ (j : ℕ). w * 2 ^ n / 2 ^ j) (sym e) ∙ sym (shr-shr (w * 2 ^ n) n (k - n)) ∙ ap (λ (v : ℕ). v / 2 ^ (k - n)) (shl-shr w n) in
    ap (λ (v : ℕ). eqb (v % 2) 1) q

pub shifts : (w n : ℕ) → ShiftedMembers w n ((w * 2 ^ n) % 2 ^ 64)
shifts w n k h l = member_cut (w * 2 ^ n) 64 k l ∙ raised_bit w n k h

-- How far words are shifted for a flag.
pub shift_count : (i : ℕ) → i < 6 → (1 * 2 ^ i) % 2 ^ 32 ≡ 2 ^ i
shift_count i h = shl_exact {a = 1} 1 i 32 (lit< tt) (omega arith) ∙ (let e : 1 * 2 ^ i ≡ 2 ^ i = omega arith in e)

pub shift_small : (i : ℕ) → i < 6 → (1 * 2 ^ i) % 2 ^ 32 < 64
shift_small i h = let p : 2 ^ i < 2 ^ 6 = pow-lt h in rw (shift_count i h) (omega arith)

-- ---- a set shifted up

module _ (set : List ℕ) where
  -- Within words.
  module _ (i n : ℕ) (h : i < 6) (e : n ≡ 2 ^ i) (r₀ r₁ r₂ r₃ : ℕ) (e₀ : ShiftedMembers (get_or set 0 0) n r₀)
      (e₁ : ShiftedMembers (get_or set 1 0) n r₁) (e₂ : ShiftedMembers (get_or set 2 0) n r₂) (e₃ : ShiftedMembers (get_or set 3 0) n r₃) where
    word_shifted : (q k : ℕ) → q < 4 → n ≤ k → k < 64 → member (get_or (r₀ ∷ r₁ ∷ r₂ ∷ r₃ ∷ []) q 0) k ≡ member (get_or set q 0) (k - n)
    word_shifted zero k b l m = e₀ k l m
    word_shifted (suc zero) k b l m = e₁ k l m
    word_shifted (suc (suc zero)) k b l m = e₂ k l m
    word_shifted (suc (suc (suc zero))) k b l m = e₃ k l m
    word_shifted (suc (suc (suc (suc q)))) k b l m = absurd (omega arith)

    pub shifts_words : Shifted set i (r₀ ∷ r₁ ∷ r₂ ∷ r₃ ∷ [])
    unfolding holds
    shifts_words z b has =
        let low : 2 ^ i ≤ z % 64 = member_large (z % 64) i (member_cut z 6 i h ∙ has) in
        let q : (z - 2 ^ i) / 64 ≡ z / 64 = omega arith in
        let k : (z - 2 ^ i) % 64 ≡ z % 64 - n = omega arith in
        word_shifted (z / 64) (z % 64) (omega arith) (omega arith) (omega arith) ∙ sym (rw (q, k))

  -- By one word, and by two.
  pub shifts_one : Shifted set 6 (0 ∷ get_or set 0 0 ∷ get_or set 1 0 ∷ get_or set 2 0 ∷ [])
  unfolding holds
  shifts_one z b has =
      let large : 64 ≤ z = member_large z 6 has in
      let q : z / 64 ≡ suc ((z - 64) / 64) = omega arith in
      let k : z % 64 ≡ (z - 64) % 64 = omega arith in
      rw (q, k) (ap (λ (w : ℕ). member w ((z - 64) % 64)) (go ((z - 64) / 64) (omega arith)))
    where
      go : (j : ℕ) → j < 3 → get_or (get_or set 0 0 ∷ get_or set 1 0 ∷ get_or set 2 0 ∷ []) j 0 ≡ get_or set j 0
      go zero l = refl
      go (suc zero) l = refl
      go (suc (suc zero)) l = refl
      go (suc (suc (suc j))) l = absurd (omega arith)

  pub shifts_two : Shifted set 7 (0 ∷ 0 ∷ get_or set 0 0 ∷ get_or set 1 0 ∷ [])
  unfolding holds
  shifts_two z b has =
      let large : 128 ≤ z = member_large z 7 has in
      let q : z / 64 ≡ suc (suc ((z - 128) / 64)) = omega arith in
      let k : z % 64 ≡ (z - 128) % 64 = omega arith in
      rw (q, k) (ap (λ (w : ℕ). member w ((z - 128) % 64)) (go ((z - 128) / 64) (omega arith)))
    where
      go : (j : ℕ) → j < 2 → get_or (get_or set 0 0 ∷ get_or set 1 0 ∷ []) j 0 ≡ get_or set j 0
      go zero l = refl
      go (suc zero) l = refl
      go (suc (suc j)) l = absurd (omega arith)
