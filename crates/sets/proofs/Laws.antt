-- What the operations on words do to their members.
use Prim.Native.Nat.{ℕ, zero, suc, ◌+◌, ◌-◌, ◌*◌, ◌/◌, ◌%◌, ◌^◌, ◌≤◌, ◌<◌, min, max}
use mathlib.Core.Path.{◌≡◌, refl, sym, ap, ◌∙◌}
use mathlib.Core.Bool.{Bool, true, false, not, ◌&&◌, ◌||◌, or_comm, false≢true}
use mathlib.Core.Logic.{◌⊎◌, inl, inr}
use native.Mathlib.Nat.{mod-lt, div-eq_of_lt, div-add-mod', div-one, zero-div, mul-mod_left, pow-suc, one-mul, eq-or-lt_of_le, le_of_suc-le-suc}
use native.Mathlib.Numerals.{one-add, add-one}
use native.Mathlib.Omega.{arith}
use lib.Arith.{digits_mod}
use lib.Bits.{bit_and, bit_or, bit_xor, differ, and_step, or_step, xor_step, and_shr, or_shr, xor_shr, and_lt}
use lib.Dec.{eqb, ltb, lit<}
use lib.Pow.{pow_mono, pow-lt, pow-add, shl-shr, shl_exact, shr-shr, shr_lt}
use borrow.Author.Tests.{eq-eqb, ne_eqb, eqb-true, eqb-false, ltb-true, ltb-false}
use Rattle.sets.specs.Sets.{member}
use Rattle.sets.specs.Inner.Promises.{MembersWithin}

-- ---- one bit

bit : (n : ℕ) → n % 2 < 2
bit n = mod-lt n (lit< tt)

bit_min : (x y : ℕ) → x < 2 → y < 2 → eqb (min x y) 1 ≡ (eqb x 1 && eqb y 1)
bit_min zero zero p q = refl
bit_min zero (suc zero) p q = refl
bit_min (suc zero) zero p q = refl
bit_min (suc zero) (suc zero) p q = refl
bit_min (suc (suc x)) y p q = absurd (omega arith)
bit_min zero (suc (suc y)) p q = absurd (omega arith)
bit_min (suc zero) (suc (suc y)) p q = absurd (omega arith)

bit_max : (x y : ℕ) → x < 2 → y < 2 → eqb (max x y) 1 ≡ (eqb x 1 || eqb y 1)
bit_max zero zero p q = refl
bit_max zero (suc zero) p q = refl
bit_max (suc zero) zero p q = refl
bit_max (suc zero) (suc zero) p q = refl
bit_max (suc (suc x)) y p q = absurd (omega arith)
bit_max zero (suc (suc y)) p q = absurd (omega arith)
bit_max (suc zero) (suc (suc y)) p q = absurd (omega arith)

bit_without : (x y : ℕ) → x < 2 → y < 2 → eqb (differ x (min x y)) 1 ≡ (eqb x 1 && not (eqb y 1))
bit_without zero zero p q = refl
bit_without zero (suc zero) p q = refl
bit_without (suc zero) zero p q = refl
bit_without (suc zero) (suc zero) p q = refl
bit_without (suc (suc x)) y p q = absurd (omega arith)
bit_without zero (suc (suc y)) p q = absurd (omega arith)
bit_without (suc zero) (suc (suc y)) p q = absurd (omega arith)

small : (x y : ℕ) → x < 2 → y < 2 → differ x (min x y) < 2
small zero zero p q = omega arith
small zero (suc zero) p q = omega arith
small (suc zero) zero p q = omega arith
small (suc zero) (suc zero) p q = omega arith
small (suc (suc x)) y p q = absurd (omega arith)
small zero (suc (suc y)) p q = absurd (omega arith)
small (suc zero) (suc (suc y)) p q = absurd (omega arith)

bit_same : (x y : ℕ) → x < 2 → y < 2 → eqb x 1 ≡ eqb y 1 → x ≡ y
bit_same zero zero p q e = refl
bit_same zero (suc zero) p q e = absurd (eqb-false 1 1 (sym e) refl)
bit_same (suc zero) zero p q e = absurd (eqb-false 1 1 e refl)
bit_same (suc zero) (suc zero) p q e = refl
bit_same (suc (suc x)) y p q e = absurd (omega arith)
bit_same zero (suc (suc y)) p q e = absurd (omega arith)
bit_same (suc zero) (suc (suc y)) p q e = absurd (omega arith)

-- ---- the members of a word

pub member_and : (a b k : ℕ) → member (bit_and a b) k ≡ (member a k && member b k)
unfolding member
member_and a b k =
    let x : ℕ = a / 2 ^ k in
    let y : ℕ = b / 2 ^ k in
    let e : bit_and x y % 2 ≡ min (x % 2) (y % 2) = rw (and_step x y) (digits_mod (bit_and (x / 2) (y / 2)) (omega (arith, bit x))) in
    rw (and_shr a b k, e) (bit_min (x % 2) (y % 2) (bit x) (bit y))

pub member_or : (a b k : ℕ) → member (bit_or a b) k ≡ (member a k || member b k)
unfolding member
member_or a b k =
    let x : ℕ = a / 2 ^ k in
    let y : ℕ = b / 2 ^ k in
    let e : bit_or x y % 2 ≡ max (x % 2) (y % 2) = rw (or_step x y) (digits_mod (bit_or (x / 2) (y / 2)) (omega (arith, bit x, bit y))) in
    rw (or_shr a b k, e) (bit_max (x % 2) (y % 2) (bit x) (bit y))

pub member_without : (a b k : ℕ) → member (bit_xor a (bit_and a b)) k ≡ (member a k && not (member b k))
unfolding member
member_without a b k =
    let x : ℕ = a / 2 ^ k in
    let y : ℕ = b / 2 ^ k in
    let f : bit_and x y % 2 ≡ min (x % 2) (y % 2) = rw (and_step x y) (digits_mod (bit_and (x / 2) (y / 2)) (omega (arith, bit x))) in
    let g : bit_xor x (bit_and x y) % 2 ≡ differ (x % 2) (min (x % 2) (y % 2)) =
    rw (xor_step x (bit_and x y), f) (digits_mod (bit_xor (x / 2) (bit_and x y / 2)) (small (x % 2) (y % 2) (bit x) (bit y))) in
    rw (xor_shr a (bit_and a b) k, and_shr a b k, g) (bit_without (x % 2) (y % 2) (bit x) (bit y))

pub member_zero : (k : ℕ) → member 0 k ≡ false
unfolding member
member_zero k = rw (zero-div (2 ^ k))

-- A number below a power of two has no member from there on.
pub member_high : (n set k : ℕ) → set < 2 ^ n → n ≤ k → member set k ≡ false
unfolding member
member_high n set k h l =
    let p : 2 ^ n ≤ 2 ^ k = pow_mono l in
    let e : set / 2 ^ k ≡ 0 = div-eq_of_lt (omega arith) in
    rw e

even : (d k : ℕ) → 1 * 2 ^ (suc d + k) / 2 ^ k % 2 ≡ 0
even d k = rw (one-mul (2 ^ (suc d + k)), pow-add 2 (suc d) k, shl-shr (2 ^ suc d) k, pow-suc 2 d) (mul-mod_left (2 ^ d) 2)

single : (i k : ℕ) (t u : Bool) → ltb k i ≡ t → ltb i k ≡ u → member (1 * 2 ^ i) k ≡ eqb k i
unfolding member
single i k true u e f =
    let h : k < i = ltb-true k i e in
    let d : ℕ = i - k - 1 in
    let s : i ≡ suc d + k = omega arith in
    let z : 1 * 2 ^ i / 2 ^ k % 2 ≡ 0 = ap (λ (n : ℕ). 1 * 2 ^ n / 2 ^ k % 2) s ∙ even d k in
    rw (z, ne_eqb k i (λ q. omega arith))
single i k false true e f =
    let h : i < k = ltb-true i k f in
    let p : 2 ^ i < 2 ^ k = pow-lt h in
    let z : 1 * 2 ^ i / 2 ^ k ≡ 0 = div-eq_of_lt (omega arith) in
    rw (z, ne_eqb k i (λ q. omega arith))
single i k false false e f =
    let s : k ≡ i = omega (arith, ltb-false k i e, ltb-false i k f) in
    rw (s, shl-shr 1 i, eq-eqb i i refl)

pub member_single : (i k : ℕ) → member (1 * 2 ^ i) k ≡ eqb k i
member_single i k = single i k (ltb k i) (ltb i k) refl refl

-- A word with one member more; the shift of a word keeps its width.
pub member_with : (set i : ℕ) → i < 64 → (k : ℕ) → member (bit_or set ((1 * 2 ^ i) % 2 ^ 64)) k ≡ (eqb k i || member set k)
member_with set i h k =
    rw (shl_exact {a = 1} 1 i 64 (lit< tt) (omega arith), member_or set (1 * 2 ^ i) k, member_single i k) (or_comm (member set k) (eqb k i))

-- ---- two words with the same members

pub member_tail : (n k : ℕ) → member n (suc k) ≡ member (n / 2) k
unfolding member
member_tail n k = rw (← one-add k, ← shr-shr n 1 k)

pub member_head : (n : ℕ) → member n 0 ≡ eqb (n % 2) 1
unfolding member
member_head n = rw (div-one n)

pub member_shift : (n i k : ℕ) → member (n / 2 ^ i) k ≡ member n (i + k)
unfolding member
member_shift n i k = rw (shr-shr n i k)

pub same_members : (n a b : ℕ) → a < 2 ^ n → b < 2 ^ n → ((k : ℕ) → k < n → member a k ≡ member b k) → a ≡ b
same_members zero a b p q e = omega arith
same_members (suc n) a b p q e =
    let halves : a / 2 ≡ b / 2 = same_members n (a / 2) (b / 2) (shr_lt n 1 (rw (add-one n) p)) (shr_lt n 1 (rw (add-one n) q)) (λ k h. sym (member_tail a k) ∙ e (suc k) (omega arith) ∙ member_tail b k) in
    let ends : a % 2 ≡ b % 2 = bit_same (a % 2) (b % 2) (bit a) (bit b) (sym (member_head a) ∙ e 0 (omega arith) ∙ member_head b) in
    omega (arith, div-add-mod' a 2, div-add-mod' b 2)

-- ---- subsets

find : (p : ℕ → Bool) (n : ℕ) → ((k : ℕ) × (k < n) × (p k ≡ true)) ⊎ ((k : ℕ) → k < n → p k ≡ false)
find p zero = inr (λ k h. absurd (omega arith))
find p (suc n) = more (p n) refl (find p n)
  where
    more : (t : Bool) → p n ≡ t → ((k : ℕ) × (k < n) × (p k ≡ true)) ⊎ ((k : ℕ) → k < n → p k ≡ false) → ((k : ℕ) × (k < suc n) × (p k ≡ true)) ⊎ ((k : ℕ) → k < suc n → p k ≡ false)
    more true e r = inl (n, omega arith, e)
    more false e (inl (k, h, f)) = inl (k, omega arith, f)
    more false e (inr none) = inr (λ k h. elim (eq-or-lt_of_le (le_of_suc-le-suc h)) [ inl q ↦ ap p q ∙ e | inr q ↦ none k q ])

apart : (t u : Bool) → (t && not u) ≡ true → (t ≡ true) × (u ≡ false)
apart true false e = (refl, refl)
apart true true e = absurd (false≢true e)
apart false u e = absurd (false≢true e)

-- A member of the first that the second lacks.
lacks : (a b k : ℕ) → (member a k && not (member b k)) ≡ true → (member a k ≡ true) × (member b k ≡ false)
lacks a b k e = apart (member a k) (member b k) e

kept : (t u : Bool) → (t && not u) ≡ false → (t && u) ≡ t
kept true true e = refl
kept true false e = absurd (false≢true (sym e))
kept false u e = refl

inside : (t u : Bool) → (t && u) ≡ t → t ≡ true → u ≡ true
inside true u e h = e
inside false u e h = absurd (false≢true h)

pub within : (a b : ℕ) → a < 2 ^ 64 → b < 2 ^ 64 → (t : Bool) → eqb (bit_and a b) a ≡ t → MembersWithin a b t
within a b p q true e = λ k h. inside (member a k) (member b k) (sym (member_and a b k) ∙ ap (λ (n : ℕ). member n k) (eqb-true (bit_and a b) a e)) h
within a b p q false e = elim (find (λ k. member a k && not (member b k)) 64) [
  | inl w ↦ (w.0, w.1, (lacks a b w.0 w.2).0, (lacks a b w.0 w.2).1)
  | inr none ↦ absurd (eqb-false (bit_and a b) a e (same_members 64 (bit_and a b) a (and_lt 64 a b p q) p (λ k h. member_and a b k ∙ kept (member a k) (member b k) (none k h))))
]
