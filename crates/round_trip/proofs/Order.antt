-- The orders of a proposal: lists of bytes stand before one another as the numbers do that reading compares in their place.
use Prim.Native.Nat.{ℕ, zero, suc, ◌+◌, ◌*◌, ◌^◌, ◌≤◌, ◌<◌}
use native.Mathlib.Nat.{mul-le-mul_right, one-le-pow, pow-suc, zero-lt-suc}
use native.Mathlib.Omega.{arith}
use native.Mathlib.Decide.{dec_le}
use mathlib.Core.Path.{◌≡◌, ap}
use mathlib.Core.Logic.{inl, inr}
use mathlib.Core.List.{List, [], ◌∷◌}
use lib.ListN.{length}
use Rattle.round_trip.specs.InRange.{Bytes}
use Rattle.round_trip.specs.JobInRange.{Lexicographic, RisingBy}

-- The first n bytes of a list as one number; those that are absent are 0.
abbrev pub number : ℕ → List ℕ → ℕ
number zero w = 0
number (suc n) [] = 0
number (suc n) (b ∷ w) = b * 256 ^ n + number n w

number_small : (n : ℕ) (w : List ℕ) → Bytes w → number n w < 256 ^ n
unfolding Bytes
number_small zero w b = omega arith
number_small (suc n) [] b = one-le-pow (suc n) 256 (zero-lt-suc 255)
number_small (suc n) (c ∷ w) b = rw pow-suc (omega (arith, number_small n w b.1, mul-le-mul_right (256 ^ n) b.0))

pub before : (n : ℕ) (u v : List ℕ) → Bytes u → Bytes v → number n u < number n v → Lexicographic u v
unfolding Bytes
before zero u v p q h = absurd (omega arith)
before (suc n) u [] p q h = absurd (omega arith)
before (suc n) [] (c ∷ v) p q h = tt
before (suc n) (b ∷ u) (c ∷ v) p q h = by_first (dec_le c b) (dec_le b c) (before n u v p.1 q.1)
  where
    by_first : Dec (c ≤ b) → Dec (b ≤ c) → (number n u < number n v → Lexicographic u v) → Lexicographic (b ∷ u) (c ∷ v)
    by_first (no l) m k = inl (omega arith)
    by_first (yes l) (yes m) k =
        let e : b ≡ c = omega arith in
        inr (e, k (omega (arith, rw e at h)))
    by_first (yes l) (no m) k = absurd (omega (arith, number_small n v q.1, mul-le-mul_right {m = suc c} {n = b} (256 ^ n) (omega arith)))

-- Conversely, for lists of one length, and so for lists whose first bytes tell their lengths.
after_same : (n : ℕ) (u v : List ℕ) → length u ≡ length v → length u ≤ n → Bytes u → Lexicographic u v → number n u < number n v
unfolding Bytes
after_same n u [] e l p k = absurd k
after_same n [] (c ∷ v) e l p k = absurd (omega arith)
after_same zero (b ∷ u) (c ∷ v) e l p k = absurd (omega arith)
after_same (suc n) (b ∷ u) (c ∷ v) e l p (inl k) = omega (arith, number_small n u p.1, mul-le-mul_right (256 ^ n) k)
after_same (suc n) (b ∷ u) (c ∷ v) e l p (inr k) =
    omega (arith, after_same n u v (omega arith) (omega arith) p.1 k.1, ap (λ x. x * 256 ^ n) k.0)

pub after : (n b : ℕ) (u : List ℕ) (c : ℕ) (v : List ℕ) → (b ≡ c → length u ≡ length v) → length u ≤ n → Bytes (b ∷ u) → Lexicographic (b ∷ u) (c ∷ v)
    → number (suc n) (b ∷ u) < number (suc n) (c ∷ v)
unfolding Bytes
after n b u c v e l p (inl k) = omega (arith, number_small n u p.1, mul-le-mul_right (256 ^ n) k)
after n b u c v e l p (inr k) = after_same (suc n) (b ∷ u) (c ∷ v) (ap suc (e k.0)) (omega arith) p (inr k)

-- (p, v) as p * 8 + v.
pub pair_before : (p v p' v' : ℕ) → v' ≤ 7 → p * 8 + v < p' * 8 + v' → Lexicographic (p ∷ v ∷ []) (p' ∷ v' ∷ [])
pair_before p v p' v' h l = by_first (dec_le p' p)
  where
    by_first : Dec (p' ≤ p) → Lexicographic (p ∷ v ∷ []) (p' ∷ v' ∷ [])
    by_first (no m) = inl (omega arith)
    by_first (yes m) = inr (omega arith, inl (omega arith))

pub pair_after : (p v p' v' : ℕ) → v ≤ 7 → Lexicographic (p ∷ v ∷ []) (p' ∷ v' ∷ []) → p * 8 + v < p' * 8 + v'
pair_after p v p' v' h (inl k) = omega arith
pair_after p v p' v' h (inr k) = later k.1
  where
    later : Lexicographic (v ∷ []) (v' ∷ []) → p * 8 + v < p' * 8 + v'
    later (inl l) = omega arith
    later (inr l) = absurd l.1

module _ {A : Type 0} where
  -- What holds of the first, if there is one.
  abbrev pub First : (A → Type 0) → List A → Type 0
  First P [] = Unit {0}
  First P (a ∷ rest) = P a

  pub first_map : {P Q : A → Type 0} → ((a : A) → P a → Q a) → (rest : List A) → First P rest → First Q rest
  first_map h [] p = tt
  first_map h (a ∷ rest) p = h a p

  pub first_all : {P : A → Type 0} → ((a : A) → P a) → (rest : List A) → First P rest
  first_all h [] = tt
  first_all h (a ∷ rest) = h a

  pub rising_more : (key : A → List ℕ) (a : A) (rest : List A) → First (λ a'. Lexicographic (key a) (key a')) rest → RisingBy key rest → RisingBy key (a ∷ rest)
  unfolding RisingBy
  rising_more key a [] p r = tt
  rising_more key a (a' ∷ rest) p r = (p, r)

  pub rising_first : (key : A → List ℕ) (a : A) (rest : List A) → RisingBy key (a ∷ rest) → First (λ a'. Lexicographic (key a) (key a')) rest × RisingBy key rest
  unfolding RisingBy
  rising_first key a [] r = (tt, tt)
  rising_first key a (a' ∷ rest) r = (r.0, r.1)
