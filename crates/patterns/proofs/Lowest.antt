-- Lowest numbers: of two sorts, and over a range.
use Prim.Native.Nat.{ℕ, zero, suc, ◌≤◌, ◌<◌}
use native.Mathlib.Omega.{arith}
use mathlib.Core.Path.{◌≡◌, refl, ap, subst}
use mathlib.Core.Bool.{Bool, true, false, cond, false≢true}
use mathlib.Core.Option.{Option, some, none}
use mathlib.Core.Logic.{◌↔◌, ◌⊎◌, inl, inr, ⊎_elim}
use lib.Dec.{leb, eqb}
use borrow.Author.Tests.{leb-true, leb-false, eqb-true, eqb-false}
use Rattle.patterns.specs.Inner.Shows.{Least, nowhere, least, lower, only_if, lowest_over}
use Rattle.sets.proofs.Booleans.{either}

pub least_iff : {P Q : ℕ → Type 0} {o : Option ℕ} → ((n : ℕ) → P n ↔ Q n) → Least P o → Least Q o
least_iff h (nowhere k) = nowhere (λ n q. k n ((h n).1 q))
least_iff h (least {n = n} p k) = least {n = n} ((h n).0 p) (λ m q. k m ((h m).1 q))

pub least_of : {P : ℕ → Type 0} {n : ℕ} → Least P (some n) → P n
least_of (least p k) = p

pub least_below : {P : ℕ → Type 0} {n : ℕ} → Least P (some n) → (m : ℕ) → P m → n ≤ m
least_below (least p k) = k

pub none_of : {P : ℕ → Type 0} → Least P none → (n : ℕ) → P n → ⊥
none_of (nowhere k) = k

pub least_none : {P : ℕ → Type 0} {o : Option ℕ} → Least P o → ((n : ℕ) → P n → ⊥) → o ≡ none
least_none (nowhere k) h = refl
least_none (least {n = n} p k) h = absurd (h n p)

-- There is one lowest number.
pub least_unique : {P : ℕ → Type 0} {a b : Option ℕ} → Least P a → Least P b → a ≡ b
least_unique (nowhere h) (nowhere k) = refl
least_unique (nowhere h) (least {n = n} p k) = absurd (h n p)
least_unique (least {n = n} p h) (nowhere k) = absurd (k n p)
least_unique (least {n = n} p h) (least {n = m} q k) = let same : n ≡ m = omega (arith, h m q, k n p) in ap some same

-- One number under a test.
pub least_test : (b : Bool) (n : ℕ) → Least (λ m. (n ≡ m) × (b ≡ true)) (only_if b n)
least_test true n = least {n = n} (refl, refl) (λ m h. let e = h.0 in omega arith)
least_test false n = nowhere (λ m h. false≢true h.1)

-- The lower of two.
pub least_lower : {P Q : ℕ → Type 0} {a b : Option ℕ} → Least P a → Least Q b → Least (λ n. P n ⊎ Q n) (lower a b)
least_lower (nowhere h) (nowhere k) = nowhere (λ n. ⊎_elim (h n) (k n))
least_lower (nowhere h) (least {n = n} q k) = least {n = n} (inr q) (λ m. ⊎_elim (λ p. absurd (h m p)) (k m))
least_lower (least {n = n} p h) (nowhere k) = least {n = n} (inl p) (λ m. ⊎_elim (h m) (λ q. absurd (k m q)))
least_lower {P} {Q} (least {n = n} p h) (least {n = m} q k) = go (leb n m) refl
  where
    go : (b : Bool) → leb n m ≡ b → Least (λ i. P i ⊎ Q i) (some (cond b n m))
    go true e = least {n = n} (inl p)
        (λ i. ⊎_elim (h i) (λ r. let below = k i r in let le = leb-true n m e in omega arith))
    go false e = least {n = m} (inr q)
        (λ i. ⊎_elim (λ r. let below = h i r in let lt = leb-false n m e in omega arith) (k i))

-- The lowest over a range.
pub least_over : (N : ℕ) (P : ℕ → ℕ → Type 0) (f : ℕ → Option ℕ) → ((i : ℕ) → i < N → Least (P i) (f i))
    → Least (λ a. (i : ℕ) × (i < N) × P i a) (lowest_over N f)
unfolding lowest_over
least_over zero P f each = nowhere (λ n h. let lt = h.1 in omega arith)
least_over (suc N) P f each =
    least_iff (λ a. (
      ⊎_elim (λ h. (h.0, let lt = h.1 in omega arith, h.2)) (λ h. (N, omega arith, h)),
      λ h. last a h,
    ))
    (least_lower (least_over N P f (λ i h. each i (omega arith))) (each N (omega arith)))
  where
    last : (a : ℕ) → (i : ℕ) × (i < suc N) × P i a → ((i : ℕ) × (i < N) × P i a) ⊎ P N a
    last a (i, h, p) = ⊎_elim
        (λ e. inr (subst (λ (j : ℕ). P j a) (eqb-true i N e) p))
        (λ e. let ne : i ≡ N → ⊥ = eqb-false i N e in inl (i, omega arith, p))
        (either (eqb i N))
