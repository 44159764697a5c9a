-- Where two sets differ.
use Prim.Native.Nat.{ℕ, zero, suc, ◌<◌}
use mathlib.Core.Path.{◌≡◌, refl, sym, ap, ◌∙◌}
use mathlib.Core.Bool.{Bool, true, false, false≢true}
use mathlib.Core.Logic.{◌⊎◌, inl, inr}
use native.Mathlib.Nat.{eq-or-lt_of_le, le_of_suc-le-suc}
use native.Mathlib.Omega.{arith}

differ : (a b : Bool) → ((a ≡ b) ⊎ (a ≡ b → ⊥))
differ true true = inl refl
differ true false = inr (λ e. false≢true (sym e))
differ false true = inr false≢true
differ false false = inl refl

pub find : (p q : ℕ → Bool) (n : ℕ) → ((k : ℕ) × (k < n) × (p k ≡ q k → ⊥)) ⊎ ((k : ℕ) → k < n → p k ≡ q k)
find p q zero = inr (λ k h. absurd (omega arith))
find p q (suc n) = more (differ (p n) (q n)) (find p q n)
  where
    more : (p n ≡ q n) ⊎ (p n ≡ q n → ⊥) → ((k : ℕ) × (k < n) × (p k ≡ q k → ⊥)) ⊎ ((k : ℕ) → k < n → p k ≡ q k)
        → ((k : ℕ) × (k < suc n) × (p k ≡ q k → ⊥)) ⊎ ((k : ℕ) → k < suc n → p k ≡ q k)
    more (inr d) r = inl (n, omega arith, d)
    more (inl e) (inl (k, h, d)) = inl (k, omega arith, d)
    more (inl e) (inr all) = inr (λ k h. elim (eq-or-lt_of_le (le_of_suc-le-suc h)) [
      | inl i ↦ ap p i ∙ e ∙ ap q (sym i)
      | inr i ↦ all k i
    ])
