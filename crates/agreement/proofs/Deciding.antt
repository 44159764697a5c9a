-- A statement is decided by a test: where the test is true it holds, where the test is false it does not. Decided statements are
-- joined as their tests are.
use Prim.Native.Nat.{ℕ}
use mathlib.Core.Path.{◌≡◌, refl}
use mathlib.Core.Bool.{Bool, true, false, not, ◌&&◌, ◌||◌, true≢false, false≢true}
use mathlib.Core.Logic.{◌↔◌, ◌⊎◌, inl, inr, ⊎_elim}
use lib.Dec.{eqb}
use borrow.Author.Tests.{eqb-true, eqb-false}

pub data Decided (P : Type 0) : Bool → Type 0 where
  holds : P → Decided P true
  fails : (P → ⊥) → Decided P false

module _ {P : Type 0} where
  -- The test is true exactly when the statement holds, and false exactly when it does not.
  pub true_iff : {b : Bool} → Decided P b → (b ≡ true) ↔ P
  true_iff (holds p) = (λ e. p, λ q. refl)
  true_iff (fails np) = (λ e. absurd (false≢true e), λ p. absurd (np p))

  pub false_iff : {b : Bool} → Decided P b → (b ≡ false) ↔ (P → ⊥)
  false_iff (holds p) = (λ e. absurd (true≢false e), λ np. absurd (np p))
  false_iff (fails np) = (λ e. np, λ q. refl)

  pub decided_not : {b : Bool} → Decided P b → Decided (P → ⊥) (not b)
  decided_not (holds p) = fails (λ np. np p)
  decided_not (fails np) = holds np

module _ {P Q : Type 0} where
  pub decided_iff : {b : Bool} → P ↔ Q → Decided P b → Decided Q b
  decided_iff e (holds p) = holds (e.0 p)
  decided_iff e (fails np) = fails (λ q. np (e.1 q))

  pub decided_and : {a b : Bool} → Decided P a → Decided Q b → Decided (P × Q) (a && b)
  decided_and (holds p) (holds q) = holds (p, q)
  decided_and (holds p) (fails nq) = fails (λ h. nq h.1)
  decided_and (fails np) d = fails (λ h. np h.0)

  pub decided_or : {a b : Bool} → Decided P a → Decided Q b → Decided (P ⊎ Q) (a || b)
  decided_or (holds p) d = holds (inl p)
  decided_or (fails np) (holds q) = holds (inr q)
  decided_or (fails np) (fails nq) = fails (⊎_elim np nq)

pub decided_test : (b : Bool) → Decided (b ≡ true) b
decided_test true = holds refl
decided_test false = fails false≢true

pub decided_eq : (m n : ℕ) → Decided (m ≡ n) (eqb m n)
decided_eq m n = go (eqb m n) refl
  where
    go : (b : Bool) → eqb m n ≡ b → Decided (m ≡ n) b
    go true e = holds (eqb-true m n e)
    go false e = fails (eqb-false m n e)
