-- Laws of `each`, the lists of the numbers below a bound one after another.
use Prim.Native.Nat.{ℕ, zero, suc, ◌+◌, ◌*◌, ◌≤◌, ◌<◌}
use native.Mathlib.Omega.{arith}
use mathlib.Core.Path.{◌≡◌, refl, ap₂}
use mathlib.Core.List.{List, [], ◌∷◌, ◌++◌}
use mathlib.Core.Bool.{Bool, true, false}
use Rattle.summaries.specs.Proposal.{Holding}
use Rattle.summaries.specs.ProposalOf.{each, where_held}

module _ {A : Type 0} where
  pub each_same : (n : ℕ) (f g : ℕ → List A) → ((k : ℕ) → f k ≡ g k) → each n f ≡ each n g
  unfolding each
  each_same zero f g e = refl
  each_same (suc n) f g e = ap₂ ◌++◌ (each_same n f g e) (e n)

  -- What holds of each member of a list.
  pub data Every (P : A → Type 0) : List A → Type 0 where
    done : Every P []
    with : {a : A} {rest : List A} → P a → Every P rest → Every P (a ∷ rest)

  pub every_append : {P : A → Type 0} {xs ys : List A} → Every P xs → Every P ys → Every P (xs ++ ys)
  every_append done q = q
  every_append (with p ps) q = with p (every_append ps q)

  pub every_each : {P : A → Type 0} (n : ℕ) (f : ℕ → List A) → ((k : ℕ) → k < n → Every P (f k)) → Every P (each n f)
  unfolding each
  every_each zero f h = done
  every_each (suc n) f h = every_append (every_each n f (λ k l. h k (omega arith))) (h n (omega arith))

pub every_where : {P : Holding → Type 0} (b : Bool) (y : Holding) → (b ≡ true → P y) → Every P (where_held b y)
every_where true y h = with (h refl) done
every_where false y h = done

-- Members of a list rise strictly by a number, from `low` on and below `high`, and P holds of each.
module _ {A : Type 0} (number : A → ℕ) (P : A → Type 0) where
  pub data Rises : ℕ → ℕ → List A → Type 0 where
    ends : {low high : ℕ} → low ≤ high → Rises low high []
    next : {low high : ℕ} {a : A} {rest : List A} → low ≤ number a → P a → Rises (suc (number a)) high rest → Rises low high (a ∷ rest)

  pub rises_wider : {low high low' high' : ℕ} {xs : List A} → low' ≤ low → high ≤ high' → Rises low high xs → Rises low' high' xs
  rises_wider {low'} {high'} l h (ends r) = let e : low' ≤ high' = omega arith in ends e
  rises_wider {low'} l h (next {a = a} r p rest) =
      let e : low' ≤ number a = omega arith in
      let s : suc (number a) ≤ suc (number a) = omega arith in
      next e p (rises_wider s h rest)

  pub rises_append : {low middle high : ℕ} {xs ys : List A} → Rises low middle xs → Rises middle high ys → Rises low high (xs ++ ys)
  rises_append {high} (ends r) q = let e : high ≤ high = omega arith in rises_wider r e q
  rises_append (next r p rest) q = next r p (rises_append rest q)

  pub rises_each : (low step n : ℕ) (f : ℕ → List A) → ((k : ℕ) → k < n → Rises (low + k * step) (low + suc k * step) (f k)) → Rises low (low + n * step) (each n f)
  unfolding each
  rises_each low step zero f h = let e : low ≤ low + 0 * step = omega arith in ends e
  rises_each low step (suc n) f h = rises_append (rises_each low step n f (λ k l. h k (omega arith))) (h n (omega arith))
