-- A table that is filled one entry after the other, and has zeros from there on.
use Prim.Native.Nat.{ℕ, ◌+◌, ◌≤◌, ◌<◌}
use native.Mathlib.Omega.{arith}
use native.Mathlib.Decide.{ℕ_discrete}
use mathlib.Core.Path.{◌≡◌, sym, subst, ◌∙◌}
use mathlib.Core.List.{List}
use mathlib.Core.Logic.{⊎_elim}
use lib.ListN.{length, get_or, set, replicate, get_or-replicate, length-replicate, length-set, get_or-eq_default}
use lib.Seq.{get_or-set_same, get_or-set_other}
use lib.Dec.{ltb}
use borrow.Author.Tests.{ltb-true, ltb-false}
use Rattle.sets.proofs.Booleans.{either}

-- Of N entries those below n are as P says.
pub record Filled (P : ℕ → ℕ → Type 0) (N n : ℕ) (table : List ℕ) : Type 0 where
  pub long : length table ≡ N
  pub below : (i : ℕ) → i < n → P i (get_or table i 0)
  pub others : (i : ℕ) → n ≤ i → get_or table i 0 ≡ 0

zeros_at : (N i : ℕ) → ◌≡◌ {A = ℕ} (get_or (replicate N 0) i 0) 0
zeros_at N i = ⊎_elim
    (λ h. get_or-replicate {A = ℕ} N i 0 0 (ltb-true i N h))
    (λ h. get_or-eq_default {A = ℕ} (replicate N 0) 0 {n = i} (rw length-replicate (ltb-false i N h)))
    (either (ltb i N))

module _ (P : ℕ → ℕ → Type 0) (N n : ℕ) where
  pub filled_zeros : ((i : ℕ) → i < n → P i 0) → Filled P N n (replicate N 0)
  filled_zeros each = record {
    long = length-replicate N 0;
    below = λ i h. subst (P i) (sym (zeros_at N i)) (each i h);
    others = λ i h. zeros_at N i;
  }

  module _ (table : List ℕ) (f : Filled P N n table) where
    pub filled_more : (v : ℕ) → n < N → P n v → Filled P N (n + 1) (set table n v)
    filled_more v low p = record {
      long = length-set table n v ∙ f.long;
      below = λ i h. at i h (ℕ_discrete i n);
      others = λ i h. get_or-set_other table n i v 0 (λ q. omega arith) ∙ f.others i (omega arith);
    }
      where
        at : (i : ℕ) → i < n + 1 → Dec (i ≡ n) → P i (get_or (set table n v) i 0)
        at i h (yes q) =
            let l = f.long in
            subst (λ (k : ℕ). P k (get_or (set table n v) k 0)) (sym q) (subst (P n) (sym (get_or-set_same table n v 0 (omega arith))) p)
        at i h (no q) = subst (P i) (sym (get_or-set_other table n i v 0 q)) (f.below i (omega arith))

    -- An entry that stays zero.
    pub filled_same : P n 0 → Filled P N (n + 1) table
    filled_same p = record {
      long = f.long;
      below = λ i h. at i h (ℕ_discrete i n);
      others = λ i h. f.others i (omega arith);
    }
      where
        at : (i : ℕ) → i < n + 1 → Dec (i ≡ n) → P i (get_or table i 0)
        at i h (yes q) = subst (λ (k : ℕ). P k (get_or table k 0)) (sym q) (subst (P n) (sym (f.others n (omega arith))) p)
        at i h (no q) = f.below i (omega arith)
