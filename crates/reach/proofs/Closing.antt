-- Rounds that add what the members of the round before lead to: where one adds nothing, the set is the least closed one.
use Prim.Native.Nat.{ℕ, ◌-◌, ◌^◌, ◌≤◌, ◌<◌}
use native.Mathlib.Omega.{arith}
use mathlib.Core.Path.{◌≡◌, refl, sym, subst, ◌∙◌}
use mathlib.Core.List.{List}
use mathlib.Core.Bool.{Bool, true, false, not, ◌&&◌, false≢true}
use mathlib.Core.Logic.{⊎_elim}
use lib.ListN.{get_or}
use Rattle.sets.proofs.Booleans.{and_left, never_lacks}
use Rattle.sets.specs.Sets.{member}
use Rattle.reach.specs.Inner.Closures.{United, ClosedUnder, Closure}
use Rattle.reach.proofs.Sets.{larger}

-- A set that has the start, and lies in every closed set that has it. What its members other than the fresh ones lead to is in it.
pub record Between (set : ℕ) (table : List ℕ) (all fresh : ℕ) : Type 0 where
  pub starts : (k : ℕ) → member set k ≡ true → member all k ≡ true
  pub least : (S : ℕ → Bool) → ((k : ℕ) → member set k ≡ true → S k ≡ true) → ClosedUnder table S
      → (k : ℕ) → member all k ≡ true → S k ≡ true
  pub within : (k : ℕ) → member fresh k ≡ true → member all k ≡ true
  pub followed : (i k : ℕ) → member all i ≡ true → member fresh i ≡ false → member (get_or table i 0) k ≡ true → member all k ≡ true

pub start_between : (set : ℕ) (table : List ℕ) → Between set table set set
start_between set table = record {
  starts = λ k e. e;
  least = λ S has closed k e. has k e;
  within = λ k e. e;
  followed = λ i k e n t. absurd (false≢true (sym n ∙ e));
}

module _ (table : List ℕ) (all fresh more : ℕ) (u : United all fresh table more) where
  module _ (set : ℕ) (b : Between set table all fresh) where
    -- What any member leads to is there after the round.
    leads : (i k : ℕ) → member all i ≡ true → member (get_or table i 0) k ≡ true → member more k ≡ true
    leads i k e t = go (member fresh i) refl
      where
        go : (f : Bool) → member fresh i ≡ f → member more k ≡ true
        go true h = u.adds i k h t
        go false h = u.keeps k (b.followed i k e h t)

    pub round_between : (next : ℕ) → ((k : ℕ) → member next k ≡ (member more k && not (member all k))) → Between set table more next
    round_between next is = record {
      starts = λ k e. u.keeps k (b.starts k e);
      least = λ S has closed k e. ⊎_elim
          (b.least S has closed k)
          (λ h. closed h.0 k (b.least S has closed h.0 (b.within h.0 h.1)) h.2)
          (u.no_other k e);
      within = λ k e. and_left (member more k) (not (member all k)) (sym (is k) ∙ e);
      followed = λ i k e n t. leads i k (never_lacks (member more i) (member all i) (sym (is i) ∙ n) e) t;
    }

    pub round_closed : more ≡ all → Closure set table all
    round_closed same = record {
      starts = b.starts;
      closed = λ i k e t. subst (λ (n : ℕ). member n k ≡ true) same (leads i k e t);
      least = b.least;
    }

  pub round_grows : all < 2 ^ 64 → more < 2 ^ 64 → (more ≡ all → ⊥) → 2 ^ 64 - more < 2 ^ 64 - all
  round_grows p q other = let le : all ≤ more = larger all more p q u.keeps in omega arith
