-- Unions of the sets of a table, gathered one after the other.
use Prim.Native.Nat.{ℕ, ◌+◌, ◌≤◌, ◌<◌}
use native.Mathlib.Omega.{arith}
use mathlib.Core.Path.{◌≡◌, refl, sym, subst, ◌∙◌}
use mathlib.Core.List.{List}
use mathlib.Core.Bool.{true, ◌||◌, false≢true}
use mathlib.Core.Logic.{◌⊎◌, inl, inr, ⊎_elim}
use lib.ListN.{length, get_or, get_or-eq_default}
use lib.Dec.{ltb}
use borrow.Author.Tests.{lt-ltb, ltb-false}
use Rattle.std.specs.Prelude.{Option, Some, None}
use Rattle.sets.specs.Sets.{member}
use Rattle.sets.specs.Inner.Promises.{NextMember}
use Rattle.sets.proofs.Booleans.{or_left, or_right, or_cases, either}
use Rattle.sets.proofs.Steps.{IsMember, next_is, is_before, none_between, passed_by}
use Rattle.reach.specs.Inner.Closures.{United}
use Rattle.reach.proofs.Sets.{not_in_zero}

module _ (first set : ℕ) (table : List ℕ) where
  -- What members before the next one lead to is in.
  pub record UnitedTo (next : Option ℕ) (r : ℕ) : Type 0 where
    pub next_is_held : IsMember set next
    pub keeps : (k : ℕ) → member first k ≡ true → member r k ≡ true
    pub adds : (j k : ℕ) → is_before next j ≡ true → member set j ≡ true → member (get_or table j 0) k ≡ true → member r k ≡ true
    pub no_other : (k : ℕ) → member r k ≡ true
        → (member first k ≡ true) ⊎ ((j : ℕ) × (member set j ≡ true) × (member (get_or table j 0) k ≡ true))

  pub united_none : (next : Option ℕ) → NextMember set 0 next → UnitedTo next first
  united_none next f = record {
    next_is_held = next_is set 0 next f;
    keeps = λ k e. e;
    adds = λ j k b e t. absurd (false≢true (sym (none_between set 0 next f j (omega arith) b) ∙ e));
    no_other = λ k e. inl e;
  }

  pub united_more : (i : ℕ) (next : Option ℕ) (r more : ℕ) → NextMember set (i + 1) next
      → ((k : ℕ) → member more k ≡ (member r k || member (get_or table i 0) k)) → UnitedTo (Some i) r → UnitedTo next more
  united_more i next r more f is u = record {
    next_is_held = next_is set (i + 1) next f;
    keeps = λ k e. is k ∙ or_left (member r k) (member (get_or table i 0) k) (u.keeps k e);
    adds = λ j k b e t. is k ∙ ⊎_elim
        (λ (l : j < i). or_left (member r k) (member (get_or table i 0) k) (u.adds j k (lt-ltb j i l) e t))
        (λ (q : j ≡ i). or_right (member r k) (member (get_or table i 0) k) (subst (λ (n : ℕ). member (get_or table n 0) k ≡ true) q t))
        (passed_by set i next f j e b);
    no_other = λ k e. ⊎_elim (u.no_other k) (λ t. inr (i, u.next_is_held.1, t)) (or_cases (member r k) (member (get_or table i 0) k) (sym (is k) ∙ e));
  }

  -- Where no member is left, and past the table.
  pub united_whole : (r : ℕ) → UnitedTo None r → United first set table r
  united_whole r u = record { keeps = u.keeps; adds = λ j k e t. u.adds j k refl e t; no_other = u.no_other }

  pub united_past : (i r : ℕ) → length table ≤ i → UnitedTo (Some i) r → United first set table r
  united_past i r past u = record {
    keeps = u.keeps;
    adds = λ j k e t. ⊎_elim
        (λ p. u.adds j k p e t)
        (λ p. absurd (none j k (ltb-false j i p) t))
        (either (ltb j i));
    no_other = u.no_other;
  }
    where
      none : (j k : ℕ) → i ≤ j → member (get_or table j 0) k ≡ true → ⊥
      none j k h t = not_in_zero k (subst (λ (n : ℕ). member n k ≡ true) (get_or-eq_default table 0 {n = j} (omega arith)) t)
