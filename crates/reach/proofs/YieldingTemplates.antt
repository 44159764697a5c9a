-- The set of the templates whose sets of classes are not empty, gathered one template after the other.
use Prim.Native.Nat.{ℕ, ◌+◌, ◌≤◌, ◌<◌}
use native.Mathlib.Omega.{arith}
use native.Mathlib.Decide.{ℕ_discrete}
use mathlib.Core.Path.{◌≡◌, refl, sym, ap, subst, ◌∙◌}
use mathlib.Core.List.{List, []}
use mathlib.Core.Bool.{Bool, true, false, not, ◌&&◌, ◌||◌, or-false, false≢true}
use mathlib.Core.Logic.{◌⊎◌, ⊎_elim}
use lib.ListN.{get_or}
use lib.Dec.{eqb, ltb}
use borrow.Author.Tests.{eq-eqb, ne_eqb, ltb-true, ltb-false}
use Rattle.sets.specs.Sets.{member}
use Rattle.sets.proofs.Laws.{member_zero}
use Rattle.patterns.specs.Inner.Morphisms.{root_morphism}
use Rattle.patterns.specs.Inner.Rounds.{any_below}
use Rattle.patterns.proofs.Tests.{any_below_lem, below_any}
use Rattle.sets.proofs.Booleans.{either}
use Rattle.patterns.proofs.Lawful.{root_lawful}
use Rattle.patterns.proofs.Reaching.{yields_exact}
use Rattle.pattern_sets.specs.Inner.PatternSets.{holds, IsEmpty}
use Rattle.reach.specs.Inner.Promises.{TellsYielding}

-- Of the templates below n those with some class, and no other template.
pub record YieldingTo (classes : List (List ℕ)) (n set : ℕ) : Type 0 where
  pub below : (k : ℕ) → k < n → IsEmpty (get_or classes k []) (not (member set k))
  pub others : (k : ℕ) → n ≤ k → member set k ≡ false

pub yielding_none : (classes : List (List ℕ)) → YieldingTo classes 0 0
yielding_none classes = record { below = λ k h. absurd (omega arith); others = λ k h. member_zero k }

not_not : (b : Bool) → not (not b) ≡ b
not_not true = refl
not_not false = refl

module _ (classes : List (List ℕ)) (n set : ℕ) where
  pub yielding_more : (more : ℕ) (empty : Bool) → IsEmpty (get_or classes n []) empty
      → ((k : ℕ) → member more k ≡ ((eqb k n && not empty) || member set k)) → YieldingTo classes n set → YieldingTo classes (n + 1) more
  yielding_more more empty e is y = record {
    below = λ k h. at k h (ℕ_discrete k n);
    others = λ k h. is k ∙ rw (ne_eqb k n (λ q. omega arith), y.others k (omega arith));
  }
    where
      here : not (member more n) ≡ empty
      here = ap not (is n) ∙ rw (eq-eqb n n refl, y.others n (omega arith), or-false (not empty)) (not_not empty)

      at : (k : ℕ) → k < n + 1 → Dec (k ≡ n) → IsEmpty (get_or classes k []) (not (member more k))
      at k h (yes q) = rw (q, here) e
      at k h (no q) = rw (is k, ne_eqb k n q) (y.below k (omega arith))

  pub yielding_all : (count : ℕ) → (count < n) ⊎ (32 ≤ n) → YieldingTo classes n set → TellsYielding classes count set
  yielding_all count end y φs G root K counts few is exact k h =
      let same = yields_exact φs G (root_morphism root) (root_lawful root) K exact k h in
      (λ e. same.0 (some_class e), λ d. some_page (same.1 d))
    where
      past : (count < n) ⊎ (32 ≤ n) → k < n
      past = ⊎_elim (λ e. omega arith) (λ e. omega arith)

      class_held : (x : ℕ) → holds (get_or classes k []) x ≡ true → (b : Bool) → ltb x 3 ≡ b → any_below 3 (K k) ≡ true
      class_held x p true q = any_below_lem 3 (K k) x (ltb-true x 3 q) (sym ((is k h).inside x (ltb-true x 3 q)) ∙ p)
      class_held x p false q = absurd (false≢true (sym ((is k h).outside x (ltb-false x 3 q)) ∙ p))

      some_class : member set k ≡ true → any_below 3 (K k) ≡ true
      some_class e =
          let (x, _, p) = subst (IsEmpty (get_or classes k [])) (ap not e) (y.below k (past end)) in
          class_held x p (ltb x 3) refl

      no_class : IsEmpty (get_or classes k []) true → any_below 3 (K k) ≡ true → ⊥
      no_class none e =
          let (x, l, p) = below_any 3 (K k) e in
          false≢true (sym (none x) ∙ (is k h).inside x l ∙ p)

      some_page : any_below 3 (K k) ≡ true → member set k ≡ true
      some_page e = ⊎_elim
          (λ m. m)
          (λ m. absurd (no_class (subst (IsEmpty (get_or classes k [])) (ap not m) (y.below k (past end))) e))
          (either (member set k))
