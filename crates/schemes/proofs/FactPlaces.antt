-- The places of facts: a fact's flag stands at its place, and in a list without repetitions each fact has its own.
use Prim.Native.Nat.{ℕ, zero, suc, ◌/◌, ◌%◌, ◌^◌, ◌<◌, ◌≤◌}
use mathlib.Core.Path.{◌≡◌, refl, sym, ap, ◌∙◌}
use mathlib.Core.List.{List, [], ◌∷◌}
use mathlib.Core.Bool.{Bool, true, false, cond, false≢true}
use native.Mathlib.Nat.{le_of_eq, le_antisymm}
use native.Mathlib.Omega.{arith}
use native.Mathlib.Decide.{ℕ_discrete}
use lib.ListN.{length, get_or}
use lib.Dec.{eqb, ltb}
use borrow.Author.Tests.{eq-eqb, ne_eqb, ltb-true, ltb-false}
use Rattle.sets.specs.Sets.{member}
use Rattle.sets.proofs.Laws.{member_zero}
use Rattle.vocabularies.specs.Facts.{Fact, present, same_fact}
use Rattle.patterns.specs.Inner.Patterns.{flag_in}
use Rattle.sets.proofs.Booleans.{refuted}
use Rattle.patterns.proofs.Facts.{same_fact_lem, fact_same}
use Rattle.schemes.specs.Inner.Schemes.{Distinct, place_of}
use Rattle.sets.proofs.Laws.{member_head, member_tail}

-- A pattern's flag of a fact is its bit at the fact's place.
pub flag_placed : (fs : List Fact) (f : Fact) (x : ℕ) → x < 2 ^ length fs → flag_in fs x f ≡ member x (place_of f fs)
unfolding flag_in place_of
flag_placed [] f x h = sym (ap (λ (n : ℕ). member n 0) (omega arith) ∙ member_zero 0)
flag_placed (g ∷ fs) f x h = go (same_fact f g) (flag_placed fs f (x / 2) (let l : x < 2 ^ suc (length fs) = h in omega arith))
  where
    go : (b : Bool) → flag_in fs (x / 2) f ≡ member (x / 2) (place_of f fs)
        → cond b (eqb (x % 2) 1) (flag_in fs (x / 2) f) ≡ member x (cond b 0 (suc (place_of f fs)))
    go true e = sym (member_head x)
    go false e = e ∙ sym (member_tail x (place_of f fs))

pub place_le : (fs : List Fact) (f : Fact) → place_of f fs ≤ length fs
unfolding place_of
place_le [] f = omega arith
place_le (g ∷ fs) f = go (same_fact f g) (place_le fs f)
  where
    go : (b : Bool) → place_of f fs ≤ length fs → cond b 0 (suc (place_of f fs)) ≤ suc (length fs)
    go true h = omega arith
    go false h = omega arith

-- The fact that stands at a fact's place is that fact.
pub fact_placed : (fs : List Fact) (f : Fact) → place_of f fs < length fs → get_or fs (place_of f fs) (present 0) ≡ f
unfolding place_of
fact_placed [] f h = absurd (omega arith)
fact_placed (g ∷ fs) f h = go (same_fact f g) refl h (λ l. fact_placed fs f l)
  where
    go : (b : Bool) → same_fact f g ≡ b → cond b 0 (suc (place_of f fs)) < suc (length fs)
        → (place_of f fs < length fs → get_or fs (place_of f fs) (present 0) ≡ f) → get_or (g ∷ fs) (cond b 0 (suc (place_of f fs))) (present 0) ≡ f
    go true e l rest = sym (same_fact_lem f g e)
    go false e l rest = rest (omega arith)

-- A fact's place is the first at which it stands.
pub place_first : (fs : List Fact) (f : Fact) (i : ℕ) → i < length fs → get_or fs i (present 0) ≡ f → place_of f fs ≤ i
unfolding place_of
place_first [] f i h e = absurd (omega arith)
place_first (g ∷ fs) f zero h e =
    le_of_eq (ap (λ (b : Bool). cond b 0 (suc (place_of f fs))) (ap (same_fact f) e ∙ fact_same f))
place_first (g ∷ fs) f (suc i) h e = go (same_fact f g) (place_first fs f i (omega arith) e)
  where
    go : (b : Bool) → place_of f fs ≤ i → cond b 0 (suc (place_of f fs)) ≤ suc i
    go true l = omega arith
    go false l = omega arith

-- Without repetitions the fact at a place has that place.
pub place_at : (fs : List Fact) → Distinct fs → (i : ℕ) → i < length fs → place_of (get_or fs i (present 0)) fs ≡ i
place_at fs d i h = go (ltb (place_of (get_or fs i (present 0)) fs) i) refl
  where
    first : place_of (get_or fs i (present 0)) fs ≤ i
    first = place_first fs (get_or fs i (present 0)) i h refl

    go : (t : Bool) → ltb (place_of (get_or fs i (present 0)) fs) i ≡ t → place_of (get_or fs i (present 0)) fs ≡ i
    go true e =
        let l : place_of (get_or fs i (present 0)) fs < i = ltb-true (place_of (get_or fs i (present 0)) fs) i e in
        let q : get_or fs (place_of (get_or fs i (present 0)) fs) (present 0) ≡ get_or fs i (present 0) = fact_placed fs (get_or fs i (present 0)) (omega arith) in
        absurd (false≢true (sym (d (place_of (get_or fs i (present 0)) fs) i l h) ∙ ap (same_fact (get_or fs i (present 0))) q ∙ fact_same (get_or fs i (present 0))))
    go false e = le_antisymm first (ltb-false (place_of (get_or fs i (present 0)) fs) i e)

-- The fact at place i is f exactly if i is f's place.
pub same_place : (fs : List Fact) → Distinct fs → (f : Fact) (i : ℕ) → i < length fs → same_fact (get_or fs i (present 0)) f ≡ eqb i (place_of f fs)
same_place fs d f i h = go (ℕ_discrete i (place_of f fs))
  where
    go : Dec (i ≡ place_of f fs) → same_fact (get_or fs i (present 0)) f ≡ eqb i (place_of f fs)
    go (yes e) =
        let q : get_or fs i (present 0) ≡ f = ap (λ (k : ℕ). get_or fs k (present 0)) e ∙ fact_placed fs f (omega arith) in
        ap (λ (g : Fact). same_fact g f) q ∙ fact_same f ∙ sym (eq-eqb i (place_of f fs) e)
    go (no n) =
        refuted (same_fact (get_or fs i (present 0)) f) (λ s.
        n (sym (ap (λ (g : Fact). place_of g fs) (sym (same_fact_lem (get_or fs i (present 0)) f s)) ∙ place_at fs d i h)))
        ∙ sym (ne_eqb i (place_of f fs) n)
