-- Stepping through strings: strings alike have one pattern, and all patterns are met.
use Rattle.std.specs.Prelude.{min}
use Prim.Native.Nat.{ℕ, suc, ◌^◌, ◌<◌, ◌≤◌}
use mathlib.Core.Path.{◌≡◌, refl, sym, ap, ◌∙◌}
use mathlib.Core.List.{List, [], ◌∷◌}
use mathlib.Core.Bool.{Bool, true, false, ◌&&◌, ◌||◌, false≢true}
use mathlib.Core.Option.{Option, some, none}
use mathlib.Core.Logic.{◌⊎◌, inl, inr, ⊎_elim}
use native.Mathlib.Decide.{ℕ_discrete}
use native.Mathlib.Omega.{arith}
use lib.ListN.{length, get_or}
use lib.Dec.{eqb, ltb}
use borrow.Author.Tests.{eq-eqb, eqb-true, ltb-true, ltb-false, lt-ltb}
use Rattle.strings.specs.declared.StringSet.{StringSet}
use Rattle.strings.specs.Strings.{strings}
use Rattle.strings.specs.Inner.Promises.{has_string}
use Rattle.strings.proofs.Laws.{outside}
use Rattle.vocabularies.specs.declared.Facts.{Facts}
use Rattle.vocabularies.specs.Facts.{Fact, present}
use Rattle.patterns.specs.Inner.Patterns.{flagged, numbered, pattern_of}
use Rattle.patterns.specs.Inner.Morphisms.{fact_morphism}
use Rattle.patterns.specs.Inner.Elements.{attribute_pattern, absence_pattern, taken_patterns}
use Rattle.sets.proofs.Booleans.{or_left, or_right, or_cases, and_both, and_left, and_right, alike, refuted}
use Rattle.patterns.proofs.Clauses.{pattern_below}
use Rattle.patterns.proofs.Bits.{pattern_of_nothing}
use Rattle.patterns.proofs.Attributes.{Attained, attained_taken, taken_attained}
use Rattle.pattern_sets.specs.Inner.PatternSets.{holds}
use Rattle.schemes.specs.Inner.Schemes.{Is}
use Rattle.schemes.specs.Inner.Promises.{OfFacts}
use Rattle.schemes.proofs.Placing.{few_count}
use Rattle.clauses.specs.Inner.Promises.{alone, Alike, WithPatterns}

-- ---- strings alike

same_numbers : (fs : List Fact) (flag flag' : Fact → Bool) → ((i : ℕ) → i < length fs → flag (get_or fs i (present 0)) ≡ flag' (get_or fs i (present 0)))
    → numbered fs flag ≡ numbered fs flag'
unfolding numbered
same_numbers [] flag flag' h = refl
same_numbers (f ∷ fs) flag flag' h = rw (h 0 (omega arith), same_numbers fs flag flag' (λ i l. h (suc i) (omega arith)))

module _ (t : Facts) (a s : ℕ) where
  -- Strings that the facts before a place do not tell from s.
  pub record AlikeTo (i : ℕ) (set : StringSet) : Type 0 where
    pub itself : OfFacts t (λ fs. s < strings → has_string set s ≡ true)
    pub flags : OfFacts t (λ fs. (k : ℕ) → has_string set k ≡ true → (j : ℕ) → j < i → j < length fs
        → flagged (alone a k) [] (get_or fs j (present 0)) ≡ flagged (alone a s) [] (get_or fs j (present 0)))

  pub alike_all : (i : ℕ) (set : StringSet) → min t.count 8 ≤ i → AlikeTo i set → Alike t a s set
  unfolding pattern_of
  alike_all i set end so_far = record {
    itself = so_far.itself;
    patterns = λ fs h few k m. same_numbers fs (flagged (alone a k) []) (flagged (alone a s) [])
        (λ j l. so_far.flags fs h few k m j (let n : t.count ≡ length fs = few_count t fs h few in omega arith) l);
  }

-- ---- the patterns over strings

module _ (fs : List Fact) (set : List ℕ) (a : ℕ) (named : StringSet) where
  -- What a loop that has come to a place has put in, and which strings are left.
  pub record PatternsTo (from : ℕ) (left : StringSet) (r : List ℕ) : Type 0 where
    pub keeps : (x : ℕ) → holds set x ≡ true → holds r x ≡ true
    pub inside : (k : ℕ) → has_string left k ≡ true → has_string named k ≡ true
    pub done : (k : ℕ) → k < strings → has_string named k ≡ true
        → (holds r (attribute_pattern fs a k) ≡ true) ⊎ ((has_string left k ≡ true) × (from ≤ k))
    pub sound : (x : ℕ) → holds r x ≡ true
        → (holds set x ≡ true) ⊎ ((k : ℕ) × (k < strings) × (has_string named k ≡ true) × (attribute_pattern fs a k ≡ x))

-- ---- value patterns

module _ (fs : List Fact) (a : ℕ) (words : List ℕ) (can : Option ℕ → Bool) where
  too_large : (x : ℕ) → 2 ^ length fs ≤ x → Attained fs a can x → ⊥
  too_large x l (inl (t, e)) = let b : absence_pattern fs < 2 ^ length fs = pattern_below fs [] [] in omega arith
  too_large x l (inr (s, m, t, e)) = let b : attribute_pattern fs a s < 2 ^ length fs = pattern_below fs (alone a s) [] in omega arith

  -- Words that hold just what can be attained.
  exact : ((x : ℕ) → Attained fs a can x → holds words x ≡ true) → ((x : ℕ) → holds words x ≡ true → Attained fs a can x) → Is (fact_morphism fs) words (taken_patterns fs a can)
  exact complete sound = record {
    inside = λ x l. alike (holds words x) (taken_patterns fs a can x) (λ h. attained_taken fs a can x (sound x h)) (λ e. complete x (taken_attained fs a can x e));
    outside = λ x l. refuted (holds words x) (λ h. too_large x l (sound x h));
  }

  -- The patterns that are there before those of strings: absence's, if it can be taken.
  module _ (before : List ℕ) (absent : (x : ℕ) → holds before x ≡ (can none && eqb x 0)) where
    absence_held : (x : ℕ) → can none ≡ true → x ≡ absence_pattern fs → holds before x ≡ true
    absence_held x v e = absent x ∙ and_both _ _ v (eq-eqb x 0 (e ∙ pattern_of_nothing fs))

    held_absence : (x : ℕ) → holds before x ≡ true → Attained fs a can x
    held_absence x h =
        let q = sym (absent x) ∙ h in
        inl (and_left (can none) (eqb x 0) q, eqb-true x 0 (and_right (can none) (eqb x 0) q) ∙ sym (pattern_of_nothing fs))

    -- Over the strings of a set.
    pub values_named : (named : StringSet) → named.word < 2 ^ 64 → WithPatterns fs before a named words
        → ((s : ℕ) → can (some s) ≡ has_string named s) → Is (fact_morphism fs) words (taken_patterns fs a can)
    values_named named b added is = exact complete sound
      where
        named_below : (s : ℕ) → has_string named s ≡ true → s < strings
        named_below s m = go (ltb s strings) refl
          where
            go : (t : Bool) → ltb s strings ≡ t → s < strings
            go true e = ltb-true s strings e
            go false e = absurd (false≢true (sym (outside named b s (ltb-false s strings e)) ∙ m))

        complete : (x : ℕ) → Attained fs a can x → holds words x ≡ true
        complete x (inl (v, e)) = added.keeps x (absence_held x v e)
        complete x (inr (s, l, v, e)) = let m = sym (is s) ∙ v in rw e (added.complete s (named_below s m) m)

        sound : (x : ℕ) → holds words x ≡ true → Attained fs a can x
        sound x h = ⊎_elim (held_absence x)
            (λ (q : (s : ℕ) × (s < strings) × (has_string named s ≡ true) × (attribute_pattern fs a s ≡ x)).
            inr (q.0, (let l : q.0 < strings = q.1 in omega arith), is q.0 ∙ q.2, sym q.3))
            (added.sound x h)

    -- Over any string: the named ones, and the one that stands for the others.
    pub values_any : (set : List ℕ) (every : StringSet) (p : ℕ) → p ≡ attribute_pattern fs a strings → ((x : ℕ) → holds set x ≡ (eqb x p || holds before x))
        → ((k : ℕ) → has_string every k ≡ ltb k strings) → WithPatterns fs set a every words
        → ((s : ℕ) → can (some s) ≡ true) → Is (fact_morphism fs) words (taken_patterns fs a can)
    values_any set every p e one all added is = exact complete sound
      where
        pattern_of_lem : (s : ℕ) → s ≤ strings → Dec (s ≡ strings) → holds words (attribute_pattern fs a s) ≡ true
        pattern_of_lem s l (yes q) = added.keeps (attribute_pattern fs a s)
            (one (attribute_pattern fs a s) ∙ or_left (eqb (attribute_pattern fs a s) p) (holds before (attribute_pattern fs a s))
            (eq-eqb (attribute_pattern fs a s) p (ap (attribute_pattern fs a) q ∙ sym e)))
        pattern_of_lem s l (no n) = let b : s < strings = omega arith in added.complete s b (all s ∙ lt-ltb s strings b)

        complete : (x : ℕ) → Attained fs a can x → holds words x ≡ true
        complete x (inl (v, q)) = added.keeps x (one x ∙ or_right (eqb x p) (holds before x) (absence_held x v q))
        complete x (inr (s, l, v, q)) = rw q (pattern_of_lem s l (ℕ_discrete s strings))

        sound : (x : ℕ) → holds words x ≡ true → Attained fs a can x
        sound x h = ⊎_elim
            (λ (q : holds set x ≡ true). ⊎_elim
            (λ (r : eqb x p ≡ true). inr (strings, omega arith, is strings, eqb-true x p r ∙ e))
            (held_absence x)
            (or_cases (eqb x p) (holds before x) (sym (one x) ∙ q)))
            (λ (q : (s : ℕ) × (s < strings) × (has_string every s ≡ true) × (attribute_pattern fs a s ≡ x)).
            inr (q.0, (let l : q.0 < strings = q.1 in omega arith), is q.0, sym q.3))
            (added.sound x h)
