-- The flags that one attribute gives: only to the facts about its name.
use Rattle.std.specs.Prelude.{min, bit_or}
use Rattle.std.proofs.Math.Facts.{Fits-or}
use Prim.Native.Nat.{ℕ, suc, ◌+◌, ◌*◌, ◌%◌, ◌^◌, ◌<◌, ◌≤◌}
use mathlib.Core.Path.{◌≡◌, refl, sym, ap, ◌∙◌}
use mathlib.Core.List.{List, [], ◌∷◌}
use mathlib.Core.Bool.{Bool, true, false, not, ◌||◌, or-true, or-false}
use native.Mathlib.Decide.{ℕ_discrete}
use native.Mathlib.Omega.{arith}
use lib.ListN.{length, get_or}
use lib.Dec.{eqb, lit<}
use lib.Pow.{shl_exact}
use mir.Syntax.{w8}
use borrow.Author.Tests.{eq-eqb, ne_eqb}
use Rattle.sets.specs.Sets.{member}
use Rattle.sets.proofs.Laws.{member_zero, member_or, member_single}
use Rattle.strings.specs.declared.StringSet.{StringSet}
use Rattle.strings.specs.Inner.Promises.{has_string}
use Rattle.vocabularies.specs.Vocabulary.{is_in}
use Rattle.vocabularies.specs.declared.Fact as Kept
use Rattle.vocabularies.specs.declared.Fact.TheVariants.{Carried, Present, Ordered, Valued}
use Rattle.vocabularies.specs.declared.Facts.{Facts}
use Rattle.vocabularies.specs.Facts.{Fact, present}
use Rattle.vocabularies.specs.Inner.Promises.{meaning_of, kept_at, Stored, Represents}
use Rattle.judging.specs.Inner.Judgement.{precedes}
use Rattle.patterns.specs.Inner.Patterns.{breaks_value, flagged, numbered, pattern_of}
use Rattle.patterns.proofs.Tests.{eqb_sym}
use Rattle.schemes.specs.Inner.Promises.{OfFacts}
use Rattle.schemes.proofs.Placing.{few_count}
use Rattle.schemes.proofs.Numbers.{numbered_is}
use Rattle.clauses.specs.Inner.Promises.{alone, TellsApart, IsPattern, WithName, WithAttribute, AttributesOf}

-- The flag that attribute a with string s alone gives to a fact.
module _ (a s : ℕ) (y : Kept.Fact) where
  pub flag_attribute : (b : ℕ) → y ≡ Carried b → eqb b a ≡ flagged (alone a s) [] (meaning_of y)
  unfolding is_in
  flag_attribute b e = rw e (sym (or-false (eqb b a)))

  pub flag_content : (c : ℕ) → y ≡ Present c → false ≡ flagged (alone a s) [] (meaning_of y)
  unfolding is_in
  flag_content c e = rw e

  pub flag_pair : (c d : ℕ) → y ≡ Ordered c d → false ≡ flagged (alone a s) [] (meaning_of y)
  unfolding precedes
  flag_pair c d e = rw e

  module _ (b : ℕ) (set : StringSet) (e : y ≡ Valued b set) where
    pub flag_other : (b ≡ a → ⊥) → eqb b a ≡ flagged (alone a s) [] (meaning_of y)
    unfolding breaks_value
    flag_other n = rw (e, ne_eqb a b (λ q. n (sym q))) (ne_eqb b a n)

    pub flag_value : (has : Bool) → b ≡ a → has ≡ has_string set s → not has ≡ flagged (alone a s) [] (meaning_of y)
    unfolding breaks_value
    flag_value has q told = rw (e, eq-eqb a b (sym q), told) (sym (or-false (not (has_string set s))))

-- The same of the fact that stands at a place.
abbrev pub FlagAt : Facts → ℕ → ℕ → ℕ → Bool → Type 0
FlagAt t i a s b = (f : Fact) → Stored t i f → b ≡ flagged (alone a s) [] f

pub flag_at : (t : Facts) (i a s : ℕ) (y : Kept.Fact) (b : Bool) → y ≡ kept_at t i → b ≡ flagged (alone a s) [] (meaning_of y) → FlagAt t i a s b
flag_at t i a s y b e told f w = told ∙ ap (λ (z : Kept.Fact). flagged (alone a s) [] (meaning_of z)) e ∙ ap (flagged (alone a s) []) w

-- Only the set of a fact about the attribute tells strings apart.
module _ (a : ℕ) (y : Kept.Fact) (set : StringSet) where
  pub apart_other : (b : ℕ) (other : StringSet) → y ≡ Valued b other → (b ≡ a → ⊥) → TellsApart (meaning_of y) a set
  unfolding breaks_value
  apart_other b other e n s k same = rw (e, ne_eqb a b (λ q. n (sym q)))

  pub apart_own : (b : ℕ) → y ≡ Valued b set → TellsApart (meaning_of y) a set
  unfolding breaks_value
  apart_own b e s k same = rw (e, same)

-- ---- the pattern, fact by fact

module _ (t : Facts) (a s : ℕ) where
  -- The flags of the facts before a place.
  pub record Numbering (i p : ℕ) : Type 0 where
    pub within : i ≤ t.count
    pub small : p < 2 ^ 8
    pub flags : OfFacts t (λ fs. (j : ℕ) → j < i → j < length fs → member p j ≡ flagged (alone a s) [] (get_or fs j (present 0)))
    pub rest : (j : ℕ) → i ≤ j → member p j ≡ false

  pub numbering_none : Numbering 0 0
  numbering_none = record { within = omega arith; small = omega arith; flags = λ fs h few j l. absurd (omega arith); rest = λ j l. member_zero j }

  pub numbering_all : (i p : ℕ) → min t.count 8 ≤ i → Numbering i p → IsPattern t a s p
  unfolding pattern_of
  numbering_all i p l n fs h few =
      let e : t.count ≡ length fs = few_count t fs h few in
      numbered_is fs (flagged (alone a s) []) p few n.small (λ j b. n.flags fs h few j (omega arith) b) (λ j b. n.rest j (let w = n.within in omega arith))

  module _ (i p : ℕ) (n : Numbering i p) (b : i < 8) (here : i < t.count) where
    one : (j : ℕ) → member (bit_or p ((1 * 2 ^ i) % 2 ^ 8)) j ≡ (member p j || eqb j i)
    one j = member_or p ((1 * 2 ^ i) % 2 ^ 8) j
        ∙ ap (λ (q : ℕ). member p j || member q j) (shl_exact {a = 1} 1 i 8 (lit< tt) (omega arith)) ∙ ap (λ (q : Bool). member p j || q) (member_single i j)

    told_here : {b : Bool} → FlagAt t i a s b → (fs : List Fact) → Represents t fs → length fs ≤ 8 → b ≡ flagged (alone a s) [] (get_or fs i (present 0))
    told_here told fs h few = let e : t.count ≡ length fs = few_count t fs h few in told (get_or fs i (present 0)) (h.stores i b (omega arith))

    pub numbering_with : FlagAt t i a s true → Numbering (i + 1) (bit_or p ((1 * 2 ^ i) % 2 ^ 8))
    numbering_with told = record {
      within = omega arith;
      small = (Fits-or {w = w8} (record { fits = n.small }) (record { fits = omega arith })).fits;
      flags = λ fs h few j l c. one j ∙ go fs h few j l c (ℕ_discrete j i);
      rest = λ j l. one j ∙ rw (n.rest j (omega arith), ne_eqb j i (λ q. omega arith)) refl;
    }
      where
        go : (fs : List Fact) → Represents t fs → length fs ≤ 8 → (j : ℕ) → j < i + 1 → j < length fs → Dec (j ≡ i)
            → (member p j || eqb j i) ≡ flagged (alone a s) [] (get_or fs j (present 0))
        go fs h few j l c (yes q) = ap (λ (x : Bool). member p j || x) (eq-eqb j i q) ∙ or-true (member p j) ∙ told_here told fs h few
            ∙ ap (λ (k : ℕ). flagged (alone a s) [] (get_or fs k (present 0))) (sym q)
        go fs h few j l c (no m) = ap (λ (x : Bool). member p j || x) (ne_eqb j i m) ∙ or-false (member p j) ∙ n.flags fs h few j (omega arith) c

    pub numbering_without : FlagAt t i a s false → Numbering (i + 1) p
    numbering_without told = record {
      within = omega arith;
      small = n.small;
      flags = λ fs h few j l c. go fs h few j l c (ℕ_discrete j i);
      rest = λ j l. n.rest j (omega arith);
    }
      where
        go : (fs : List Fact) → Represents t fs → length fs ≤ 8 → (j : ℕ) → j < i + 1 → j < length fs → Dec (j ≡ i)
            → member p j ≡ flagged (alone a s) [] (get_or fs j (present 0))
        go fs h few j l c (yes q) = n.rest j (omega arith) ∙ told_here told fs h few ∙ ap (λ (k : ℕ). flagged (alone a s) [] (get_or fs k (present 0))) (sym q)
        go fs h few j l c (no m) = n.flags fs h few j (omega arith) c

-- ---- attributes that no fact is about

numbered_none : (fs : List Fact) (flag : Fact → Bool) → ((j : ℕ) → j < length fs → flag (get_or fs j (present 0)) ≡ false) → numbered fs flag ≡ 0
unfolding numbered
numbered_none [] flag none = refl
numbered_none (f ∷ fs) flag none = rw (none 0 (omega arith), numbered_none fs flag (λ j l. none (suc j) (omega arith)))

module _ (names : ℕ) (y : Kept.Fact) where
  pub about_attribute : (b r : ℕ) → y ≡ Carried b → WithName names b r → WithAttribute names (meaning_of y) r
  unfolding is_in
  about_attribute b r e W = record { keeps = W.keeps; others = λ a s l h. rw (e, eqb_sym b a ∙ W.others a l h) }

  pub about_content : (c : ℕ) → y ≡ Present c → WithAttribute names (meaning_of y) names
  unfolding is_in
  about_content c e = record { keeps = λ a h. h; others = λ a s l h. rw e }

  pub about_pair : (c d : ℕ) → y ≡ Ordered c d → WithAttribute names (meaning_of y) names
  unfolding precedes
  about_pair c d e = record { keeps = λ a h. h; others = λ a s l h. rw e }

  pub about_value : (b : ℕ) (set : StringSet) (r : ℕ) → y ≡ Valued b set → WithName names b r → WithAttribute names (meaning_of y) r
  unfolding breaks_value
  about_value b set r e W = record { keeps = W.keeps; others = λ a s l h. rw (e, W.others a l h) }

module _ (t : Facts) where
  -- An attribute that is not among the names has no flag of a fact before a place.
  abbrev pub NamedTo : ℕ → ℕ → Type 0
  NamedTo i names = OfFacts t (λ fs. (a s j : ℕ) → a < 64 → member names a ≡ false → j < i → flagged (alone a s) [] (get_or fs j (present 0)) ≡ false)

  pub named_all : (i names : ℕ) → min t.count 8 ≤ i → NamedTo i names → AttributesOf t names
  unfolding pattern_of
  named_all i names end before fs h few a s l n = numbered_none fs (flagged (alone a s) [])
      (λ j k. before fs h few a s j l n (let c : t.count ≡ length fs = few_count t fs h few in omega arith))
