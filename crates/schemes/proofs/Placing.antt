-- The search for a content's place, and the places of pairs.
use Rattle.std.specs.Prelude.{Some, None, min}
use Prim.Native.Nat.{ℕ, ◌+◌, ◌<◌, ◌≤◌}
use mathlib.Core.Path.{◌≡◌, refl, sym, ap, ◌∙◌}
use mathlib.Core.List.{List}
use mathlib.Core.Bool.{Bool, true, false, false≢true}
use native.Mathlib.Nat.{le_antisymm}
use native.Mathlib.Omega.{arith}
use native.Mathlib.Decide.{ℕ_discrete}
use lib.ListN.{length, get_or, set, replicate, length-set, get_or-replicate}
use lib.Dec.{ltb}
use borrow.Author.Tests.{ltb-true, ltb-false}
use lib.Seq.{get_or-set_same, get_or-set_other}
use Rattle.vocabularies.specs.declared.Fact as Kept
use Rattle.vocabularies.specs.declared.Facts.{Facts}
use Rattle.vocabularies.specs.Facts.{Fact, present, same_fact}
use Rattle.vocabularies.specs.Inner.Promises.{meaning_of, kept_at, Represents}
use Rattle.patterns.proofs.Facts.{same_fact_lem, fact_same}
use Rattle.schemes.specs.Inner.Schemes.{place_of, Lists}
use Rattle.schemes.specs.Inner.Promises.{OfFacts, Places}
use Rattle.schemes.proofs.FactPlaces.{place_le, place_first, fact_placed}

-- A table that keeps at most eight facts keeps as many as it says.
pub few_count : (t : Facts) (fs : List Fact) → Represents t fs → length fs ≤ 8 → t.count ≡ length fs
few_count t fs h few = omega (arith, h.counts)

module _ (t : Facts) (x : Fact) where
  -- The fact stands at no place before this one.
  abbrev pub From : ℕ → Type 0
  From i = OfFacts t (λ fs. i ≤ place_of x fs)

  pub place_none : (i : ℕ) → min t.count 8 ≤ i → From i → Places t x None
  place_none i l before = record {
    within = tt;
    place = λ fs h few.
        let low : i ≤ place_of x fs = before fs h few in
        let most : place_of x fs ≤ length fs = place_le fs x in
        let e : t.count ≡ length fs = few_count t fs h few in
        omega arith;
  }

  module _ (i : ℕ) (b : i < 8) (here : i < t.count) (before : From i) (y : Kept.Fact) (at : y ≡ kept_at t i) (told : Bool) (tells : told ≡ same_fact x (meaning_of y)) where
    module _ (fs : List Fact) (h : Represents t fs) (few : length fs ≤ 8) where
      inside : i < length fs
      inside = let e : t.count ≡ length fs = few_count t fs h few in omega arith

      told_of : told ≡ same_fact x (get_or fs i (present 0))
      told_of = tells ∙ ap (λ (z : Kept.Fact). same_fact x (meaning_of z)) at ∙ ap (same_fact x) (h.stores i b inside)

      is_first : told ≡ true → place_of x fs ≤ i
      is_first e = place_first fs x i inside (sym (same_fact_lem x (get_or fs i (present 0)) (sym told_of ∙ e)))

      not_here : told ≡ false → place_of x fs ≡ i → ⊥
      not_here e q =
          let found : get_or fs i (present 0) ≡ x = ap (λ (k : ℕ). get_or fs k (present 0)) (sym q) ∙ fact_placed fs x (let l = inside in omega arith) in
          false≢true (sym e ∙ told_of ∙ ap (same_fact x) found ∙ fact_same x)

    pub place_found : told ≡ true → Places t x (Some i)
    place_found e = record { within = b; place = λ fs h few. (inside fs h few, le_antisymm (before fs h few) (is_first fs h few e)) }

    pub from_next : told ≡ false → From (i + 1)
    from_next e fs h few =
        let low : i ≤ place_of x fs = before fs h few in
        let ne : place_of x fs ≡ i → ⊥ = not_here fs h few e in
        omega arith

-- ---- a table with a number for each fact

module _ (t : Facts) (of : List Fact → Fact → ℕ) (none : ℕ) where
  -- The table has the numbers of the facts before a place.
  pub record Filling (i : ℕ) (numbers : List ℕ) : Type 0 where
    pub within : i ≤ 8
    pub room : length numbers ≡ 8
    pub filled : (j : ℕ) → j < i → (j < t.count) × OfFacts t (λ fs. get_or numbers j 0 ≡ of fs (get_or fs j (present 0)))
    pub rest : (j : ℕ) → i ≤ j → j < 8 → get_or numbers j 0 ≡ none

  pub filling_none : Filling 0 (replicate 8 none)
  filling_none = record {
    within = omega arith;
    room = refl;
    filled = λ j l. absurd (omega arith);
    rest = λ j l b. get_or-replicate 8 j none 0 b;
  }

  pub filling_more : (i : ℕ) (numbers : List ℕ) (y : Kept.Fact) (r : ℕ) → Filling i numbers → i < 8 → i < t.count → y ≡ kept_at t i
      → OfFacts t (λ fs. r ≡ of fs (meaning_of y)) → Filling (i + 1) (set numbers i r)
  filling_more i numbers y r F b here at is = record {
    within = omega arith;
    room = length-set numbers i r ∙ F.room;
    filled = λ j l. go j l (ℕ_discrete j i);
    rest = λ j l k. get_or-set_other numbers i j r 0 (λ e. omega arith) ∙ F.rest j (omega arith) k;
  }
    where
      go : (j : ℕ) → j < i + 1 → Dec (j ≡ i) → (j < t.count) × OfFacts t (λ fs. get_or (set numbers i r) j 0 ≡ of fs (get_or fs j (present 0)))
      go j l (yes e) = (
        omega arith,
        λ fs h few.
            let n : t.count ≡ length fs = few_count t fs h few in
            rw (e, get_or-set_same numbers i r 0 (let q = F.room in omega arith)) (is fs h few ∙ ap (of fs) (ap meaning_of at ∙ h.stores i b (omega arith))),
      )
      go j l (no n) = ((F.filled j (omega arith)).0, λ fs h few. get_or-set_other numbers i j r 0 n ∙ (F.filled j (omega arith)).1 fs h few)

  pub filled_all : (i : ℕ) (numbers : List ℕ) → min t.count 8 ≤ i → Filling i numbers → OfFacts t (λ fs. Lists (of fs) none numbers fs)
  filled_all i numbers end F fs h few = record {
    stands = λ j l. (F.filled j (let m : t.count ≡ length fs = few_count t fs h few in omega arith)).1 fs h few;
    past = λ j l b. F.rest j (late j l (ltb j i) refl) b;
  }
    where
      late : (j : ℕ) → length fs ≤ j → (u : Bool) → ltb j i ≡ u → i ≤ j
      late j l true e = let k = (F.filled j (ltb-true j i e)).0 in let m : t.count ≡ length fs = few_count t fs h few in absurd (omega arith)
      late j l false e = ltb-false j i e

      n : t.count ≡ length fs
      n = few_count t fs h few
