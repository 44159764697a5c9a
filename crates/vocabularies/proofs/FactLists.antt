-- Lists of facts as code keeps them.
use Prim.Native.Nat.{ℕ, zero, suc, ◌+◌, ◌≤◌, ◌<◌}
use mathlib.Core.Path.{◌≡◌, refl, sym, ap, ◌∙◌}
use mathlib.Core.List.{List, [], ◌∷◌, ◌++◌}
use mathlib.Core.Bool.{Bool, true, false}
use native.Mathlib.Omega.{arith}
use lib.ListN.{length, get_or, take, set, length-append, length-set, get_or-append}
use lib.Seq.{get_or-append_seam, get_or-set_same, get_or-set_other}
use lib.Dec.{eqb}
use borrow.Author.Tests.{eqb-true, eqb-false}
use Rattle.std.specs.List.{list_any}
use Rattle.std.proofs.lemmas.Cmp.{nat_eq_equiv}
use Rattle.vocabularies.specs.declared.Fact as Kept
use Rattle.vocabularies.specs.declared.Fact.TheVariants.{Carried, Present, Ordered, Valued}
use Rattle.vocabularies.specs.declared.Facts.{Facts}
use Rattle.vocabularies.specs.contracts.FactPartialEq.TheImpl as Comparing
use Rattle.vocabularies.specs.Facts.{Fact, present, same_fact, is_among, add}
use Rattle.vocabularies.specs.Inner.Promises.{meaning_of, Stored, Represents, TellsAmong, Adds}

-- Facts compare as the definition has it.
pub compared : (y x : Kept.Fact) → Comparing.ghosts.eq y x ≡ same_fact (meaning_of x) (meaning_of y)
compared (Carried a) (Carried b) = nat_eq_equiv.symm a b
compared (Carried a) (Present b) = refl
compared (Carried a) (Ordered b b') = refl
compared (Carried a) (Valued b b') = refl
compared (Present a) (Carried b) = refl
compared (Present a) (Present b) = nat_eq_equiv.symm a b
compared (Present a) (Ordered b b') = refl
compared (Present a) (Valued b b') = refl
compared (Ordered a a') (Carried b) = refl
compared (Ordered a a') (Present b) = refl
compared (Ordered a a') (Ordered b b') = rw (nat_eq_equiv.symm a b, nat_eq_equiv.symm a' b') refl
compared (Ordered a a') (Valued b b') = refl
compared (Valued a a') (Carried b) = refl
compared (Valued a a') (Present b) = refl
compared (Valued a a') (Ordered b b') = refl
compared (Valued a a') (Valued b b') = rw (nat_eq_equiv.symm a b, nat_eq_equiv.symm a'.word b'.word) refl

-- A fact is among the first of those kept where it is among those of the definition that they stand for.
among_first : (x : Kept.Fact) (n : ℕ) (ys : List Kept.Fact) (xs : List Fact) → n ≡ length xs → n ≤ length ys
    → ((i : ℕ) → i < n → meaning_of (get_or ys i (Carried 0)) ≡ get_or xs i (present 0)) → list_any (λ y. Comparing.ghosts.eq y x) (take n ys) ≡ is_among (meaning_of x) xs
unfolding is_among
among_first x zero ys [] e l h = refl
among_first x zero ys (z ∷ xs) e l h = absurd (omega arith)
among_first x (suc n) [] xs e l h = absurd (omega arith)
among_first x (suc n) (y ∷ ys) [] e l h = absurd (omega arith)
among_first x (suc n) (y ∷ ys) (z ∷ xs) e l h =
    let first : meaning_of y ≡ z = h zero (omega arith) in
    rw (compared y x, first, among_first x n ys xs (omega arith) (omega arith) (λ i m. h (suc i) (omega arith)))

pub told_among : (t : Facts) (x : Kept.Fact) (r : Bool) → t.count ≤ 8 → r ≡ list_any (λ y. Comparing.ghosts.eq y x) (take t.count t.kept) → TellsAmong t x r
told_among t x r few e xs h =
    e ∙ among_first x t.count t.kept xs (omega (arith, h.counts)) (omega (arith, h.room)) (λ i l. h.stores i (omega arith) (omega (arith, h.counts)))

-- A fact that is there leaves the list as it is; another one is put at its end.
module _ (x : Fact) (xs : List Fact) where
  there : is_among x xs ≡ true → add x xs ≡ xs
  unfolding add
  there e = rw e

  new : is_among x xs ≡ false → add x xs ≡ xs ++ (x ∷ [])
  unfolding add
  new e = rw e

  longer : length (xs ++ (x ∷ [])) ≡ length xs + 1
  longer = length-append xs (x ∷ [])

module _ (t : Facts) (x : Kept.Fact) where
  -- The first eight of a longer list are those of the list.
  first_eight : (xs : List Fact) → Represents t xs → 8 ≤ t.count → (i : ℕ) → i < 8 → Stored t i (get_or (xs ++ (meaning_of x ∷ [])) i (present 0))
  first_eight xs h many i l =
      let n : i < length xs = omega (arith, h.counts) in
      rw (get_or-append xs (meaning_of x ∷ []) (present 0) i n) (h.stores i l n)

  -- More than eight stay more than eight.
  pub adds_above : 8 < t.count → Adds t x t
  adds_above many xs h = go (is_among (meaning_of x) xs) refl
    where
      go : (b : Bool) → is_among (meaning_of x) xs ≡ b → Represents t (add (meaning_of x) xs)
      go true e = rw (there (meaning_of x) xs e) h
      go false e = rw (new (meaning_of x) xs e)
          (record { room = h.room; counts = omega (arith, longer (meaning_of x) xs, h.counts); stores = λ i l m. first_eight xs h (omega arith) i l })

  module _ (r : Bool) (told : TellsAmong t x r) where
    pub adds_present : r ≡ true → Adds t x t
    adds_present e xs h = rw (there (meaning_of x) xs (sym (told xs h) ∙ e)) h

    pub adds_ninth : r ≡ false → t.count ≤ 8 → 8 ≤ t.count → Adds t x (record { kept = t.kept; count = t.count + 1 })
    adds_ninth e few many xs h = rw (new (meaning_of x) xs (sym (told xs h) ∙ e))
        (record { room = h.room; counts = omega (arith, longer (meaning_of x) xs, h.counts); stores = λ i l m. first_eight xs h many i l })

    pub adds_new : r ≡ false → t.count < 8
        → Adds t x (record { kept = set t.kept t.count x; count = t.count + 1 })
    adds_new e few xs h = rw (new (meaning_of x) xs (sym (told xs h) ∙ e))
        (record { room = length-set t.kept t.count x ∙ h.room; counts = omega (arith, longer (meaning_of x) xs, h.counts); stores = λ i l m. go i (eqb i t.count) refl l m })
      where
        go : (i : ℕ) (b : Bool) → eqb i t.count ≡ b → i < 8 → i < length (xs ++ (meaning_of x ∷ []))
            → Stored (record { kept = set t.kept t.count x; count = t.count + 1 }) i (get_or (xs ++ (meaning_of x ∷ [])) i (present 0))
        go i true e l m =
            let q : i ≡ t.count = eqb-true i t.count e in
            let n : i ≡ length xs = omega (arith, h.counts) in
            ap (λ (k : ℕ). meaning_of (get_or (set t.kept t.count x) k (Carried 0))) q
            ∙ ap meaning_of (get_or-set_same t.kept t.count x (Carried 0) (omega (arith, h.room)))
            ∙ sym (ap (λ (k : ℕ). get_or (xs ++ (meaning_of x ∷ [])) k (present 0)) n ∙ get_or-append_seam xs (meaning_of x) [] (present 0))
        go i false e l m =
            let q : i ≡ t.count → ⊥ = eqb-false i t.count e in
            let n : i < length xs = omega (arith, longer (meaning_of x) xs, h.counts, q) in
            ap meaning_of (get_or-set_other t.kept t.count i x (Carried 0) q)
            ∙ h.stores i l n
            ∙ sym (get_or-append xs (meaning_of x ∷ []) (present 0) i n)

-- Up to eight facts are kept whole.
module _ (t : Facts) (xs : List Fact) (h : Represents t xs) (few : t.count ≤ 8) where
  pub count_is : t.count ≡ length xs
  count_is = omega (arith, h.counts)

  pub kept : (i : ℕ) → i < t.count → Stored t i (get_or xs i (present 0))
  kept i l = h.stores i (omega arith) (omega (arith, h.counts))
