-- Products of pattern sets in any order, for code that goes through a list of items from the left with the set so far: `op` is
-- associative and the empty word's pattern its unit, so products are and have one.
use Prim.Native.Nat.{ℕ, zero, suc, ◌^◌, ◌<◌}
use native.Mathlib.Omega.{arith}
use mathlib.Core.Path.{◌≡◌, refl, sym, ap, ◌∙◌}
use mathlib.Core.List.{List, [], ◌∷◌}
use mathlib.Core.Bool.{Bool, true, false, cond, ◌&&◌, ◌||◌, or-false, or_assoc}
use lib.ListN.{length}
use lib.Dec.{eqb, eqb-suc-zero}
use borrow.Author.Tests.{eqb-true}
use Rattle.vocabularies.specs.Vocabulary.{Formula, is_in}
use Rattle.vocabularies.specs.Facts.{Fact, carried, present, ordered, valued, is_among, facts_of}
use Rattle.pages.specs.Items.{Item, text, blank, gap, element, Items, none, more}
use Rattle.judging.specs.Inner.Judgement.{precedes}
use Rattle.summaries.specs.Proposal.{edge}
use Rattle.summaries.specs.Summaries.{Summary}
use Rattle.patterns.specs.Inner.Patterns.{breaks_value, flagged, pattern_of, flag_in, joined_flag, join}
use Rattle.patterns.specs.Inner.Morphisms.{Morphism, fact_morphism, root_morphism, class_of, join_classes, empty, other}
use Rattle.patterns.specs.Inner.Given.{Bounded}
use Rattle.patterns.specs.Inner.Rounds.{Set, Sets, only, product, any_below, all_take, item_takes, patterns, item_patterns}
use Rattle.patterns.proofs.Tests.{eqb_same, any_below_lem, below_any}
use Rattle.sets.proofs.Booleans.{and_both, and_left, and_right, alike}
use Rattle.patterns.proofs.Facts.{Closed, facts_closed}
use Rattle.patterns.proofs.Clauses.{numbered_below, numbered_same, flag_numbered, flag_of}
use Rattle.patterns.proofs.Lawful.{Lawful}
use Rattle.patterns.proofs.Exact.{in_product, factors, pattern_takes}
use Rattle.patterns.proofs.Bits.{Distinct, numbered_flags, facts_distinct}

pub record Monoid (R : Morphism) : Type 0 where
  pub closed : (x y : ℕ) → x < R.size → y < R.size → R.op x y < R.size
  pub assoc : (x y z : ℕ) → R.op (R.op x y) z ≡ R.op x (R.op y z)
  pub unit_below : R.of [] < R.size
  pub unit_left : (x : ℕ) → x < R.size → R.op (R.of []) x ≡ x
  pub unit_right : (x : ℕ) → x < R.size → R.op x (R.of []) ≡ x

module _ (R : Morphism) (monoid : Monoid R) where
  product_left : (A B C : Set) (w : ℕ) → product R (product R A B) C w ≡ true → product R A (product R B C) w ≡ true
  product_left A B C w e =
      let f = factors R (product R A B) C w e in
      let g = factors R A B f.first f.in_first_lem in
      in_product R A (product R B C) g.first (R.op g.second f.second) w
      g.first_below (monoid.closed g.second f.second g.second_below f.second_below) g.in_first_lem
      (in_product R B C g.second f.second (R.op g.second f.second) g.second_below f.second_below g.in_second f.in_second refl)
      (f.joined ∙ ap (λ (x : ℕ). R.op x f.second) g.joined ∙ monoid.assoc g.first g.second f.second)

  product_right : (A B C : Set) (w : ℕ) → product R A (product R B C) w ≡ true → product R (product R A B) C w ≡ true
  product_right A B C w e =
      let f = factors R A (product R B C) w e in
      let g = factors R B C f.second f.in_second in
      in_product R (product R A B) C (R.op f.first g.first) g.second w
      (monoid.closed f.first g.first f.first_below g.first_below) g.second_below
      (in_product R A B f.first g.first (R.op f.first g.first) f.first_below g.first_below f.in_first_lem g.in_first_lem refl)
      g.in_second
      (f.joined ∙ ap (R.op f.first) g.joined ∙ sym (monoid.assoc f.first g.first g.second))

  pub product_assoc : (A B C : Set) (w : ℕ) → product R (product R A B) C w ≡ product R A (product R B C) w
  product_assoc A B C w =
      alike (product R (product R A B) C w) (product R A (product R B C) w) (product_left A B C w) (product_right A B C w)

  -- The empty word's pattern changes nothing, on either side.
  pub product_unit_left : (A : Set) (x : ℕ) → x < R.size → product R (only (R.of [])) A x ≡ A x
  product_unit_left A x h = alike (product R (only (R.of [])) A x) (A x)
      (λ e.
      let f = factors R (only (R.of [])) A x e in
      let unit : f.first ≡ R.of [] = eqb-true f.first (R.of []) f.in_first_lem in
      let same : x ≡ f.second = f.joined ∙ ap (λ (y : ℕ). R.op y f.second) unit ∙ monoid.unit_left f.second f.second_below in
      rw same f.in_second)
      (λ a. in_product R (only (R.of [])) A (R.of []) x x monoid.unit_below h (eqb_same (R.of [])) a (sym (monoid.unit_left x h)))

  pub product_unit_right : (A : Set) (x : ℕ) → x < R.size → product R A (only (R.of [])) x ≡ A x
  product_unit_right A x h = alike (product R A (only (R.of [])) x) (A x)
      (λ e.
      let f = factors R A (only (R.of [])) x e in
      let unit : f.second ≡ R.of [] = eqb-true f.second (R.of []) f.in_second in
      let same : x ≡ f.first = f.joined ∙ ap (R.op f.first) unit ∙ monoid.unit_right f.first f.first_below in
      rw same f.in_first_lem)
      (λ a. in_product R A (only (R.of [])) x (R.of []) x h monoid.unit_below a (eqb_same (R.of [])) (sym (monoid.unit_right x h)))

-- A pair in three words.
across : (p q r d e c b : Bool) → ((p || q || (d && b)) || r || ((d || e) && c)) ≡ (p || (q || r || (e && c)) || (d && (b || c)))
across true q r d e c b = refl
across false true r d e c b = refl
across false false true false e c b = refl
across false false false false true true b = refl
across false false false false true false b = refl
across false false false false false c b = refl
across false false true true e c true = refl
across false false false true true true true = refl
across false false false true true false true = refl
across false false false true false c true = refl
across false false true true e c false = refl
across false false false true true true false = refl
across false false false true true false false = refl
across false false false true false c false = refl

-- The facts of a clause.
module _ (fs : List Fact) (closed : Closed fs) (distinct : Distinct fs) where
  flag_join : (x y : ℕ) (f : Fact) → is_among f fs ≡ true → flag_in fs (join fs x y) f ≡ joined_flag fs x y f
  unfolding join
  flag_join x y f e = flag_numbered fs (joined_flag fs x y) f ∙ ap (λ (b : Bool). b && joined_flag fs x y f) e

  join_assoc : (x y z : ℕ) → join fs (join fs x y) z ≡ join fs x (join fs y z)
  unfolding join
  join_assoc x y z = numbered_same fs (joined_flag fs (join fs x y) z) (joined_flag fs x (join fs y z)) each
    where
      each : (f : Fact) → is_among f fs ≡ true → joined_flag fs (join fs x y) z f ≡ joined_flag fs x (join fs y z) f
      each (carried a) e = rw (flag_join x y (carried a) e, flag_join y z (carried a) e)
          (or_assoc (flag_in fs x (carried a)) (flag_in fs y (carried a)) (flag_in fs z (carried a)))
      each (present c) e = rw (flag_join x y (present c) e, flag_join y z (present c) e)
          (or_assoc (flag_in fs x (present c)) (flag_in fs y (present c)) (flag_in fs z (present c)))
      each (ordered c d) e = rw (
        flag_join x y (ordered c d) e,
        flag_join y z (ordered c d) e,
        flag_join x y (present d) (closed c d e).1,
        flag_join y z (present c) (closed c d e).0,
      )
          (across (flag_in fs x (ordered c d)) (flag_in fs y (ordered c d)) (flag_in fs z (ordered c d))
          (flag_in fs x (present d)) (flag_in fs y (present d)) (flag_in fs z (present c)) (flag_in fs y (present c)))
      each (valued a m) e = rw (flag_join x y (valued a m) e, flag_join y z (valued a m) e)
          (or_assoc (flag_in fs x (valued a m)) (flag_in fs y (valued a m)) (flag_in fs z (valued a m)))

  unit_unflagged : (f : Fact) → is_among f fs ≡ true → flag_in fs (pattern_of fs [] []) f ≡ false
  unfolding is_in precedes breaks_value
  unit_unflagged (carried a) e = flag_of fs [] [] (carried a) e
  unit_unflagged (present c) e = flag_of fs [] [] (present c) e
  unit_unflagged (ordered c d) e = flag_of fs [] [] (ordered c d) e
  unit_unflagged (valued a m) e = flag_of fs [] [] (valued a m) e

  join_unit_left : (x : ℕ) → x < 2 ^ length fs → join fs (pattern_of fs [] []) x ≡ x
  unfolding join
  join_unit_left x h = numbered_same fs (joined_flag fs (pattern_of fs [] []) x) (flag_in fs x) each ∙ numbered_flags fs distinct x h
    where
      each : (f : Fact) → is_among f fs ≡ true → joined_flag fs (pattern_of fs [] []) x f ≡ flag_in fs x f
      each (carried a) e = rw (unit_unflagged (carried a) e)
      each (present c) e = rw (unit_unflagged (present c) e)
      each (ordered c d) e = rw (unit_unflagged (ordered c d) e, unit_unflagged (present d) (closed c d e).1) (or-false (flag_in fs x (ordered c d)))
      each (valued a m) e = rw (unit_unflagged (valued a m) e)

  join_unit_right : (x : ℕ) → x < 2 ^ length fs → join fs x (pattern_of fs [] []) ≡ x
  unfolding join
  join_unit_right x h = numbered_same fs (joined_flag fs x (pattern_of fs [] [])) (flag_in fs x) each ∙ numbered_flags fs distinct x h
    where
      none_left : (p d : Bool) → (p || false || (d && false)) ≡ p
      none_left true d = refl
      none_left false true = refl
      none_left false false = refl

      each : (f : Fact) → is_among f fs ≡ true → joined_flag fs x (pattern_of fs [] []) f ≡ flag_in fs x f
      each (carried a) e = rw (unit_unflagged (carried a) e) (or-false (flag_in fs x (carried a)))
      each (present c) e = rw (unit_unflagged (present c) e) (or-false (flag_in fs x (present c)))
      each (ordered c d) e = rw (unit_unflagged (ordered c d) e, unit_unflagged (present c) (closed c d e).0)
          (none_left (flag_in fs x (ordered c d)) (flag_in fs x (present d)))
      each (valued a m) e = rw (unit_unflagged (valued a m) e) (or-false (flag_in fs x (valued a m)))

  pub facts_monoid : Monoid (fact_morphism fs)
  unfolding join pattern_of
  facts_monoid = record {
    closed = λ x y hx hy. numbered_below fs (joined_flag fs x y);
    assoc = join_assoc;
    unit_below = numbered_below fs (flagged [] []);
    unit_left = join_unit_left;
    unit_right = join_unit_right;
  }

pub clause_monoid : (ψ : Formula) → Monoid (fact_morphism (facts_of ψ))
clause_monoid ψ = facts_monoid (facts_of ψ) (facts_closed ψ) (facts_distinct ψ)

-- Classes.
classes_closed : (x y : ℕ) → x < 3 → y < 3 → join_classes x y < 3
classes_closed x y hx hy = go (eqb x empty) (eqb y empty)
  where
    go : (a b : Bool) → cond a y (cond b x other) < 3
    go true b = hy
    go false true = hx
    go false false = omega arith

classes_assoc : (x y z : ℕ) → join_classes (join_classes x y) z ≡ join_classes x (join_classes y z)
classes_assoc zero y z = refl
classes_assoc (suc x) zero z = simp (eqb-suc-zero x)
classes_assoc (suc x) (suc y) zero = simp (eqb-suc-zero x, eqb-suc-zero y)
classes_assoc (suc x) (suc y) (suc z) = simp (eqb-suc-zero x, eqb-suc-zero y, eqb-suc-zero z)

classes_right : (x : ℕ) → join_classes x empty ≡ x
classes_right zero = refl
classes_right (suc x) = rw (eqb-suc-zero x)

pub root_monoid : (top : ℕ) → Monoid (root_morphism top)
unfolding class_of
root_monoid top = record {
  closed = classes_closed;
  assoc = classes_assoc;
  unit_below = omega arith;
  unit_left = λ x h. refl;
  unit_right = λ x h. classes_right x;
}

-- Items have a pattern exactly if every gap in them has something to take, so a set of contents that was worked out tells that too.
module _ (φs : List Items) (G : Summary) (bounded : Bounded φs G) (R : Morphism) (lawful : Lawful R) (monoid : Monoid R) where
  mutual
    unfolding all_take patterns

    takes_pattern : (φ : Items) (X : Sets) (n : ℕ) → all_take φs G R X n φ ≡ true → (x : ℕ) × (x < R.size) × (patterns φs G R X n φ x ≡ true)
    takes_pattern none X n e = (R.of [], lawful.below [], eqb_same (R.of []))
    takes_pattern (more i φ) X n e =
        let (x, hx, p) = item_takes_pattern i X n (and_left (item_takes φs G R X n i) (all_take φs G R X n φ) e) in
        let (y, hy, q) = takes_pattern φ X n (and_right (item_takes φs G R X n i) (all_take φs G R X n φ) e) in
        (R.op x y, monoid.closed x y hx hy, in_product R (item_patterns φs G R X n i) (patterns φs G R X n φ) x y (R.op x y) hx hy p q refl)

    item_takes_pattern : (i : Item) (X : Sets) (n : ℕ) → item_takes φs G R X n i ≡ true
        → (x : ℕ) × (x < R.size) × (item_patterns φs G R X n i x ≡ true)
    item_takes_pattern text X n e = (R.of (0 ∷ []), lawful.below (0 ∷ []), eqb_same (R.of (0 ∷ [])))
    item_takes_pattern blank X n e = (R.of [], lawful.below [], eqb_same (R.of []))
    item_takes_pattern (gap g) X n e =
        let (m, hm, p) = below_any (suc (length φs)) (λ k. G (edge n g k) && any_below R.size (X k)) e in
        let (x, hx, q) = below_any R.size (X m) (and_right (G (edge n g m)) (any_below R.size (X m)) p) in
        (x, hx, any_below_lem (suc (length φs)) (λ k. G (edge n g k) && X k x) m hm (and_both _ _ (and_left (G (edge n g m)) (any_below R.size (X m)) p) q))
    item_takes_pattern (element e' flag δ φ) X n e =
        (R.of (e' ∷ []), lawful.below (e' ∷ []), and_both _ _ e (eqb_same (R.of (e' ∷ []))))

  pub some_pattern : (X : Sets) (n : ℕ) (φ : Items) → any_below R.size (patterns φs G R X n φ) ≡ all_take φs G R X n φ
  some_pattern X n φ = alike (any_below R.size (patterns φs G R X n φ)) (all_take φs G R X n φ)
      (λ e. let (x, hx, p) = below_any R.size (patterns φs G R X n φ) e in pattern_takes φs G bounded R lawful φ X n x p)
      (λ e. let (x, hx, p) = takes_pattern φ X n e in any_below_lem R.size (patterns φs G R X n φ) x hx p)
