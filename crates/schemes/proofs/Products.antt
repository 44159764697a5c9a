-- Sets whose patterns are joined are the product.
use Prim.Native.Nat.{ℕ, ◌^◌, ◌<◌, ◌≤◌}
use mathlib.Core.Path.{◌≡◌, refl, sym, ap, subst, ◌∙◌}
use mathlib.Core.List.{List}
use mathlib.Core.Bool.{Bool, true, false, cond, ◌&&◌, false≢true}
use native.Mathlib.Omega.{arith}
use lib.ListN.{length}
use lib.Dec.{eqb, ltb}
use borrow.Author.Tests.{eq-eqb, ne_eqb, eqb-true, ltb-true, ltb-false}
use Rattle.vocabularies.specs.Facts.{Fact}
use Rattle.patterns.specs.Inner.Patterns.{join}
use Rattle.patterns.specs.Inner.Morphisms as Morphisms
use Rattle.patterns.specs.Inner.Morphisms.{fact_morphism, join_classes}
use Rattle.patterns.specs.Inner.Rounds.{Set, only, any_below, product}
use Rattle.patterns.proofs.Tests.{any_below_lem, below_any}
use Rattle.sets.proofs.Booleans.{and_both, and_left, and_right, alike, refuted}
use Rattle.schemes.specs.declared.Scheme.{Scheme}
use Rattle.schemes.specs.declared.Scheme.TheVariants.{Root, Facts}
use Rattle.schemes.specs.declared.FactScheme.{FactScheme}
use Rattle.pattern_sets.specs.Inner.PatternSets.{holds, Same}
use Rattle.pattern_sets.specs.Inner.Images.{joined_by, Apart, Joined}
use Rattle.pattern_sets.proofs.Imaging.{joined_zero}
use Rattle.schemes.specs.Inner.Schemes.{KeptPlaces, StandsFor, of_facts, of_root, Is}
use Rattle.schemes.specs.Inner.Promises.{Below, Multiplies, Follows}
use Rattle.schemes.proofs.Joining.{joined_op, joined_turned, apart_left, apart_right, size_most, joined_below, not_root, not_facts, kept_in}

held_below : {R : Morphisms.Morphism} (words : List ℕ) (S : Set) → Is R words S → Below R words
held_below {R} words S is x h = go (ltb x R.size) refl
  where
    go : (t : Bool) → ltb x R.size ≡ t → x < R.size
    go true e = ltb-true x R.size e
    go false e = absurd (false≢true (sym (is.outside x (ltb-false x R.size e)) ∙ h))

module _ {r : Scheme} {R : Morphisms.Morphism} (reads : StandsFor r R) (a b : List ℕ) (A B : Set) (is_a : Is R a A) (is_b : Is R b B) where
  pub below_left : Below R a
  below_left = held_below a A is_a

  pub below_right : Below R b
  below_right = held_below b B is_b

  pub joined_product : (words : List ℕ) → Joined R.op a b words → Is R words (product R A B)
  joined_product words joined = record {
    inside = λ z h. alike (holds words z) (product R A B z) (λ e. into z (joined.sound z e)) (out z);
    outside = λ z h. refuted (holds words z) (λ e. too_large z h (joined.sound z e));
  }
    where
      into : (z : ℕ) → (x : ℕ) × (y : ℕ) × (holds a x ≡ true) × (holds b y ≡ true) × (R.op x y ≡ z) → product R A B z ≡ true
      into z (x, y, h, k, e) =
          let p : x < R.size = below_left x h in
          let q : y < R.size = below_right y k in
          any_below_lem R.size (λ x. A x && any_below R.size (λ y. B y && eqb z (R.op x y))) x p
          (and_both _ _ (sym (is_a.inside x p) ∙ h)
          (any_below_lem R.size (λ y. B y && eqb z (R.op x y)) y q
          (and_both _ _ (sym (is_b.inside y q) ∙ k) (eq-eqb z (R.op x y) (sym e)))))

      out : (z : ℕ) → product R A B z ≡ true → holds words z ≡ true
      out z e =
          let (x, p, f) = below_any R.size (λ x. A x && any_below R.size (λ y. B y && eqb z (R.op x y))) e in
          let (y, q, g) = below_any R.size (λ y. B y && eqb z (R.op x y)) (and_right (A x) (any_below R.size (λ y. B y && eqb z (R.op x y))) f) in
          let h : holds a x ≡ true = is_a.inside x p ∙ and_left (A x) (any_below R.size (λ y. B y && eqb z (R.op x y))) f in
          let k : holds b y ≡ true = is_b.inside y q ∙ and_left (B y) (eqb z (R.op x y)) g in
          let o : z ≡ R.op x y = eqb-true z (R.op x y) (and_right (B y) (eqb z (R.op x y)) g) in
          rw o (joined.complete x y h k)

      too_large : (z : ℕ) → R.size ≤ z → (x : ℕ) × (y : ℕ) × (holds a x ≡ true) × (holds b y ≡ true) × (R.op x y ≡ z) → ⊥
      too_large z h (x, y, p, q, e) =
          let o : R.op x y < R.size = joined_below reads x y (below_left x p) (below_right y q) in
          omega arith

-- ---- by the places of pairs

module _ (r : FactScheme) (fs : List Fact) (h : KeptPlaces r fs) (a b words : List ℕ) (below_a : Below (fact_morphism fs) a) (below_b : Below (fact_morphism fs) b) where
  pub joined_left : (((x : ℕ) → holds a x ≡ true → Apart x r.befores r.afters) → Joined (joined_by r.befores r.afters) a b words)
      → Joined (join fs) a b words
  joined_left promised = record {
    complete = λ x y p q. subst (λ (z : ℕ). holds words z ≡ true) (joined_op r fs h x y (below_a x p) (below_b y q)) (joined.complete x y p q);
    sound = λ z k.
        let (x, y, p, q, e) = joined.sound z k in
        (x, y, p, q, sym (joined_op r fs h x y (below_a x p) (below_b y q)) ∙ e);
  }
    where
      joined : Joined (joined_by r.befores r.afters) a b words
      joined = promised (λ x p. apart_left r fs h x (below_a x p))

  pub joined_right : (((y : ℕ) → holds b y ≡ true → Apart y r.afters r.befores) → Joined (joined_by r.afters r.befores) b a words)
      → Joined (join fs) a b words
  joined_right promised = record {
    complete = λ x y p q. subst (λ (z : ℕ). holds words z ≡ true) (turned x y p q) (joined.complete y x q p);
    sound = λ z k.
        let (y, x, q, p, e) = joined.sound z k in
        (x, y, p, q, sym (turned x y p q) ∙ e);
  }
    where
      joined : Joined (joined_by r.afters r.befores) b a words
      joined = promised (λ y q. apart_right r fs h y (below_b y q))

      turned : (x y : ℕ) → holds a x ≡ true → holds b y ≡ true → joined_by r.afters r.befores y x ≡ join fs x y
      turned x y p q = joined_turned r fs h x y (below_a x p) (below_b y q) ∙ joined_op r fs h x y (below_a x p) (below_b y q)

-- ---- the empty word

classes_unit : (x : ℕ) → join_classes x 0 ≡ x
classes_unit x = go (eqb x 0) refl
  where
    go : (t : Bool) → eqb x 0 ≡ t → cond t 0 x ≡ x
    go true e = sym (eqb-true x 0 e)
    go false e = refl

op_facts : (p : FactScheme) (fs : List Fact) → KeptPlaces p fs → (x : ℕ) → x < 256 → x < 2 ^ length fs → (join fs 0 x ≡ x) × (join fs x 0 ≡ x)
op_facts p fs h x small l = (
  sym (joined_op p fs h 0 x (omega arith) l) ∙ joined_zero 0 p.befores p.afters x small refl,
  sym (joined_op p fs h x 0 l (omega arith)) ∙ (sym (joined_turned p fs h x 0 l (omega arith)) ∙ joined_zero 0 p.afters p.befores x small refl),
)

op_unit : {r : Scheme} {R : Morphisms.Morphism} → StandsFor r R → (x : ℕ) → x < R.size → (R.op 0 x ≡ x) × (R.op x 0 ≡ x)
op_unit {r} (of_facts {fs} h) x l = op_facts h.places fs h.kept x (let m = size_most {r = r} (of_facts h) in omega arith) l
op_unit (of_root e) x l = (refl, classes_unit x)

module _ (r : Scheme) (a b unit : List ℕ) (is : (y : ℕ) → holds unit y ≡ eqb y 0) (t : Bool) (e : t ≡ true) where
  same_unit : (u : Bool) → u ≡ true → (c : List ℕ) → Same c unit u → (y : ℕ) → holds c y ≡ eqb y 0
  same_unit true q c same y = same y ∙ is y
  same_unit false q c same y = absurd (false≢true q)

  pub unit_before : Same a unit t → Multiplies r a b b
  unit_before same R reads A B is_a is_b = joined_product {r = r} reads a b A B is_a is_b b (record {
    complete = λ x y p q.
        let z : x ≡ 0 = eqb-true x 0 (sym (same_unit t e a same x) ∙ p) in
        rw (z, (op_unit reads y (held_below b B is_b y q)).0) q;
    sound = λ z k. (0, z, same_unit t e a same 0, k, (op_unit reads z (held_below b B is_b z k)).0);
  })

  pub unit_after : Same b unit t → Multiplies r a b a
  unit_after same R reads A B is_a is_b = joined_product {r = r} reads a b A B is_a is_b a (record {
    complete = λ x y p q.
        let z : y ≡ 0 = eqb-true y 0 (sym (same_unit t e b same y) ∙ q) in
        rw (z, (op_unit reads x (held_below a A is_a x p)).1) p;
    sound = λ z k. (z, 0, k, same_unit t e b same 0, (op_unit reads z (held_below a A is_a z k)).1);
  })

-- ---- for the root, and for facts

module _ (a b words : List ℕ) where
  pub product_root : (root : ℕ) → Joined join_classes a b words → Multiplies (Root root) a b words
  product_root root joined R (of_facts h) A B is_a is_b = absurd (not_facts h)
  product_root root joined R (of_root t) A B is_a is_b = joined_product {r = Root root} (of_root t) a b A B is_a is_b words joined

  module _ (p : FactScheme) where
    pub product_left : (((x : ℕ) → holds a x ≡ true → Apart x p.befores p.afters) → Joined (joined_by p.befores p.afters) a b words)
        → Multiplies (Facts p) a b words
    product_left promised R (of_facts {fs} h) A B is_a is_b = joined_product {r = Facts p} (of_facts h) a b A B is_a is_b words
        (joined_left p fs (kept_in h) a b words (held_below a A is_a) (held_below b B is_b) promised)
    product_left promised R (of_root t) A B is_a is_b = absurd (not_root t)

    pub product_right : (((y : ℕ) → holds b y ≡ true → Apart y p.afters p.befores) → Joined (joined_by p.afters p.befores) b a words)
        → Multiplies (Facts p) a b words
    product_right promised R (of_facts {fs} h) A B is_a is_b = joined_product {r = Facts p} (of_facts h) a b A B is_a is_b words
        (joined_right p fs (kept_in h) a b words (held_below a A is_a) (held_below b B is_b) promised)
    product_right promised R (of_root t) A B is_a is_b = absurd (not_root t)

-- ---- a word of one pattern

module _ (r : Scheme) (a own words : List ℕ) (p : ℕ) (is : (y : ℕ) → holds own y ≡ eqb y p) where
  pub followed_by : Multiplies r a own words → Follows r a p words
  followed_by times R reads A is_a below = times R reads A (only p) is_a (record { inside = λ x h. is x; outside = λ x h. is x ∙ ne_eqb x p (λ q. omega arith) })

pub followed_empty : (r : Scheme) (a own : List ℕ) (p : ℕ) → ((y : ℕ) → holds own y ≡ eqb y p) → p ≡ 0 → Follows r a p a
followed_empty r a own p is zero' = followed_by r a own a p is (unit_after r a own own (λ y. is y ∙ ap (eqb y) zero') true refl (λ y. refl))
