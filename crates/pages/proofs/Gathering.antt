-- Walks that gather the gaps of attributes and items, one step after the other.
use Prim.Native.Nat.{ℕ, ◌+◌, ◌≤◌, ◌<◌}
use mathlib.Core.Path.{◌≡◌, refl, sym, ◌∙◌}
use mathlib.Core.List.{List, [], ◌∷◌}
use mathlib.Core.Bool.{Bool, true, false, ◌&&◌, ◌||◌, or-false, and-false}
use native.Mathlib.Omega.{arith}
use lib.ListN.{length, length-set, get_or, set}
use lib.Seq.{get_or-set_same, get_or-set_other}
use lib.Dec.{eqb, ltb}
use borrow.Author.Tests.{eq-eqb, ne_eqb, eqb-true, eqb-false, ltb-true, ltb-false}
use Rattle.sets.specs.Sets.{member}
use Rattle.sets.proofs.Laws.{member_zero}
use Rattle.commands.specs.declared.Position.{Position}
use Rattle.commands.specs.Reading.{whole}
use Rattle.pages.specs.declared.Kind.{Kind}
use Rattle.pages.specs.declared.ItemHere.{ItemHere}
use Rattle.pages.specs.declared.ItemHere.TheVariants.{Text, Gap, Element, Blank, End}
use Rattle.pages.specs.declared.AttributeHere.{AttributeHere}
use Rattle.pages.specs.declared.AttributeHere.TheVariants.{Fixed, Open, Done}
use Rattle.pages.specs.declared.GapsFound.{GapsFound}
use Rattle.pages.specs.Items.{Item, Items, none, template_at, gap_in, gap_in_item, open_in, attribute_gap_in, attribute_gap_in_item}
use Rattle.pages.specs.ItemReading.{items}
use Rattle.pages.specs.Inner.Steps.{item_here, ItemMoves, attribute_here, AttributeMoves}
use Rattle.pages.specs.Inner.Gaps.{has_gap, has_attribute_gap, GapsAre, ItemsStand, StartsAt, GapsAdded, AttributeGaps, ElementGaps, ItemsGaps}
use Rattle.pages.proofs.Steps.{LeafFirst, fixed_first, open_first, none_first, fixed_moves, open_moves, text_first, blank_first, gap_first, element_first, end_first, text_moves, blank_moves, gap_moves, element_moves, no_attribute}

-- What a walk that has come from an offset to another, and has gathered so much, has still to find.
pub record Onto {R : Type 0} (Found : ℕ → ℕ → R → Type 0) (at₀ set₀ at set : ℕ) : Type 0 where
  pub forward : at₀ ≤ at
  pub goes : (r : R) → Found at set r → Found at₀ set₀ r

pub onto_start : {R : Type 0} (Found : ℕ → ℕ → R → Type 0) (at set : ℕ) → Onto Found at set at set
onto_start Found at set = record { forward = omega arith; goes = λ r found. found }

-- ---- gaps

or_assoc : (x y z : Bool) → ((x || y) || z) ≡ (x || (y || z))
or_assoc true y z = refl
or_assoc false y z = refl

-- A bit below 8 beside those of a word, and one that is none of them.
low : (k a : ℕ) (m : Bool) → a < 8 → (ltb k 8 && (eqb k a || m)) ≡ ((ltb k 8 && m) || eqb a k)
low k a m small = go (ltb k 8) (eqb k a) (eqb a k) m refl refl refl
  where
    go : (t u v m : Bool) → ltb k 8 ≡ t → eqb k a ≡ u → eqb a k ≡ v → (t && (u || m)) ≡ ((t && m) || v)
    go true true true true p q r = refl
    go true true true false p q r = refl
    go true true false m p q r = absurd (eqb-false a k r (sym (eqb-true k a q)))
    go true false true m p q r = absurd (eqb-false k a q (sym (eqb-true a k r)))
    go true false false m p q r = sym (or-false m)
    go false u true m p q r = let l : 8 ≤ k = ltb-false k 8 p in let s : a ≡ k = eqb-true a k r in absurd (omega arith)
    go false u false m p q r = refl

beside : (k a : ℕ) (m : Bool) → (k < 8 → k ≡ a → ⊥) → (ltb k 8 && (eqb k a || m)) ≡ ((ltb k 8 && m) || false)
beside k a m n = go (ltb k 8) refl
  where
    go : (t : Bool) → ltb k 8 ≡ t → (t && (eqb k a || m)) ≡ ((t && m) || false)
    go true e = rw (ne_eqb k a (n (ltb-true k 8 e))) (sym (or-false m))
    go false e = refl

module _ (word : ℕ) where
  added_none : GapsAdded word (λ g. false) (λ h. false) word
  added_none = record { gaps = λ g. sym (or-false (has_gap word g)); attributes = λ h. sym (or-false (has_attribute_gap word h)) }

  added_gap : (a more : ℕ) → a < 8 → ((k : ℕ) → member more k ≡ (eqb k a || member word k)) → GapsAdded word (λ g. eqb a g) (λ h. false) more
  added_gap a more small is = record {
    gaps = λ g. rw (is g) (low g a (member word g) small);
    attributes = λ h. rw (is (8 + h), ne_eqb (8 + h) a (λ q. omega arith)) (sym (or-false (has_attribute_gap word h)));
  }

  added_open : (a more : ℕ) → a < 8 → ((k : ℕ) → member more k ≡ (eqb k (8 + a) || member word k)) → GapsAdded word (λ g. false) (λ h. eqb a h) more
  added_open a more small is = record {
    gaps = λ g. rw (is g) (beside g (8 + a) (member word g) (λ l q. omega arith));
    attributes = λ h. rw (is (8 + h), plus h) (low h a (member word (8 + h)) small);
  }
    where
      plus : (h : ℕ) → eqb (8 + h) (8 + a) ≡ eqb h a
      plus h = go (eqb h a) refl
        where
          go : (t : Bool) → eqb h a ≡ t → eqb (8 + h) (8 + a) ≡ t
          go true e = let q : h ≡ a = eqb-true h a e in eq-eqb (8 + h) (8 + a) (omega arith)
          go false e = let n : h ≡ a → ⊥ = eqb-false h a e in ne_eqb (8 + h) (8 + a) (λ q. n (omega arith))

  added_then : (p q p' q' : ℕ → Bool) (middle more : ℕ) → GapsAdded word p q middle → GapsAdded middle p' q' more
      → GapsAdded word (λ g. p g || p' g) (λ h. q h || q' h) more
  added_then p q p' q' middle more a b = record {
    gaps = λ g. b.gaps g ∙ rw (a.gaps g) (or_assoc (has_gap word g) (p g) (p' g));
    attributes = λ h. b.attributes h ∙ rw (a.attributes h) (or_assoc (has_attribute_gap word h) (q h) (q' h));
  }

module _ (s : List ℕ) (at : ℕ) (h : AttributeHere) (is : h ≡ attribute_here s at) (moves : AttributeMoves s at h) (at₀ word₀ word : ℕ)
    (walk : Onto (AttributeGaps s) at₀ word₀ at word) where
  pub fixed_gaps : (a v : ℕ) (next : Position) → h ≡ Fixed a v next → Onto (AttributeGaps s) at₀ word₀ next.at word
  unfolding open_in
  fixed_gaps a v next e = record {
    forward = omega (arith, walk.forward, (fixed_moves s at h moves a v next e).0.forward);
    goes = λ r rest. walk.goes r λ k before f end δ reads done.
        let w = (fixed_first f k s before at δ end reads done h is a v next e).0 in
        let n = rest k (a ∷ before) w.fuel end w.rest w.reads_rest done in
        (n.0, rw w.is_more n.1);
  }

  pub open_gaps : (a g : ℕ) (next : Position) → h ≡ Open a g next → (more : ℕ) → ((k : ℕ) → member more k ≡ (eqb k (8 + g) || member word k))
      → Onto (AttributeGaps s) at₀ word₀ next.at more
  unfolding open_in
  open_gaps a g next e more is_more = record {
    forward = omega (arith, walk.forward, (open_moves s at h moves a g next e).0.forward);
    goes = λ r rest. walk.goes r λ k before f end δ reads done.
        let o = open_first f k s before at δ end reads done h is a g next e in
        let w = o.0 in
        let n = rest k (a ∷ before) w.fuel end w.rest w.reads_rest done in
        (n.0, rw w.is_more (added_then word _ _ _ _ more r.gaps (added_open word g more o.1 is_more) n.1));
  }

  pub none_gaps : (r : GapsFound) → r.next.at ≡ at → r.gaps ≡ word → h ≡ Done → (at₀ ≤ at) × AttributeGaps s at₀ word₀ r
  unfolding open_in
  none_gaps r here same e = (
    walk.forward,
    walk.goes r λ k before f end δ reads done.
        let w = none_first f k s before at δ end reads done h is e in
        (here ∙ w.here, rw (w.no_more, same) (added_none word)),
  )

module _ (s : List ℕ) (at : ℕ) (h : ItemHere) (is : h ≡ item_here s at) (moves : ItemMoves s at h) (at₀ word₀ word : ℕ) (walk : Onto (ItemsGaps s) at₀ word₀ at word) where
  -- An item that has no gap adds none.
  gapless : (i : Item) → ((g : ℕ) → gap_in_item i g ≡ false) → ((a : ℕ) → attribute_gap_in_item i a ≡ false) → (next : Position) → at < next.at
      → ((k : Kind) (ruled : ℕ → Bool) (f depth end : ℕ) (φ : Items) → items f k ruled s depth at ≡ whole φ end → LeafFirst k ruled s depth at i next φ end)
      → Onto (ItemsGaps s) at₀ word₀ next.at word
  unfolding gap_in attribute_gap_in
  gapless i no_gap no_open next l first = record {
    forward = omega (arith, walk.forward);
    goes = λ r rest. walk.goes r λ k ruled f depth end φ reads.
        let w = first k ruled f depth end φ reads in
        let n = rest k ruled w.fuel depth end w.rest w.reads_rest in
        (n.0, rw w.is_more (record { gaps = λ g. rw (no_gap g) (n.1.gaps g); attributes = λ a. rw (no_open a) (n.1.attributes a) }));
  }

  pub text_gaps : (next : Position) → h ≡ Text next → Onto (ItemsGaps s) at₀ word₀ next.at word
  unfolding gap_in attribute_gap_in
  text_gaps next e =
      gapless _ (λ g. refl) (λ a. refl) next (text_moves s at h moves next e).forward λ k ruled f depth end φ reads. text_first f k ruled s depth at φ end reads h is next e

  pub blank_gaps : (next : Position) → h ≡ Blank next → Onto (ItemsGaps s) at₀ word₀ next.at word
  unfolding gap_in attribute_gap_in
  blank_gaps next e =
      gapless _ (λ g. refl) (λ a. refl) next (blank_moves s at h moves next e).forward λ k ruled f depth end φ reads. blank_first f k ruled s depth at φ end reads h is next e

  pub gap_gaps : (g : ℕ) (next : Position) → h ≡ Gap g next → (more : ℕ) → ((k : ℕ) → member more k ≡ (eqb k g || member word k)) → Onto (ItemsGaps s) at₀ word₀ next.at more
  unfolding gap_in attribute_gap_in
  gap_gaps g next e more is_more = record {
    forward = omega (arith, walk.forward, (gap_moves s at h moves g next e).0.forward);
    goes = λ r rest. walk.goes r λ k ruled f depth end φ reads.
        let o = gap_first f k ruled s depth at φ end reads h is g next e in
        let w = o.leaf in
        let n = rest k ruled w.fuel depth end w.rest w.reads_rest in
        (n.0, rw w.is_more (added_then word _ _ _ _ more r.gaps (added_gap word g more o.small is_more) n.1));
  }

  pub element_gaps_go : (e : ℕ) (next : Position) → h ≡ Element e next → (inner : GapsFound) → next.at ≤ inner.next.at → ElementGaps s next.at word inner
      → Onto (ItemsGaps s) at₀ word₀ inner.next.at inner.gaps
  unfolding gap_in attribute_gap_in
  element_gaps_go e next q inner l found = record {
    forward = omega (arith, walk.forward, (element_moves s at h moves e next q).0.forward, l);
    goes = λ r rest. walk.goes r λ k ruled f depth end φ reads.
        let w = element_first f k ruled s depth at φ end reads h is e next q in
        let m = found k ruled w.fuel_inside (depth + 1) w.inside w.middle w.named w.contents w.reads_attributes w.reads_contents in
        let n = rest k ruled w.fuel depth end w.rest (rw m.0 w.reads_rest) in
        (n.0, rw w.is_more (added_then word _ _ _ _ inner.gaps r.gaps m.1 n.1));
  }

  pub end_gaps : (next : Position) → h ≡ End next → (r : GapsFound) → r.next ≡ next → r.gaps ≡ word → ItemsGaps s at₀ word₀ r
  unfolding gap_in attribute_gap_in
  end_gaps next e r here same = walk.goes r λ k ruled f depth end φ reads.
      let w = end_first f k ruled s depth at φ end reads h is next e in
      (rw here w.after, rw (w.no_more, same) (added_none word))

-- An element's attributes, then its contents.
pub inner_gaps : (s : List ℕ) (at word : ℕ) (a r : GapsFound) → AttributeGaps s at word a → ItemsGaps s a.next.at a.gaps r → ElementGaps s at word r
inner_gaps s at word a r named list k ruled f depth inside end δ φ reads contents =
    let m = named k [] f inside δ reads (no_attribute f k ruled s depth inside φ end contents) in
    let n = list k ruled f depth end φ (rw m.0 contents) in
    (n.0, added_then word _ _ _ _ a.gaps r.gaps m.1 n.1)

pub all_gaps : (s : List ℕ) (at : ℕ) (r : GapsFound) → ItemsGaps s at 0 r → (φ : Items) → ItemsStand s at φ → GapsAre r.gaps φ
all_gaps s at r found φ st =
    let n = (found _ st.ruled st.fuel 0 st.end φ st.reads).1 in
    record {
      gaps = λ g. sym (n.gaps g ∙ rw (member_zero g, and-false (ltb g 8)));
      attributes = λ h. sym (n.attributes h ∙ rw (member_zero (8 + h), and-false (ltb h 8)));
    }

-- ---- the gaps of every template
pub no_gaps : GapsAre 0 none
unfolding gap_in attribute_gap_in
no_gaps = record { gaps = λ g. sym (rw (member_zero g) (and-false (ltb g 8))); attributes = λ h. sym (rw (member_zero (8 + h)) (and-false (ltb h 8))) }

first_template : (φs : List Items) → template_at φs 0 ≡ none
unfolding template_at
first_template [] = refl
first_template (φ ∷ φs) = refl

pub record Tabled (φs : List Items) (t : ℕ) (table : List ℕ) : Type 0 where
  pub wide : length table ≡ 32
  pub least : 1 ≤ t
  pub below : (i : ℕ) → i < t → i ≤ length φs → GapsAre (get_or table i 0) (template_at φs i)

pub tabled_begin : (φs : List Items) (table : List ℕ) → length table ≡ 32 → get_or table 0 0 ≡ 0 → Tabled φs 1 table
tabled_begin φs table w z = record {
  wide = w;
  least = omega arith;
  below = λ i f l. let q : i ≡ 0 = omega arith in rw (q, z, first_template φs) no_gaps;
}

pub tabled_go : (s : List ℕ) (φs : List Items) (starts : List ℕ) (t word : ℕ) (table : List ℕ) → StartsAt s φs starts → t < 32 → t ≤ length φs
    → ((φ : Items) → ItemsStand s (get_or starts t 0) φ → GapsAre word φ) → Tabled φs t table → Tabled φs (t + 1) (set table t word)
tabled_go s φs starts t word table st f l h T = record {
  wide = simp length-set T.wide;
  least = omega arith;
  below = λ i p q. go i p q (eqb i t) refl;
}
  where
    go : (i : ℕ) → i < t + 1 → i ≤ length φs → (b : Bool) → eqb i t ≡ b → GapsAre (get_or (set table t word) i 0) (template_at φs i)
    go i p q true e =
        let inside : t < length table = rw T.wide f in
        rw (eqb-true i t e, get_or-set_same table t word 0 inside) (h (template_at φs t) (st t T.least l))
    go i p q false e =
        let n = eqb-false i t e in
        rw (get_or-set_other table t i word 0 n) (T.below i (omega arith) q)
