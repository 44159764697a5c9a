-- Pages that are derived have no gap left.
use Prim.Native.Nat.{ℕ}
use mathlib.Core.Path.{◌≡◌, refl, sym, ap, ◌∙◌}
use mathlib.Core.List.{List}
use mathlib.Core.Bool.{false, ◌||◌, or_assoc}
use Rattle.sets.proofs.Booleans.{neither}
use Rattle.pages.specs.Items.{Attribute, Item, element, Items, none, more, one, ◌⋈◌, gap_in, gap_in_item, open_in, attribute_gap_in, attribute_gap_in_item}
use Rattle.pages.specs.RightPages.{Gapless}
use Rattle.summaries.specs.Summaries.{Summary}
use Rattle.summaries.specs.Languages.{AttributesDerive, no_attribute, fixed, filled, dropped, Derives, ItemDerives, nothing, item_then, text_stays, blank_stays, gap_filled, element_keeps}
use Rattle.agreement.proofs.Gaps.{NoGap}

gap_append : (u v : Items) (g : ℕ) → gap_in (u ⋈ v) g ≡ (gap_in u g || gap_in v g)
unfolding ◌⋈◌ gap_in
gap_append none v g = refl
gap_append (more i u) v g = rw (gap_append u v g) (sym (or_assoc (gap_in_item i g) (gap_in u g) (gap_in v g)))

no_gap_one : (i : Item) (g : ℕ) → gap_in_item i g ≡ false → gap_in (one i) g ≡ false
unfolding gap_in
no_gap_one i g e = rw e

module _ (φs : List Items) (G : Summary) where
  mutual
    unfolding gap_in

    pub derived_no_gap : {n : ℕ} {φ page : Items} → Derives φs G n φ page → NoGap page
    derived_no_gap nothing g = refl
    derived_no_gap (item_then {u = u} {v = v} d ds e) g =
        ap (λ (χ : Items). gap_in χ g) e ∙ gap_append u v g ∙ rw (item_no_gap d g, derived_no_gap ds g)

    item_no_gap : {n : ℕ} {i : Item} {u : Items} → ItemDerives φs G n i u → NoGap u
    item_no_gap text_stays g = refl
    item_no_gap blank_stays g = refl
    item_no_gap (gap_filled m e d) g = derived_no_gap d g
    item_no_gap (element_keeps {e = e} {mark = mark} {δ' = δ'} {φ' = φ'} a d) g = no_gap_one (element e mark δ' φ') g (derived_no_gap d g)

open_append : (u v : Items) (h : ℕ) → attribute_gap_in (u ⋈ v) h ≡ (attribute_gap_in u h || attribute_gap_in v h)
unfolding ◌⋈◌ attribute_gap_in
open_append none v h = refl
open_append (more i u) v h = rw (open_append u v h) (sym (or_assoc (attribute_gap_in_item i h) (attribute_gap_in u h) (attribute_gap_in v h)))

none_open : (i : Item) (h : ℕ) → attribute_gap_in_item i h ≡ false → attribute_gap_in (one i) h ≡ false
unfolding attribute_gap_in
none_open i h e = rw e

module _ (φs : List Items) (G : Summary) where
  attributes_filled : {n : ℕ} {δ δ' : List Attribute} → AttributesDerive φs G n δ δ' → (h : ℕ) → open_in δ' h ≡ false
  unfolding open_in
  attributes_filled no_attribute h = refl
  attributes_filled (fixed d) h = attributes_filled d h
  attributes_filled (filled s e d) h = attributes_filled d h
  attributes_filled (dropped e d) h = attributes_filled d h

  mutual
    unfolding attribute_gap_in

    derived_filled : {n : ℕ} {φ page : Items} → Derives φs G n φ page → (h : ℕ) → attribute_gap_in page h ≡ false
    derived_filled nothing h = refl
    derived_filled (item_then {u = u} {v = v} d ds e) h =
        ap (λ (χ : Items). attribute_gap_in χ h) e ∙ open_append u v h ∙ rw (item_filled d h, derived_filled ds h)

    item_filled : {n : ℕ} {i : Item} {u : Items} → ItemDerives φs G n i u → (h : ℕ) → attribute_gap_in u h ≡ false
    item_filled text_stays h = refl
    item_filled blank_stays h = refl
    item_filled (gap_filled m e d) h = derived_filled d h
    item_filled (element_keeps {e = e} {mark = mark} {δ' = δ'} {φ' = φ'} a d) h =
        none_open (element e mark δ' φ') h (neither (open_in δ' h) (attribute_gap_in φ' h) (attributes_filled a h) (derived_filled d h))

  pub derived_closed : {n : ℕ} {φ page : Items} → Derives φs G n φ page → Gapless page
  derived_closed d = record { gaps = derived_no_gap φs G d; attribute_gaps = derived_filled d }
