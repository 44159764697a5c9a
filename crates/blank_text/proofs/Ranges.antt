-- What is alike is in range alike, and without blank text it takes no more bytes: so what is read is read without it.
use Prim.Native.Nat.{ℕ, zero, suc, ◌+◌, ◌≤◌}
use native.Mathlib.Omega.{arith}
use mathlib.Core.Path.{◌≡◌, refl, ap}
use mathlib.Core.List.{List, [], ◌∷◌, ◌++◌, map}
use mathlib.Core.Bool.{Bool}
use lib.ListN.{length, length-append}
use Rattle.vocabularies.specs.Vocabulary.{Vocabulary, declared}
use Rattle.pages.specs.declared.Kind.{Kind}
use Rattle.pages.specs.declared.Kind.TheVariants.{Template}
use Rattle.pages.specs.Items.{Item, text, blank, gap, element, Items, none, more, ◌⋈◌, without_blank, without_blank_item}
use Rattle.programs.specs.Program.{template_at}
use Rattle.round_trip.specs.Written.{written_attributes, written_items, written_item, marked}
use Rattle.round_trip.specs.WrittenJob.{written_template, written_templates, marked_templates}
use Rattle.round_trip.specs.InRange.{element_depth, element_depth_of, ItemsInRange, ItemInRange, TreeInRange}
use Rattle.round_trip.specs.JobInRange.{AllInRange}
use Rattle.round_trip.proofs.Pages.{same_items, marked_once}
use Rattle.blank_text.proofs.Alike.{Alike, nothing, blank_here, blank_there, both, AlikeItem, both_text, both_gap, both_element, Any, itself, solid, marked_anew}

module _ {M : ℕ → ℕ → Type 0} where
  mutual
    unfolding element_depth

    same_depth : {φ φ' : Items} → Alike M φ φ' → element_depth φ ≡ element_depth φ'
    same_depth nothing = refl
    same_depth (blank_here a) = omega (arith, same_depth a)
    same_depth (blank_there a) = omega (arith, same_depth a)
    same_depth (both i a) = rw (same_item_depth i, same_depth a)

    same_item_depth : {i i' : Item} → AlikeItem M i i' → element_depth_of i ≡ element_depth_of i'
    same_item_depth both_text = refl
    same_item_depth both_gap = refl
    same_item_depth (both_element m a) = ap suc (same_depth a)

  module _ (k : Kind) (ruled : ℕ → Bool) where
    mutual
      unfolding ItemsInRange

      items_there : {φ φ' : Items} → Alike M φ φ' → ItemsInRange k ruled φ → ItemsInRange k ruled φ'
      items_there nothing h = h
      items_there (blank_here a) h = items_there a h.1
      items_there (blank_there a) h = (tt, items_there a h)
      items_there (both i a) h = (item_there i h.0, items_there a h.1)

      item_there : {i i' : Item} → AlikeItem M i i' → ItemInRange k ruled i → ItemInRange k ruled i'
      item_there both_text h = h
      item_there both_gap h = h
      item_there (both_element m a) h = (h.0, h.1, h.2, h.3, items_there a h.4)

  pub tree_there : (k : Kind) (D : Vocabulary) {φ φ' : Items} → Alike M φ φ' → TreeInRange k D φ → TreeInRange k D φ'
  tree_there k D a t = record { items = items_there k (declared D.rules) a t.items; nesting = omega (arith, t.nesting, same_depth a) }

mutual
  unfolding without_blank ◌⋈◌ written_items

  pub shorter : (φ : Items) → length (written_items (without_blank φ)) ≤ length (written_items φ)
  shorter none = omega arith
  shorter (more i φ) = omega (arith, shorter_item i (without_blank φ), shorter φ, length-append (written_item i) (written_items φ))

  shorter_item : (i : Item) (φ : Items) → length (written_items (without_blank_item i ⋈ φ)) ≤ length (written_item i) + length (written_items φ)
  shorter_item text φ = omega arith
  shorter_item blank φ = omega arith
  shorter_item (gap g) φ = omega arith
  shorter_item (element e mark δ χ) φ =
      let u = written_attributes δ in
      let v = written_items (without_blank χ) in
      let w = written_items χ in
      omega (
        arith,
        shorter χ,
        length-append (u ++ v ++ 0x26 ∷ []) (written_items φ),
        length-append (u ++ v) (0x26 ∷ []),
        length-append u v,
        length-append (u ++ w) (0x26 ∷ []),
        length-append u w,
      )

-- Without blank text, marked where it is written.
pub like_anew : (φ : Items) (at : ℕ) → Alike Any φ (marked at (without_blank φ))
like_anew φ at = marked_anew (solid (itself (λ _. tt) φ)) at

abbrev pub anew_templates : ℕ → List Items → List Items
anew_templates at φs = marked_templates at (map without_blank φs)

pub templates_alike : (at : ℕ) (φs : List Items) (t : ℕ) → Alike Any (template_at φs t) (template_at (anew_templates at φs) t)
unfolding template_at marked_templates
templates_alike at [] t = nothing
templates_alike at (φ ∷ φs) zero = nothing
templates_alike at (φ ∷ φs) (suc zero) = like_anew φ (at + 1)
templates_alike at (φ ∷ φs) (suc (suc t)) = templates_alike (at + length (written_template (without_blank φ))) φs (suc t)

pub templates_there_lem : (D : Vocabulary) (at : ℕ) (φs : List Items) → AllInRange D φs → AllInRange D (anew_templates at φs)
unfolding marked_templates AllInRange
templates_there_lem D at [] i = tt
templates_there_lem D at (φ ∷ φs) i =
    (tree_there Template D (like_anew φ (at + 1)) i.0, templates_there_lem D (at + length (written_template (without_blank φ))) φs i.1)

pub templates_shorter : (φs : List Items) → length (written_templates (map without_blank φs)) ≤ length (written_templates φs)
unfolding written_templates written_template
templates_shorter [] = omega arith
templates_shorter (φ ∷ φs) =
    let u = written_items (without_blank φ) in
    let v = written_items φ in
    omega (
      arith,
      templates_shorter φs,
      shorter φ,
      length-append (written_template (without_blank φ)) (written_templates (map without_blank φs)),
      length-append (written_template φ) (written_templates φs),
      length-append u (0x27 ∷ []),
      length-append v (0x27 ∷ []),
    )

-- They are as many. What is marked is written alike, and is marked once for all.
pub as_many : (at : ℕ) (φs : List Items) → length (anew_templates at φs) ≡ length φs
unfolding marked_templates
as_many at [] = refl
as_many at (φ ∷ φs) = ap suc (as_many (at + length (written_template (without_blank φ))) φs)

pub same_templates : (at : ℕ) (φs : List Items) → written_templates (marked_templates at φs) ≡ written_templates φs
unfolding marked_templates written_templates
same_templates at [] = refl
same_templates at (φ ∷ φs) = rw (same_items φ (at + 1), same_templates (at + length (written_template φ)) φs)

pub templates_once : (at : ℕ) (φs : List Items) → marked_templates at (marked_templates at φs) ≡ marked_templates at φs
unfolding marked_templates
templates_once at [] = refl
templates_once at (φ ∷ φs) = rw (same_items φ (at + 1), marked_once φ (at + 1), templates_once (at + length (written_template φ)) φs)
