-- A page that is read holds no gap and no attribute gap: `22` and `25` may not stand in one.
use Prim.Native.Nat.{ℕ, zero, suc, ◌+◌}
use mathlib.Core.Path.{◌≡◌, refl}
use mathlib.Core.Logic.{inl, inr}
use mathlib.Core.List.{List, [], ◌∷◌}
use mathlib.Core.Bool.{Bool, true, false, cond}
use lib.Dec.{ltb, eqb}
use borrow.Author.Tests.{eqb-false}
use Rattle.sets.proofs.Booleans.{neither}
use Rattle.commands.specs.declared.Context.TheVariants.{PageItems, PageAttributes}
use Rattle.commands.specs.Commands.{byte, allowed, strings}
use Rattle.commands.specs.Reading.{whole, enough}
use Rattle.vocabularies.specs.Vocabulary.{Vocabulary, declared, is_in}
use Rattle.pages.specs.declared.Kind.TheVariants.{Page}
use Rattle.pages.specs.Items.{string, open_gap, Attribute, Item, Items, gap_in, gap_in_item, is_open_gap, open_in, attribute_gap_in, attribute_gap_in_item}
use Rattle.pages.specs.ItemReading.{nesting, value_at, attributes, end_of, leaf_at, items, item, page_slice}
use Rattle.pages.specs.RightPages.{Gapless}
use Rattle.pages.proofs.Steps.{leaf_code}
use Rattle.judging.proofs.AttributeLaws.{no_template}
use Rattle.agreement.proofs.Readings.{Gives, gives, refuses, runs_out, given, gives_command, gives_when, gives_then, gives_alone, is_second}

-- No gap at any depth, and no attribute gap.
abbrev pub NoGap : Items → Type 0
NoGap φ = (g : ℕ) → gap_in φ g ≡ false

record ClosedItem (i : Item) : Type 0 where
  gaps : (g : ℕ) → gap_in_item i g ≡ false
  attribute_gaps : (h : ℕ) → attribute_gap_in_item i h ≡ false

abbrev ClosedAttributes : List Attribute → Type 0
ClosedAttributes δ = (h : ℕ) → open_in δ h ≡ false

-- Of the commands that may stand where a page's item begins, `21` and `29` are those that are not `23`.
leaf_closed : (s : List ℕ) (at code : ℕ) → allowed PageItems code ≡ true → eqb code 0x23 ≡ false → ClosedItem (leaf_at s at code)
unfolding gap_in attribute_gap_in allowed
leaf_closed s at code m e = elim (leaf_code Page code m (eqb-false code 0x23 e)) [
  | inl q ↦ rw q (record { gaps = λ g. refl; attribute_gaps = λ h. refl })
  | inr (inl q) ↦ rw q (record { gaps = λ g. refl; attribute_gaps = λ h. refl })
  | inr (inr q) ↦ no_template q.1
]

-- Neither of the two attributes of a page is a gap.
value_closed : (s : List ℕ) (at code h : ℕ) → allowed PageAttributes code ≡ true → is_open_gap (value_at s at code) h ≡ false
unfolding allowed
value_closed s at code h m = cases (eqb code 0x24) refl
  where
    cases : (b : Bool) → eqb code 0x24 ≡ b
        → is_open_gap (cond b (string (byte s (at + 2))) (cond (eqb code 0x25) (open_gap (byte s (at + 2))) (string strings))) h ≡ false
    cases true e = refl
    cases false e = let is : code ≡ 0x28 = is_second 0x24 0x28 code m e in rw is

module _ (s : List ℕ) where
  attributes_close : (f : ℕ) (before : List ℕ) (at : ℕ) → Gives (Unit {0}) (λ δ end. ClosedAttributes δ) (attributes f Page s before at)
  unfolding attributes open_in
  attributes_close zero before at = runs_out tt
  attributes_close (suc f) before at = gives_when (allowed PageAttributes (byte s at))
      (λ _ _. gives_command PageAttributes s at λ code next t. gives_when (is_in (byte s (at + 1)) before)
      (λ _ _. refuses)
      (λ _ _. gives_then (attributes_close f (byte s (at + 1) ∷ before) next) λ δ end m.
      gives (λ h. neither _ _ (value_closed s at code h t.may) (m h))))
      (λ _ _. gives (λ h. refl))

module _ (ruled : ℕ → Bool) (s : List ℕ) where
  mutual
    unfolding items gap_in attribute_gap_in

    pub items_close : (f depth at : ℕ) → Gives (Unit {0}) (λ φ end. Gapless φ) (items f Page ruled s depth at)
    items_close zero depth at = runs_out tt
    items_close (suc f) depth at = gives_when (eqb (byte s at) (end_of depth))
        (λ _ _. gives (record { gaps = λ g. refl; attribute_gaps = λ h. refl }))
        (λ _ _. gives_then (item_closes f depth at) λ i next m. gives_then (items_close f depth next) λ φ end n.
        gives (record {
          gaps = λ g. neither _ _ (m.gaps g) (n.gaps g);
          attribute_gaps = λ h. neither _ _ (m.attribute_gaps h) (n.attribute_gaps h);
        }))

    item_closes : (f depth at : ℕ) → Gives (Unit {0}) (λ i end. ClosedItem i) (item f Page ruled s depth at)
    item_closes zero depth at = runs_out tt
    item_closes (suc f) depth at = gives_command PageItems s at λ code next t. gives_when (eqb code 0x23)
        (λ _ _. gives_when (ruled (byte s (at + 1)))
        (λ _ _. gives_when (ltb depth (nesting Page))
        (λ _ _. gives_then (attributes_close s f [] next) λ δ inside m. gives_then (items_close f (depth + 1) inside) λ φ end n.
        gives (record { gaps = n.gaps; attribute_gaps = λ h. neither _ _ (m h) (n.attribute_gaps h) }))
        (λ _ _. refuses))
        (λ _ _. refuses))
        (λ _ e. gives (leaf_closed s at code t.may e))

pub page_closed : (D : Vocabulary) (p : List ℕ) (φ : Items) (end : ℕ) → page_slice D p ≡ whole φ end → Gapless φ
unfolding page_slice
page_closed D p φ end = given (gives_alone p (items_close (declared D.rules) p (enough p) 0 0))
