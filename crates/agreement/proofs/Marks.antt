-- The mark of an element is the offset of its `23`. In what is read, marks rise in document order, an element before those in it, and
-- lie between the offset where reading began and the one where it ended. So no two elements have one mark.
use Prim.Native.Nat.{ℕ, zero, suc, ◌+◌, ◌≤◌, ◌<◌}
use native.Mathlib.Omega.{arith}
use mathlib.Core.Path.{◌≡◌}
use mathlib.Core.List.{List, [], ◌∷◌}
use mathlib.Core.Bool.{Bool, true, false, cond}
use mathlib.Core.Logic.{inl, inr}
use lib.Dec.{ltb, eqb}
use Rattle.commands.specs.declared.Context.TheVariants.{Templates}
use Rattle.commands.specs.Commands.{byte, allowed}
use Rattle.commands.specs.Reading.{whole, enough}
use Rattle.vocabularies.specs.Vocabulary.{Vocabulary, declared, is_in}
use Rattle.pages.specs.declared.Kind.{Kind}
use Rattle.pages.specs.declared.Kind.TheVariants.{Template, Page}
use Rattle.pages.specs.Items.{Item, text, blank, gap, element, Items, none, more}
use Rattle.pages.specs.ItemReading.{item_context, attribute_context, nesting, attributes, end_of, leaf_at, items, item, page_slice, most_templates, templates}
use Rattle.pages.specs.RightPages.{SomeElement, SomeElementOf}
use Rattle.programs.specs.Program.{template_at}
use Rattle.agreement.proofs.Readings.{Gives, gives, refuses, runs_out, given, gives_command, gives_when, gives_then, gives_alone}

-- The marks rise in document order, from `low` on and below `high`.
unfoldable mutual
  pub Rises : ℕ → Items → ℕ → Type 0
  Rises low none high = low ≤ high
  Rises low (more i φ) high = (middle : ℕ) × RisesIn low i middle × Rises middle φ high

  pub RisesIn : ℕ → Item → ℕ → Type 0
  RisesIn low text high = low ≤ high
  RisesIn low blank high = low ≤ high
  RisesIn low (gap g) high = low ≤ high
  RisesIn low (element e mark δ φ) high = (low ≤ mark) × Rises (mark + 1) φ high

mutual
  unfolding Rises

  rises_le : (φ : Items) (low high : ℕ) → Rises low φ high → low ≤ high
  rises_le none low high r = r
  rises_le (more i φ) low high r = omega (arith, rises_in_le i low r.0 r.1, rises_le φ r.0 high r.2)

  rises_in_le : (i : Item) (low high : ℕ) → RisesIn low i high → low ≤ high
  rises_in_le text low high r = r
  rises_in_le blank low high r = r
  rises_in_le (gap g) low high r = r
  rises_in_le (element e mark δ φ) low high r = omega (arith, rises_le φ (mark + 1) high r.1)

-- An element with this mark stands in the items.
abbrev pub Stands : ℕ → Items → Type 0
Stands mark φ = SomeElement (λ e m δ contents. m ≡ mark) φ

abbrev pub StandsIn : ℕ → Item → Type 0
StandsIn mark i = SomeElementOf (λ e m δ contents. m ≡ mark) i

mutual
  unfolding Rises SomeElement

  pub within : (φ : Items) (low high mark : ℕ) → Rises low φ high → Stands mark φ → (low ≤ mark) × (mark < high)
  within none low high mark r s = absurd s
  within (more i φ) low high mark r (inl s) = omega (arith, within_item i low r.0 mark r.1 s, rises_le φ r.0 high r.2)
  within (more i φ) low high mark r (inr s) = omega (arith, within φ r.0 high mark r.2 s, rises_in_le i low r.0 r.1)

  pub within_item : (i : Item) (low high mark : ℕ) → RisesIn low i high → StandsIn mark i → (low ≤ mark) × (mark < high)
  within_item text low high mark r s = absurd s
  within_item blank low high mark r s = absurd s
  within_item (gap g) low high mark r s = absurd s
  within_item (element e m δ φ) low high mark r (inl s) = omega (arith, r.0, rises_le φ (m + 1) high r.1)
  within_item (element e m δ φ) low high mark r (inr s) = omega (arith, r.0, within φ (m + 1) high mark r.1 s)

-- What rises from an offset on rises from a lower one on.
mutual
  unfolding Rises

  rises_from : (φ : Items) (low from high : ℕ) → low ≤ from → Rises from φ high → Rises low φ high
  rises_from none low from high h r = omega arith
  rises_from (more i φ) low from high h r = (r.0, rises_in_from i low from r.0 h r.1, r.2)

  rises_in_from : (i : Item) (low from high : ℕ) → low ≤ from → RisesIn from i high → RisesIn low i high
  rises_in_from text low from high h r = omega arith
  rises_in_from blank low from high h r = omega arith
  rises_in_from (gap g) low from high h r = omega arith
  rises_in_from (element e mark δ φ) low from high h r = (omega (arith, r.0), r.1)

module _ (k : Kind) (s : List ℕ) where
  attributes_pass : (f : ℕ) (before : List ℕ) (at : ℕ) → Gives (Unit {0}) (λ δ end. at ≤ end) (attributes f k s before at)
  unfolding attributes
  attributes_pass zero before at = runs_out tt
  attributes_pass (suc f) before at = gives_when (allowed (attribute_context k) (byte s at))
      (λ _ _. gives_command (attribute_context k) s at λ code next t. gives_when (is_in (byte s (at + 1)) before)
      (λ _ _. refuses)
      (λ _ _. gives_then (attributes_pass f (byte s (at + 1) ∷ before) next) λ δ end m. gives (omega arith)))
      (λ _ _. gives (omega arith))

leaf_rises : (s : List ℕ) (at code low high : ℕ) → low ≤ high → RisesIn low (leaf_at s at code) high
unfolding Rises
leaf_rises s at code low high h = cases (eqb code 0x21) (eqb code 0x29)
  where
    cases : (a b : Bool) → RisesIn low (cond a text (cond b blank (gap (byte s (at + 1))))) high
    cases true b = h
    cases false true = h
    cases false false = h

module _ (k : Kind) (ruled : ℕ → Bool) (s : List ℕ) where
  mutual
    unfolding items Rises

    items_rise : (f depth at : ℕ) → Gives (Unit {0}) (λ φ end. Rises at φ end) (items f k ruled s depth at)
    items_rise zero depth at = runs_out tt
    items_rise (suc f) depth at = gives_when (eqb (byte s at) (end_of depth))
        (λ _ _. gives (omega arith))
        (λ _ _. gives_then (item_rises f depth at) λ i next m. gives_then (items_rise f depth next) λ φ end n. gives (next, m, n))

    item_rises : (f depth at : ℕ) → Gives (Unit {0}) (λ i end. RisesIn at i end) (item f k ruled s depth at)
    item_rises zero depth at = runs_out tt
    item_rises (suc f) depth at = gives_command (item_context k) s at λ code next t. gives_when (eqb code 0x23)
        (λ _ _. gives_when (ruled (byte s (at + 1)))
        (λ _ _. gives_when (ltb depth (nesting k))
        (λ _ _. gives_then (attributes_pass k s f [] next) λ δ inside m. gives_then (items_rise f (depth + 1) inside) λ φ end n.
        gives (omega arith, rises_from φ (at + 1) inside end (omega arith) n))
        (λ _ _. refuses))
        (λ _ _. refuses))
        (λ _ _. gives (leaf_rises s at code at next (omega arith)))

  -- The marks of items that were read.
  pub marks_rise : (f depth at end : ℕ) (φ : Items) → items f k ruled s depth at ≡ whole φ end → Rises at φ end
  marks_rise f depth at end φ = given (items_rise f depth at)

pub page_marks_rise : (D : Vocabulary) (p : List ℕ) (φ : Items) (end : ℕ) → page_slice D p ≡ whole φ end → Rises 0 φ end
unfolding page_slice
page_marks_rise D p φ end = given (gives_alone p (items_rise Page (declared D.rules) p (enough p) 0 0))

-- The marks of several lists of items, one after the other.
unfoldable pub AllRise : ℕ → List Items → ℕ → Type 0
unfolding Rises
AllRise low [] high = low ≤ high
AllRise low (φ ∷ φs) high = (middle : ℕ) × Rises low φ middle × AllRise middle φs high

module _ (ruled : ℕ → Bool) (s : List ℕ) where
  pub templates_rise : (f count at : ℕ) → Gives (Unit {0}) (λ φs end. AllRise at φs end) (templates f ruled s count at)
  unfolding templates AllRise
  templates_rise zero count at = runs_out tt
  templates_rise (suc f) count at = gives_command Templates s at λ code next t. gives_when (eqb code 0x2F)
      (λ _ _. gives (omega arith))
      (λ _ _. gives_when (ltb count most_templates)
      (λ _ _. gives_then (items_rise Template ruled s f 0 next) λ φ after m. gives_then (templates_rise f (count + 1) after) λ φs end n.
      gives (after, rises_from φ at next after (omega arith) m, n))
      (λ _ _. refuses))

all_rise_le : (φs : List Items) (low high : ℕ) → AllRise low φs high → low ≤ high
unfolding AllRise
all_rise_le [] low high r = r
all_rise_le (φ ∷ φs) low high r = omega (arith, rises_le φ low r.0 r.1, all_rise_le φs r.0 high r.2)

within_all : (φs : List Items) (low high mark t : ℕ) → AllRise low φs high → Stands mark (template_at φs t) → low ≤ mark
unfolding AllRise template_at SomeElement
within_all [] low high mark t r s = absurd s
within_all (φ ∷ φs) low high mark zero r s = absurd s
within_all (φ ∷ φs) low high mark (suc zero) r s = (within φ low r.0 mark r.1 s).0
within_all (φ ∷ φs) low high mark (suc (suc t)) r s =
    omega (arith, rises_le φ low r.0 r.1, within_all φs r.0 high mark (suc t) r.2 s)

-- A lower template has the lower marks,
pub templates_in_order : (φs : List Items) (low high mark mark' t t' : ℕ) → AllRise low φs high → Stands mark (template_at φs t)
    → Stands mark' (template_at φs t') → mark ≤ mark' → t ≤ t'
unfolding AllRise template_at SomeElement
templates_in_order [] low high mark mark' t t' r s s' h = absurd s
templates_in_order (φ ∷ φs) low high mark mark' zero t' r s s' h = absurd s
templates_in_order (φ ∷ φs) low high mark mark' (suc t) zero r s s' h = absurd s'
templates_in_order (φ ∷ φs) low high mark mark' (suc zero) (suc t') r s s' h = omega arith
templates_in_order (φ ∷ φs) low high mark mark' (suc (suc t)) (suc zero) r s s' h =
    absurd (omega (arith, within φ low r.0 mark' r.1 s', within_all φs r.0 high mark (suc t) r.2 s))
templates_in_order (φ ∷ φs) low high mark mark' (suc (suc t)) (suc (suc t')) r s s' h =
    omega (arith, templates_in_order φs r.0 high mark mark' (suc t) (suc t') r.2 s s' h)

-- so an element's mark stands in one template only.
pub one_template : (φs : List Items) (low high mark t t' : ℕ) → AllRise low φs high → Stands mark (template_at φs t)
    → Stands mark (template_at φs t') → t ≡ t'
one_template φs low high mark t t' r s s' =
    omega (arith, templates_in_order φs low high mark mark t t' r s s' (omega arith), templates_in_order φs low high mark mark t' t r s' s (omega arith))

-- The marks of each template rise.
pub template_rises : (φs : List Items) (low high t : ℕ) → AllRise low φs high → (from : ℕ) × (to : ℕ) × Rises from (template_at φs t) to
unfolding AllRise template_at Rises
template_rises [] low high t r = (0, 0, omega arith)
template_rises (φ ∷ φs) low high zero r = (0, 0, omega arith)
template_rises (φ ∷ φs) low high (suc zero) r = (low, r.0, r.1)
template_rises (φ ∷ φs) low high (suc (suc t)) r = template_rises φs r.0 high (suc t) r.2
