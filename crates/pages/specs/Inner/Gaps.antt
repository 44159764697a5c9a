-- The gaps of templates as words, and where the items of each template stand.
use Rattle.std.specs.Prelude.{ℕ, ◌+◌, ◌≤◌, ◌≡◌, List, [], Bool, false, ◌&&◌, ◌||◌, length, get_or, ltb}
use Rattle.sets.specs.Sets.{member}
use Rattle.commands.specs.Reading.{whole}
use Rattle.pages.specs.declared.Kind.{Kind}
use Rattle.pages.specs.declared.Kind.TheVariants.{Template}
use Rattle.pages.specs.declared.AttributeHere.TheVariants.{Done}
use Rattle.pages.specs.declared.GapsFound.{GapsFound}
use Rattle.pages.specs.Items.{Attribute, Items, template_at, gap_in, open_in, attribute_gap_in}
use Rattle.pages.specs.ItemReading.{attributes, items}
use Rattle.pages.specs.Inner.Steps.{attribute_here}

-- Bit g of the word for gap g, bit 8 + h for attribute gap h.
abbrev pub has_gap : ℕ → ℕ → Bool
has_gap word g = ltb g 8 && member word g

abbrev pub has_attribute_gap : ℕ → ℕ → Bool
has_attribute_gap word h = ltb h 8 && member word (8 + h)

pub record GapsAre (word : ℕ) (φ : Items) : Type 0 where
  pub gaps : (g : ℕ) → gap_in φ g ≡ has_gap word g
  pub attributes : (h : ℕ) → attribute_gap_in φ h ≡ has_attribute_gap word h

-- The items of a template stand at an offset.
pub record ItemsStand (s : List ℕ) (at : ℕ) (φ : Items) : Type 0 where
  pub ruled : ℕ → Bool
  pub fuel : ℕ
  pub end : ℕ
  pub reads : items fuel Template ruled s 0 at ≡ whole φ end

abbrev pub StartsAt : List ℕ → List Items → List ℕ → Type 0
StartsAt s φs starts = (t : ℕ) → 1 ≤ t → t ≤ length φs → ItemsStand s (get_or starts t 0) (template_at φs t)

-- The gaps of every template, at any depth.
abbrev pub GapsTable : List ℕ → List Items → Type 0
GapsTable gaps φs = (t : ℕ) → t ≤ length φs → GapsAre (get_or gaps t 0) (template_at φs t)

-- A word with more gaps and attribute gaps.
pub record GapsAdded (word : ℕ) (gap attribute : ℕ → Bool) (more : ℕ) : Type 0 where
  pub gaps : (g : ℕ) → has_gap more g ≡ (has_gap word g || gap g)
  pub attributes : (h : ℕ) → has_attribute_gap more h ≡ (has_attribute_gap word h || attribute h)

-- The gaps of attributes, of an element from its attributes on, and of a list of items that stand at an offset, added to a word; and
-- their end.
abbrev pub AttributeGaps : List ℕ → ℕ → ℕ → GapsFound → Type 0
AttributeGaps s at word r = (k : Kind) (before : List ℕ) (f end : ℕ) (δ : List Attribute) → attributes f k s before at ≡ whole δ end → attribute_here s end ≡ Done
    → (r.next.at ≡ end) × GapsAdded word (λ g. false) (open_in δ) r.gaps

abbrev pub ElementGaps : List ℕ → ℕ → ℕ → GapsFound → Type 0
ElementGaps s at word r = (k : Kind) (ruled : ℕ → Bool) (f depth inside end : ℕ) (δ : List Attribute) (φ : Items) → attributes f k s [] at ≡ whole δ inside
    → items f k ruled s depth inside ≡ whole φ end → (r.next.at ≡ end) × GapsAdded word (gap_in φ) (λ h. open_in δ h || attribute_gap_in φ h) r.gaps

abbrev pub ItemsGaps : List ℕ → ℕ → ℕ → GapsFound → Type 0
ItemsGaps s at word r = (k : Kind) (ruled : ℕ → Bool) (f depth end : ℕ) (φ : Items) → items f k ruled s depth at ≡ whole φ end
    → (r.next.at ≡ end) × GapsAdded word (gap_in φ) (attribute_gap_in φ) r.gaps
