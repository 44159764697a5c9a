-- Templates as trees (source 000, section 2, "XML Templates"). Templates, the values of a run and pages are all lists of items; a
-- page has no gap left. An element keeps its mark, the offset of its `23`: no step of a run and no derivation changes it, and it gives
-- verdicts 12, 14 and 15 their place.
--
-- Blank text (document 02, F-2) is an item that source 000's grammar does not have. The source's functions read it as no content: it has
-- no gap, its word is empty, and it is accepted as text is; a derivation and a run copy it.
use Rattle.std.specs.Prelude.{ℕ, zero, suc, List, [], ◌∷◌, Bool, false, ◌||◌, eqb}

-- What an attribute holds: a string, or an attribute gap. The named strings are 0 to 63, all others the numbers from 64 on.
pub data Value : Type 0 where
  string : ℕ → Value
  open_gap : ℕ → Value

pub record Attribute : Type 0 where
  pub name : ℕ
  pub value : Value

mutual
  pub data Item : Type 0 where
    text : Item
    blank : Item
    gap : ℕ → Item
    element : ℕ → ℕ → List Attribute → Items → Item

  pub data Items : Type 0 where
    none : Items
    more : Item → Items → Items

abbrev pub one : Item → Items
one i = more i none

-- Template t of a job; template 0 is empty and always there.
unfoldable pub template_at : List Items → ℕ → Items
template_at [] t = none
template_at (φ ∷ φs) zero = none
template_at (φ ∷ φs) (suc zero) = φ
template_at (φ ∷ φs) (suc (suc t)) = template_at φs (suc t)

infixr 40 ◌⋈◌
-- Two lists of items, one after the other: the Φ₁Φ₂ of section 2.
unfoldable pub ◌⋈◌ : Items → Items → Items
none ⋈ js = js
more i is ⋈ js = more i (is ⋈ js)

-- Items without blank text: none is left among them, nor in an element at any depth.
unfoldable mutual
  unfolding ◌⋈◌

  pub without_blank : Items → Items
  without_blank none = none
  without_blank (more i φ) = without_blank_item i ⋈ without_blank φ

  pub without_blank_item : Item → Items
  without_blank_item text = one text
  without_blank_item blank = none
  without_blank_item (gap g) = one (gap g)
  without_blank_item (element e mark δ φ) = one (element e mark δ (without_blank φ))

-- Section 2's gaps: the template gaps of a list of items, at any depth.
unfoldable mutual
  pub gap_in : Items → ℕ → Bool
  gap_in none g = false
  gap_in (more i φ) g = gap_in_item i g || gap_in φ g

  pub gap_in_item : Item → ℕ → Bool
  gap_in_item text g = false
  gap_in_item blank g = false
  gap_in_item (gap k) g = eqb k g
  gap_in_item (element e mark δ φ) g = gap_in φ g

abbrev pub is_open_gap : Value → ℕ → Bool
is_open_gap (string s) h = false
is_open_gap (open_gap k) h = eqb k h

unfoldable pub open_in : List Attribute → ℕ → Bool
open_in [] h = false
open_in (a ∷ δ) h = is_open_gap a.value h || open_in δ h

-- Section 2's gaps: the attribute gaps.
unfoldable mutual
  unfolding open_in

  pub attribute_gap_in : Items → ℕ → Bool
  attribute_gap_in none h = false
  attribute_gap_in (more i φ) h = attribute_gap_in_item i h || attribute_gap_in φ h

  pub attribute_gap_in_item : Item → ℕ → Bool
  attribute_gap_in_item text h = false
  attribute_gap_in_item blank h = false
  attribute_gap_in_item (gap k) h = false
  attribute_gap_in_item (element e mark δ φ) h = open_in δ h || attribute_gap_in φ h
