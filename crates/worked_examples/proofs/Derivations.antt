-- Derivations with attributes, and pages that are not derived (source 000, section 3, as document 01, "Covering, and the language of a
-- show", reads it): "from a root, each gap occurrence takes one edge's template, each attribute gap one string, each occurrence by
-- itself, until none is left"; document 02, F-5: absence in place of string 0.
use Prim.Native.Nat.{ℕ}
use mathlib.Core.Path.{◌≡◌, refl, sym, ◌∙◌}
use mathlib.Core.List.{List, [], ◌∷◌}
use mathlib.Core.Bool.{Bool, true, false, and-false, false≢true}
use borrow.Author.Tests.{eqb-true}
use lib.Dec.{eqb}
use Rattle.pages.specs.Items.{string, open_gap, Attribute, Item, text, blank, gap, element, Items, none, more, one, ◌⋈◌}
use Rattle.programs.specs.Program.{template_at}
use Rattle.summaries.specs.Proposal.{root, edge, gap_from, attribute_gap_from, claim, any_at}
use Rattle.summaries.specs.Proposal as Proposal
use Rattle.summaries.specs.Summaries.{Summary, same_code, says_claim, held}
use Rattle.summaries.specs.Languages.{closed_summary, AttributesDerive, no_attribute, fixed, filled, dropped, Derives, ItemDerives, nothing, item_then, text_stays, blank_stays, gap_filled, element_keeps, Language}
use Rattle.worked_examples.proofs.Runs.{attribute}
use Rattle.worked_examples.proofs.ClosedGraphs.{holding_empty}

-- Template 1 has a fixed string, attribute gap 0 twice and gap 0 twice; template 2 has attribute gap 0; template 3 is gap 1.
abbrev outer : List Attribute → Items → Items
outer δ φ = one (element 1 10 δ φ)

abbrev inner : List Attribute → Items
inner δ = one (element 2 20 δ (one text))

abbrev outer_attributes : List Attribute
outer_attributes = attribute 0 (string 7) ∷ attribute 1 (open_gap 0) ∷ attribute 2 (open_gap 0) ∷ []

abbrev templates : List Items
templates = outer outer_attributes (more (gap 0) (one (gap 0))) ∷ inner (attribute 0 (open_gap 0) ∷ []) ∷ one (gap 1) ∷ []

-- Roots 1 and 3; template 2 in gap 0 of template 1, where it may also stay open; string 5 at the attribute gaps of template 1, where they
-- may also stay open; any string at that of template 2. Closed.
abbrev graph : Summary
graph = closed_summary (held says_claim (
    claim (root 1)
    ∷ claim (root 3)
    ∷ claim (edge 1 0 2)
    ∷ claim (Proposal.string 1 0 5)
    ∷ any_at 2 0
    ∷ claim (gap_from 0 1)
    ∷ claim (attribute_gap_from 0 1)
    ∷ []))

-- At template n, δ ⇒ δ'.
abbrev Attributes : ℕ → List Attribute → List Attribute → Type 0
Attributes n δ δ' = AttributesDerive templates graph n δ δ'

-- A fixed string stays as it is, and no other comes of it, nor is it left out: it has no gap to be open.
pub fixed_stays : {δ : List Attribute} → Attributes 1 (attribute 0 (string 7) ∷ []) δ → δ ≡ attribute 0 (string 7) ∷ []
fixed_stays (fixed no_attribute) = refl

-- "Each occurrence by itself": of two attributes with one h, one takes string 5, the other is absent; or the other way; or both are
-- absent. To choose once for h is wrong.
pub each_by_itself : Attributes 1 outer_attributes (attribute 0 (string 7) ∷ attribute 1 (string 5) ∷ [])
unfolding held same_code
each_by_itself = fixed (filled 5 refl (dropped refl no_attribute))

pub the_other_way : Attributes 1 outer_attributes (attribute 0 (string 7) ∷ attribute 2 (string 5) ∷ [])
unfolding held same_code
the_other_way = fixed (dropped refl (filled 5 refl no_attribute))

pub both_absent : Attributes 1 outer_attributes (attribute 0 (string 7) ∷ [])
unfolding held same_code
both_absent = fixed (dropped refl (dropped refl no_attribute))

-- Of no attribute comes none.
none_of_none : {n : ℕ} {a : Attribute} {δ : List Attribute} → Attributes n [] (a ∷ δ) → ⊥
none_of_none = elim [ ]

-- String 0 is not taken: the summary does not hold it there. Where it does, it is.
pub not_empty_string : Attributes 1 (attribute 0 (open_gap 0) ∷ []) (attribute 0 (string 0) ∷ []) → ⊥
unfolding held same_code
not_empty_string (filled s e d) = false≢true e
not_empty_string (dropped e d) = none_of_none d

pub empty_string_taken : AttributesDerive templates holding_empty 1 (attribute 0 (open_gap 0) ∷ []) (attribute 0 (string 0) ∷ [])
unfolding held same_code
empty_string_taken = filled 0 refl no_attribute

-- A string is held at a template and its gap: what template 2 may take at attribute gap 0, template 1 may not.
pub other_template : Attributes 2 (attribute 0 (open_gap 0) ∷ []) (attribute 0 (string 1000) ∷ [])
unfolding held same_code
other_template = filled 1000 refl no_attribute

pub not_taken : Attributes 1 (attribute 0 (open_gap 0) ∷ []) (attribute 0 (string 1000) ∷ []) → ⊥
unfolding held same_code
not_taken (filled s e d) = false≢true e
not_taken (dropped e d) = none_of_none d

-- Template 2 is no origin of attribute gap 0: there the attribute is not left out. Nowhere is its gap left open.
pub not_left_out : Attributes 2 (attribute 0 (open_gap 0) ∷ []) [] → ⊥
unfolding held same_code
not_left_out (dropped e d) = false≢true e

pub not_left_open : Attributes 1 (attribute 0 (open_gap 0) ∷ []) (attribute 0 (open_gap 0) ∷ []) → ⊥
not_left_open (dropped e d) = none_of_none d

-- An element in a gap derives from its own template: at template 2 attribute gap 0 takes any string, one outside 0 to 63 too.
pub element_taken : ItemDerives templates graph 1 (gap 0) (inner (attribute 0 (string 64) ∷ []))
unfolding template_at held same_code ◌⋈◌
element_taken = gap_filled 2 refl (item_then (element_keeps (filled 64 refl no_attribute) (item_then text_stays nothing refl)) nothing refl)

-- A gap that may stay open takes template 0, which is empty.
pub nothing_taken : ItemDerives templates graph 1 (gap 0) none
unfolding template_at held same_code
nothing_taken = gap_filled 0 refl nothing

-- A whole page of root 1: of two occurrences of gap 0, each by itself, one takes template 2 and the other nothing.
pub page_derived : Language templates graph
    (outer (attribute 0 (string 7) ∷ attribute 1 (string 5) ∷ []) (inner (attribute 0 (string 64) ∷ [])))
unfolding template_at held same_code ◌⋈◌
page_derived =
    (1, (refl, item_then (element_keeps each_by_itself (item_then element_taken (item_then nothing_taken nothing refl) refl)) nothing refl))

-- "What … has no edge yields no page": root 3 has none for its gap, which is open nowhere. It is not an empty page.
pub no_edge : (page : Items) → Derives templates graph 3 (one (gap 1)) page → ⊥
unfolding held same_code
no_edge page (item_then (gap_filled m e d) ds w) = false≢true (sym (and-false (eqb m 0)) ∙ e)

-- "What never ends … yields no page": template 1 is a gap, and every gap takes template 1.
abbrev circle : List Items
circle = one (gap 0) ∷ []

abbrev around : Summary
around (root n) = eqb n 1
around (edge n g m) = eqb m 1
around (Proposal.string n h s) = false
around (gap_from g n) = false
around (attribute_gap_from h n) = false

abbrev is_gap : Item → Bool
is_gap text = false
is_gap blank = false
is_gap (gap g) = true
is_gap (element e mark δ φ) = false

abbrev begins_with_gap : Items → Bool
begins_with_gap none = false
begins_with_gap (more i φ) = is_gap i

-- So what begins with a gap yields no page, and no page at all comes of the root.
mutual
  unfolding template_at

  pub never_ends : {n : ℕ} {φ page : Items} → Derives circle around n φ page → begins_with_gap φ ≡ true → ⊥
  never_ends nothing b = false≢true b
  never_ends (item_then d ds w) b = gap_never_ends d b

  gap_never_ends : {n : ℕ} {i : Item} {page : Items} → ItemDerives circle around n i page → is_gap i ≡ true → ⊥
  gap_never_ends text_stays b = false≢true b
  gap_never_ends blank_stays b = false≢true b
  gap_never_ends (gap_filled m e d) b = never_ends d (rw (eqb-true m 1 e) refl)
  gap_never_ends (element_keeps δ d) b = false≢true b

pub no_page : (page : Items) → Language circle around page → ⊥
unfolding template_at
no_page page (r, (e, d)) = never_ends d (rw (eqb-true r 1 e) refl)
