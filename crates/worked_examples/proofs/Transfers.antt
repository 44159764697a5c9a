-- Transfer functions by computation (source 000, section 5, as document 01, "Covering, and the language of a show", reads it): whether a
-- claim is held after a statement, where the statement is easily given too much or too little.
use Prim.Native.Nat.{ℕ}
use mathlib.Core.Path.{◌≡◌, refl}
use mathlib.Core.List.{List, [], ◌∷◌, map}
use mathlib.Core.Bool.{true, false}
use Rattle.pages.specs.Items.{open_gap, gap, element, Items, one, attribute_gap_in}
use Rattle.programs.specs.Program.{Act, copy_template, set_template, copy_string, set_string, any_string, plug, plug_string, show, template_variable, string_variable, template_at}
use Rattle.summaries.specs.Proposal.{Claim, root, edge, string, gap_from, attribute_gap_from, claim, one_string, Head}
use Rattle.summaries.specs.Proposal as Proposal
use Rattle.summaries.specs.Summaries.{Summary, Environment, transfer, same_code, entries}
use Rattle.worked_examples.proofs.Runs.{attribute}

-- Template 1 has attribute gaps 0 and 1 and gap 0, template 2 has attribute gap 0 and gap 0, template 3 is gap 3.
abbrev pub templates : List Items
templates =
    one (element 1 10 (attribute 0 (open_gap 0) ∷ attribute 1 (open_gap 1) ∷ []) (one (gap 0)))
    ∷ one (element 2 20 (attribute 0 (open_gap 0) ∷ []) (one (gap 0)))
    ∷ one (gap 3)
    ∷ []

abbrev claims : ℕ → List Claim → Head
claims x cs = record { point = 0; variable = template_variable x; holdings = map claim cs }

-- x0 is template 1 with template 2 in its gap, which has string 9 at its attribute gap; so gap 0 is open in template 2 alone, and the
-- attribute gaps in template 1 alone. x1 is template 3. y0 is string 5 or 7, y1 any string.
abbrev pub heads : List Head
heads =
    claims 0 (root 1 ∷ edge 1 0 2 ∷ string 2 0 9 ∷ gap_from 0 2 ∷ attribute_gap_from 0 1 ∷ attribute_gap_from 1 1 ∷ [])
    ∷ claims 1 (root 3 ∷ gap_from 3 3 ∷ [])
    ∷ record { point = 0; variable = string_variable 0; holdings = one_string 5 ∷ one_string 7 ∷ [] }
    ∷ record { point = 0; variable = string_variable 1; holdings = Proposal.any_string ∷ [] }
    ∷ []

abbrev after : Act → Environment
after a = transfer templates a (entries heads 0)

-- `36 00 00 00 00`: x0 with y0's string at attribute gap 0.
abbrev pub filled : Summary
filled = (after (plug_string 0 0 0 0)).template 0

-- "Adds the strings at h": those of y, each of them and no other.
pub strings_added : (filled (string 1 0 5) ≡ true) × (filled (string 1 0 7) ≡ true) × (filled (string 1 0 6) ≡ false)
unfolding entries same_code
strings_added = (refl, refl, refl)

-- "At h alone": the origin's other attribute gap gets none. The paper's formula prints every attribute gap of the origin.
pub other_gap_left : filled (string 1 1 7) ≡ false
unfolding entries same_code
other_gap_left = refl

-- "In h's origins": template 2 has attribute gap 0 too, filled before. It gets none, and keeps what it had.
pub other_template_left : (filled (string 2 0 7) ≡ false) × (filled (string 2 0 9) ≡ true)
unfolding entries same_code
other_template_left = (refl, refl)

-- "Leaves h no origin": so at a show its attribute cannot be absent. The other attribute gap stays open.
pub leaves_no_origin : (filled (attribute_gap_from 0 1) ≡ false) × (filled (attribute_gap_from 1 1) ≡ true)
unfolding entries same_code
leaves_no_origin = (refl, refl)

-- Gap 0 has h's number and is not h: its origin, and the rest of the graph, stay.
pub gap_of_same_number : (filled (gap_from 0 2) ≡ true) × (filled (edge 1 0 2) ≡ true) × (filled (root 1) ≡ true)
unfolding entries same_code
gap_of_same_number = (refl, refl, refl)

-- Any string is each string that exists, and not 0 to 63 alone.
pub any_string_added : (s : ℕ) → (after (plug_string 0 0 0 1)).template 0 (string 1 0 s) ≡ true
unfolding entries same_code
any_string_added s = refl

-- `36 01 00 00 00`: x1 is made of x0's graph; of its own nothing is left, and x0's attribute gap stays open.
pub made_of_another : ((after (plug_string 1 0 0 0)).template 1 (string 1 0 7) ≡ true)
    × ((after (plug_string 1 0 0 0)).template 1 (root 3) ≡ false)
    × ((after (plug_string 1 0 0 0)).template 0 (attribute_gap_from 0 1) ≡ true)
unfolding entries same_code
made_of_another = (refl, refl, refl)

-- `35 00 00 00 01`: x0 with x1 in gap 0. "Edges from the origins of g", and not from template 1, whose gap 0 was plugged before.
pub edges_from_origins : ((after (plug 0 0 0 1)).template 0 (edge 2 0 3) ≡ true) × ((after (plug 0 0 0 1)).template 0 (edge 1 0 3) ≡ false)
unfolding entries same_code
edges_from_origins = (refl, refl)

-- "Joins the graphs" but for the roots, and "takes g's origins from the value plugged in alone": x1 has no gap 0.
pub joined : ((after (plug 0 0 0 1)).template 0 (gap_from 3 3) ≡ true) × ((after (plug 0 0 0 1)).template 0 (root 3) ≡ false)
    × ((after (plug 0 0 0 1)).template 0 (gap_from 0 2) ≡ false)
unfolding entries same_code
joined = (refl, refl, refl)

-- `35 00 00 00 00`: x0 in itself. The gap 0 that comes with it is open, so its origin is one again.
pub origin_of_new : ((after (plug 0 0 0 0)).template 0 (edge 2 0 1) ≡ true) × ((after (plug 0 0 0 0)).template 0 (gap_from 0 2) ≡ true)
unfolding entries same_code
origin_of_new = (refl, refl)

-- `31 00 02`: the gaps of template 2, all of them open, and nothing of what x0 was.
pub template_alone : ((after (set_template 0 2)).template 0 (attribute_gap_from 0 2) ≡ true)
    × ((after (set_template 0 2)).template 0 (attribute_gap_from 1 2) ≡ false)
    × ((after (set_template 0 2)).template 0 (string 2 0 9) ≡ false)
unfolding entries same_code template_at attribute_gap_in
template_alone = (refl, refl, refl)

-- `30 01 00`, `32 00 01`: the variable named second is copied, not the one named first.
pub copied : ((after (copy_template 1 0)).template 1 (string 2 0 9) ≡ true) × ((after (copy_template 1 0)).template 1 (root 3) ≡ false)
    × ((after (copy_string 0 1)).string 0 1000 ≡ true)
unfolding entries same_code
copied = (refl, refl, refl)

-- `33 01 09` and `34 00` set y: any string becomes one, one becomes any.
pub string_set : ((after (set_string 1 9)).string 1 9 ≡ true) × ((after (set_string 1 9)).string 1 8 ≡ false)
    × ((after (any_string 0)).string 0 1000 ≡ true)
string_set = (refl, refl, refl)

-- `37 00`: a show closes the page and not the variable: no string comes to an attribute gap, and no origin goes.
pub show_leaves : ((after (show 0)).template 0 (string 1 0 0) ≡ false) × ((after (show 0)).template 0 (attribute_gap_from 0 1) ≡ true)
unfolding entries same_code
show_leaves = (refl, refl)
