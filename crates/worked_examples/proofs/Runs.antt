-- Runs by computation (document 01, "A run"; document 02, F-5): each example is a sentence of them where a run is easily written otherwise.
use Prim.Native.Nat.{ℕ}
use mathlib.Core.Path.{◌≡◌, refl}
use mathlib.Core.List.{List, [], ◌∷◌}
use mathlib.Core.Bool.{true, false}
use Rattle.pages.specs.Items.{Value, string, open_gap, Attribute, text, gap, element, Items, none, more, one}
use Rattle.programs.specs.Program.{set_template, set_string, any_string, plug, plug_string, show, Statement, step, stop, statement_at, template_at}
use Rattle.programs.specs.Runs.{Choice, start, plugged, plugged_string, closed, run_from, shown}

-- A choice of the first next point; of the second; of the first with a string.
abbrev pub first : Choice
first = record { second = false; string = 0 }

abbrev pub second : Choice
second = record { second = true; string = 0 }

abbrev pub choosing : ℕ → Choice
choosing s = record { second = false; string = s }

abbrev pub attribute : ℕ → Value → Attribute
attribute a v = record { name = a; value = v }

-- Element 1 around text and other items; gap 0 and text; element 2 with attribute 0 as in the element 3 in it, and attribute 1.
abbrev frame : Items → Items
frame φ = one (element 1 10 [] (more text φ))

abbrev row : Items
row = more (gap 0) (one text)

abbrev card_with : List Attribute → List Attribute → Items → Items
card_with δ ε φ = one (element 2 20 δ (more (element 3 30 ε none) φ))

abbrev card : Value → Value → Items → Items
card v w φ = card_with (attribute 0 v ∷ attribute 1 w ∷ []) (attribute 0 v ∷ []) φ

-- Template 3 has attribute gap 0 at two depths, attribute gap 1, and gap 0.
abbrev open_card : Items
open_card = card (open_gap 0) (open_gap 1) (one (gap 0))

abbrev templates : List Items
templates = frame (one (gap 0)) ∷ row ∷ open_card ∷ []

-- A template variable after the choices.
abbrev value : List Statement → List Choice → ℕ → Items
value program cs x = (run_from templates program start cs).template x

abbrev pages : List Statement → List Choice → List Items
pages program cs = shown templates program cs

abbrev into_itself : List Statement
into_itself = step (set_template 0 1) 1 1 ∷ step (plug 0 0 0 0) 1 1 ∷ []

-- x = x' = x": "both values as before the step". The gap of the frame plugged in stays; a plug that goes on into it does not end.
pub plugged_once : value into_itself (first ∷ first ∷ []) 0 ≡ frame (frame (one (gap 0)))
unfolding run_from statement_at template_at plugged
plugged_once = refl

-- Each choice works "on what the step before left": two frames into two, not one more.
pub plugged_again : value into_itself (first ∷ first ∷ first ∷ []) 0 ≡ frame (frame (frame (frame (one (gap 0)))))
unfolding run_from statement_at template_at plugged
plugged_again = refl

abbrev plugging : List Statement
plugging = step (set_template 0 1) 1 1 ∷ step (set_template 1 2) 2 2 ∷ step (plug 2 0 0 1) 3 3 ∷ step (plug 3 0 1 1) 4 4 ∷ stop ∷ []

-- "Gaps inside those items stay open, g too": gap 0 is in x" as well. To close it, or to fill it with text, is wrong.
pub gap_of_new_stays : value plugging (first ∷ first ∷ first ∷ []) 2 ≡ frame row
unfolding run_from statement_at template_at plugged
gap_of_new_stays = refl

-- "All other variables stay": a plug does not use up x' or x".
pub plugged_from_stay : (value plugging (first ∷ first ∷ first ∷ []) 0 ≡ frame (one (gap 0)))
    × (value plugging (first ∷ first ∷ first ∷ []) 1 ≡ row)
unfolding run_from statement_at template_at plugged
plugged_from_stay = (refl, refl)

-- "An absent gap leaves the value as it was": x becomes x', not nothing, and not its own old value.
pub absent_gap : value plugging (first ∷ first ∷ first ∷ first ∷ []) 3 ≡ frame (one (gap 0))
unfolding run_from statement_at template_at plugged
absent_gap = refl

abbrev filling : List Statement
filling = step (set_template 0 3) 1 1 ∷ step (set_string 0 7) 2 2 ∷ step (plug_string 1 0 0 0) 3 3 ∷ stop ∷ []

-- `36`: "y's string at each attribute gap h, at any depth". Attribute gap 1 and gap 0, which has h's number, stay.
pub filled_at_any_depth : value filling (first ∷ first ∷ first ∷ []) 1 ≡ card (string 7) (open_gap 1) (one (gap 0))
unfolding run_from statement_at template_at plugged_string
filled_at_any_depth = refl

-- The choice's string is "used at `34` alone": `33` and `36` do not look at it.
pub string_not_used : value filling (choosing 64 ∷ choosing 64 ∷ choosing 64 ∷ []) 1 ≡ card (string 7) (open_gap 1) (one (gap 0))
unfolding run_from statement_at template_at plugged_string
string_not_used = refl

abbrev filling_empty : List Statement
filling_empty = step (set_template 0 3) 1 1 ∷ step (plug_string 0 0 0 0) 2 2 ∷ step (show 0) 3 3 ∷ stop ∷ []

-- A gap that a run fills with string 0 is filled: its attribute stays. Only attribute 1, whose gap is still open, goes.
pub filled_with_empty : pages filling_empty (first ∷ first ∷ first ∷ []) ≡ card_with (attribute 0 (string 0) ∷ []) (attribute 0 (string 0) ∷ []) none ∷ []
unfolding shown statement_at template_at plugged_string closed
filled_with_empty = refl

abbrev any : List Statement
any = step (set_template 0 3) 1 1 ∷ step (any_string 0) 2 2 ∷ step (plug_string 0 0 0 0) 3 3 ∷ step (show 0) 4 4 ∷ stop ∷ []

-- "A string out of all that exist": 1,000 is none of the strings 0 to 63, and is not taken for another string outside them. Attribute 1,
-- whose gap is still open, is not in the page (document 02, F-5).
pub string_outside : pages any (first ∷ choosing 1000 ∷ first ∷ first ∷ []) ≡ card_with (attribute 0 (string 1000) ∷ []) (attribute 0 (string 1000) ∷ []) none ∷ []
unfolding shown statement_at template_at plugged_string closed
string_outside = refl

abbrev branching : List Statement
branching = step (set_template 0 1) 1 2 ∷ step (show 0) 2 2 ∷ stop ∷ []

-- "The first or second next point": the second choice goes past the show, though it does the statement of point 0 all the same.
pub second_chosen : (pages branching (first ∷ first ∷ []) ≡ frame none ∷ []) × (pages branching (second ∷ first ∷ []) ≡ [])
    × (value branching (second ∷ []) 0 ≡ frame (one (gap 0)))
unfolding shown statement_at template_at closed
second_chosen = (refl, refl, refl)

abbrev showing_twice : List Statement
showing_twice =
    step (set_template 0 3) 1 1
    ∷ step (set_template 1 1) 2 2
    ∷ step (show 0) 3 3
    ∷ step (plug 0 0 0 1) 4 4
    ∷ step (show 0) 5 5
    ∷ stop
    ∷ []

-- "The variable itself keeps its gaps": what is shown with nothing in gap 0 can be plugged after, and is shown with a frame there.
-- Gaps that came with the frame are closed as well; each open attribute gap takes its attribute away, at any depth (document 02, F-5).
pub shown_and_plugged : pages showing_twice (first ∷ first ∷ first ∷ first ∷ first ∷ []) ≡ card_with [] [] none ∷ card_with [] [] (frame none) ∷ []
unfolding shown statement_at template_at plugged closed
shown_and_plugged = refl

-- "The variable itself keeps its gaps": right after the first show all its gaps are open, attribute gaps too; no variable is what was shown.
pub shown_keeps_gaps : value showing_twice (first ∷ first ∷ first ∷ []) 0 ≡ open_card
unfolding run_from statement_at template_at
shown_keeps_gaps = refl

-- "At `38` a choice changes nothing": neither by its string nor by its next point, and the statement written after it is not done.
pub stopped : run_from templates (stop ∷ step (show 0) 1 1 ∷ []) start (choosing 9 ∷ second ∷ []) ≡ start
unfolding run_from statement_at
stopped = refl
