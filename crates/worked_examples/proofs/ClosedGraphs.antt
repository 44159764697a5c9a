-- Closed graphs by computation (source 000, section 5, close, as document 01, "Covering, and the language of a show", reads it): "At a
-- show, each origin of g also gets an edge to template 0"; document 02, F-5: "An origin of h at a show then allows absence in place of
-- string 0."
use mathlib.Core.Path.{◌≡◌, refl}
use mathlib.Core.List.{List, [], ◌∷◌}
use mathlib.Core.Bool.{true, false}
use mathlib.Core.Option.{some, none}
use Rattle.programs.specs.Program.{show, Statement, step, stop, statement_at}
use Rattle.summaries.specs.Proposal.{root, edge, string, attribute_gap_from, claim, any_at}
use Rattle.summaries.specs.Summaries.{Summary, same_code, says_claim, held, entries}
use Rattle.summaries.specs.Languages.{closed_summary, takes, graph_shown}
use Rattle.worked_examples.proofs.Transfers.{templates, heads, filled}

-- The closed graph of x0: gap 0 is open in template 2, attribute gaps 0 and 1 in template 1.
abbrev graph : Summary
graph = closed_summary ((entries heads 0).template 0)

abbrev program : List Statement
program = step (show 0) 1 1 ∷ stop ∷ []

-- A point shows the variable's entry there, closed; a point with no show shows nothing.
pub shown_closed : (graph_shown templates program (entries heads) 0 ≡ some graph) × (graph_shown templates program (entries heads) 1 ≡ none)
unfolding graph_shown statement_at
shown_closed = (refl, refl)

-- Each open attribute gap of the origin allows absence, and no string: not string 0.
pub absence_allowed : (takes graph 1 0 none ≡ true) × (takes graph 1 1 none ≡ true) × (takes graph 1 0 (some 0) ≡ false) × (takes graph 1 0 (some 5) ≡ false)
unfolding entries same_code
absence_allowed = (refl, refl, refl, refl)

-- String 0 counts where the summary holds it, beside absence.
abbrev pub holding_empty : Summary
holding_empty = closed_summary (held says_claim (claim (string 1 0 0) ∷ claim (attribute_gap_from 0 1) ∷ []))

pub empty_string_held : (takes holding_empty 1 0 (some 0) ≡ true) × (takes holding_empty 1 0 none ≡ true)
unfolding held same_code
empty_string_held = (refl, refl)

-- Any string, and absence.
abbrev holding_any : Summary
holding_any = closed_summary (held says_claim (any_at 1 0 ∷ claim (attribute_gap_from 0 1) ∷ []))

pub any_or_absent : (takes holding_any 1 0 (some 1000) ≡ true) × (takes holding_any 1 0 none ≡ true)
unfolding held same_code
any_or_absent = (refl, refl)

-- Template 2 has attribute gap 0 too, but is no origin of it: it keeps string 9, and may not be absent.
pub filled_gap_left : (takes graph 2 0 none ≡ false) × (takes graph 2 0 (some 9) ≡ true)
unfolding entries same_code
filled_gap_left = (refl, refl)

-- After `36` attribute gap 0 has no origin, so y's strings are all that it takes; attribute gap 1 is open still, and allows absence.
pub closed_after_plug : (takes (closed_summary filled) 1 0 none ≡ false) × (takes (closed_summary filled) 1 0 (some 7) ≡ true)
    × (takes (closed_summary filled) 1 1 none ≡ true)
unfolding entries same_code
closed_after_plug = (refl, refl, refl)

-- The origin of gap 0 gets an edge to template 0. Template 1 has a gap 0 that is no longer open: it may not stay empty.
pub edge_to_empty : (graph (edge 2 0 0) ≡ true) × (graph (edge 1 0 0) ≡ false) × (graph (edge 1 0 2) ≡ true)
unfolding entries same_code
edge_to_empty = (refl, refl, refl)

-- A gap and an attribute gap with no origin get nothing, and template 0 does not become a root.
pub without_origin : (graph (edge 2 3 0) ≡ false) × (takes graph 1 2 none ≡ false) × (graph (root 0) ≡ false)
unfolding entries same_code
without_origin = (refl, refl, refl)
