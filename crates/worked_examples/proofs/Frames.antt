-- Framed shows by computation (document 02, F-3): `39 x t g p q` "shows template t with all its gaps g replaced by x, x unchanged", in
-- runs, in summaries, and read from bytes.
use Prim.Native.Nat.{ℕ}
use native.Mathlib.Omega.{arith}
use mathlib.Core.Path.{◌≡◌, refl}
use mathlib.Core.List.{List, [], ◌∷◌}
use mathlib.Core.Bool.{true, false}
use mathlib.Core.Option.{some}
use mathlib.Core.Option as Option
use lib.ListN.{take}
use Rattle.verdicts.specs.declared.Form.TheVariants.{Ended, NotAllowed, OutOfRange, Missing}
use Rattle.commands.specs.Commands.{command}
use Rattle.commands.specs.Reading.{whole}
use Rattle.vocabularies.specs.Vocabulary.{rule_of}
use Rattle.vocabularies.specs.Facts.{with_facts}
use Rattle.pages.specs.Items.{open_gap, Attribute, text, gap, element, Items, none, more, one, ◌⋈◌, gap_in, attribute_gap_in}
use Rattle.programs.specs.Program.{set_template, any_string, show_framed, Statement, step, stop, template_variable, string_variable, named, statement_at, template_at}
use Rattle.programs.specs.ProgramReading.{statement_of}
use Rattle.programs.specs.Runs.{Choice, State, start, plugged, closed, run_from, shown}
use Rattle.summaries.specs.Proposal.{root, edge, gap_from, attribute_gap_from}
use Rattle.summaries.specs.Proposal as Proposal
use Rattle.summaries.specs.Summaries.{Summary, Environment, fragment, plug_summary, transfer, same_code, held, under, entries}
use Rattle.summaries.specs.Languages.{closed_summary, takes, graph_shown, LanguageAt, nothing, item_then, text_stays, gap_filled, element_keeps, no_attribute}
use Rattle.jobs.specs.Job.{Script, Job, job}
use Rattle.jobs.specs.JobVerdict.{AllCovered}
use Rattle.worked_examples.specs.FramedJob.{framed_job}
use Rattle.worked_examples.proofs.ReadingAttributes.{Unreadable, edited, AllRefused}
use Rattle.worked_examples.proofs.ReadingJ1.{head, j1_job}
use Rattle.worked_examples.proofs.RunningJ1.{page}
use Rattle.worked_examples.proofs.Runs.{attribute, first, second, choosing}
use Rattle.worked_examples.proofs.Transfers as Transfers

-- Element 1 around items and element 2, which has the same items, others before them, and attributes.
abbrev around : Items → Items → List Attribute → Items
around φ ψ δ = one (element 1 10 [] (φ ⋈ one (element 2 20 δ (ψ ⋈ φ))))

-- Template 1 has gap 0 at two depths, gap 1, and attribute gap 0; template 2 has a gap 0 too.
abbrev templates : List Items
templates = around (one (gap 0)) (one (gap 1)) (attribute 0 (open_gap 0) ∷ []) ∷ more text (one (gap 0)) ∷ []

abbrev framing : List Statement
framing =
    step (set_template 0 2) 1 1
    ∷ step (any_string 0) 2 2
    ∷ step (show_framed 0 1 0) 3 5
    ∷ step (show_framed 0 1 7) 4 4
    ∷ step (show_framed 0 0 0) 5 5
    ∷ stop
    ∷ []

abbrev framed_shown : Items
framed_shown = around (one text) none []

-- "All its gaps g", at any depth. The gap 0 that came with x0 is not filled with x0 again: it is closed, as gap 1 is, and attribute gap 0,
-- with which its attribute goes (document 02, F-5).
pub shows_framed : shown templates framing (first ∷ choosing 7 ∷ first ∷ []) ≡ framed_shown ∷ []
unfolding shown statement_at template_at plugged closed ◌⋈◌
shows_framed = refl

abbrev ran : List Choice → State
ran cs = run_from templates framing start cs

-- "x unchanged", its gap still open; every other variable is unchanged too, though the choice brings string 8. Then the point is p or q.
pub framed_leaves : ((ran (first ∷ choosing 7 ∷ first ∷ [])).template 0 ≡ more text (one (gap 0)))
    × ((ran (first ∷ choosing 7 ∷ choosing 8 ∷ [])).string 0 ≡ 7)
    × ((ran (first ∷ choosing 7 ∷ first ∷ [])).template ≡ (ran (first ∷ choosing 7 ∷ [])).template)
    × ((ran (first ∷ choosing 7 ∷ choosing 8 ∷ [])).string ≡ (ran (first ∷ choosing 7 ∷ [])).string)
    × ((ran (first ∷ choosing 7 ∷ first ∷ [])).point ≡ 3)
    × ((ran (first ∷ choosing 7 ∷ second ∷ [])).point ≡ 5)
unfolding run_from statement_at template_at
framed_leaves = (refl, refl, refl, refl, refl, refl)

-- "If t has no gap g, a run shows t alone", closed; template 0 has nothing in it, so the page is empty.
pub alone_without_gap : shown templates framing (first ∷ choosing 7 ∷ first ∷ first ∷ first ∷ []) ≡ framed_shown ∷ around none none [] ∷ none ∷ []
unfolding shown statement_at template_at plugged closed ◌⋈◌
alone_without_gap = refl

-- "Covering is as for a show": no entry changes, neither x's nor another.
pub covering_leaves : (φs : List Items) (x t g : ℕ) (E : Environment) → transfer φs (show_framed x t g) E ≡ E
covering_leaves φs x t g E = refl

-- The summary that `39 x t g` shows where the entries are those of `Transfers`: x0 is template 1, its attribute gaps open, with template 2 in
-- its gap 0; of template 2 gap 0 is open, and attribute gap 0 has string 9; x1 is template 3, which is gap 3.
abbrev framed : ℕ → ℕ → ℕ → Summary
framed x t g = plug_summary g (fragment t (template_at Transfers.templates t)) ((entries Transfers.heads 0).template x)

-- A point shows it closed.
pub shown_closed : graph_shown Transfers.templates (step (show_framed 1 2 0) 1 1 ∷ stop ∷ []) (entries Transfers.heads) 0 ≡ some (closed_summary (framed 1 2 0))
unfolding graph_shown statement_at
shown_closed = refl

-- `39 01 01 00`: the root is the frame's alone; an edge goes from its gap 0 to x's root.
pub frame_is_root : (framed 1 1 0 (root 1) ≡ true) × (framed 1 1 0 (root 3) ≡ false) × (framed 1 1 0 (edge 1 0 3) ≡ true)
unfolding entries same_code template_at gap_in
frame_is_root = (refl, refl, refl)

-- g's origins are x's alone, and x1 has none, so gap 0 of template 1 may not stay empty; other gaps have the origins of both.
pub origins : (framed 1 1 0 (gap_from 0 1) ≡ false) × (closed_summary (framed 1 1 0) (edge 1 0 0) ≡ false) × (framed 1 1 0 (gap_from 3 3) ≡ true)
    × (framed 1 1 0 (attribute_gap_from 1 1) ≡ true)
unfolding entries same_code template_at gap_in attribute_gap_in
origins = (refl, refl, refl, refl)

-- `39 00 03 03`: x0's edges, strings and origins come with it.
pub joined : (framed 0 3 3 (edge 3 3 1) ≡ true) × (framed 0 3 3 (edge 1 0 2) ≡ true) × (framed 0 3 3 (Proposal.string 2 0 9) ≡ true)
    × (framed 0 3 3 (gap_from 0 2) ≡ true) × (framed 0 3 3 (attribute_gap_from 0 1) ≡ true)
unfolding entries same_code template_at gap_in attribute_gap_in
joined = (refl, refl, refl, refl, refl)

-- `39 00 01 00`: closed, x's origin of g gets an edge to template 0, and the frame, whose gap 0 x0 fills, does not; template 1 is the
-- root that is plugged in, too.
pub origin_closed : (closed_summary (framed 0 1 0) (edge 2 0 0) ≡ true) × (closed_summary (framed 0 1 0) (edge 1 0 0) ≡ false)
    × (framed 0 1 0 (edge 1 0 1) ≡ true) × (framed 0 1 0 (edge 1 0 2) ≡ true)
unfolding entries same_code template_at gap_in
origin_closed = (refl, refl, refl, refl)

-- `39 00 02 00`: template 2 stands in x0's graph as well, and is one node. The origin of gap 0 that x0 has there stays, beside the edge
-- to x0's root; attribute gap 0, which has string 9 in x0, is open in the frame: closed, it takes that string or is absent.
pub one_node : (framed 0 2 0 (gap_from 0 2) ≡ true) × (framed 0 2 0 (edge 2 0 1) ≡ true) × (closed_summary (framed 0 2 0) (edge 2 0 0) ≡ true)
    × (framed 0 2 0 (root 1) ≡ false) × (takes (closed_summary (framed 0 2 0)) 2 0 Option.none ≡ true) × (takes (closed_summary (framed 0 2 0)) 2 0 (some 9) ≡ true)
unfolding entries same_code template_at gap_in attribute_gap_in
one_node = (refl, refl, refl, refl, refl, refl)

-- `39 00 03 00`: template 3 has no gap 0, so no edge goes to x0's root, neither from there nor from its gap 3, which stays open; the graphs
-- join all the same. `39 01 00 03`: template 0 has no gap at all.
pub no_edge_without_gap : (framed 0 3 0 (edge 3 0 1) ≡ false) × (framed 0 3 0 (edge 3 3 1) ≡ false) × (framed 0 3 0 (gap_from 3 3) ≡ true)
    × (framed 0 3 0 (edge 1 0 2) ≡ true) × (framed 1 0 3 (root 0) ≡ true) × (framed 1 0 3 (edge 0 3 3) ≡ false)
unfolding entries same_code template_at gap_in
no_edge_without_gap = (refl, refl, refl, refl, refl, refl)

-- `39 01 02 03` names x1, and neither template 2 nor gap 3 as a variable; nor string variable 1.
pub names_one : (named (step (show_framed 1 2 3) 0 0 ∷ []) (template_variable 1) ≡ true) × (named (step (show_framed 1 2 3) 0 0 ∷ []) (template_variable 2) ≡ false)
    × (named (step (show_framed 1 2 3) 0 0 ∷ []) (template_variable 3) ≡ false)
    × (named (step (show_framed 1 2 3) 0 0 ∷ []) (string_variable 1) ≡ false)
unfolding named
names_one = (refl, refl, refl, refl)

abbrev framed_once : Script
framed_once = record {
  vocabulary = j1_job.script.vocabulary;
  templates = j1_job.script.templates;
  program = step (show_framed 2 1 0) 1 1 ∷ stop ∷ [];
}

-- So x is looked at: whatever covers holds the empty value of the start, behind the framed show too.
pub framed_counts : (F : ℕ → Environment) → AllCovered framed_once F → (F 1).template 2 (root 0) ≡ true
unfolding statement_at named
framed_counts F c = c.steps 0 false 2 (omega arith) refl (root 0) (c.start 2 (omega arith) refl (root 0) refl)

abbrev framed_tree : Job
framed_tree = record {
  script = record {
    vocabulary = j1_job.script.vocabulary;
    templates = j1_job.script.templates;
    program = step (set_template 0 1) 1 1 ∷ step (set_template 1 2) 2 2 ∷ step (show_framed 1 1 0) 3 3 ∷ stop ∷ [];
  };
  proposal =
      head 0 0 (root 0 ∷ [])
      ∷ head 0 1 (root 0 ∷ [])
      ∷ head 1 0 (root 1 ∷ gap_from 0 1 ∷ [])
      ∷ head 1 1 (root 0 ∷ [])
      ∷ head 2 0 (root 1 ∷ gap_from 0 1 ∷ [])
      ∷ head 2 1 (root 2 ∷ [])
      ∷ head 3 0 (root 1 ∷ gap_from 0 1 ∷ [])
      ∷ head 3 1 (root 2 ∷ [])
      ∷ [];
}

-- Operands in the order of the bytes: variable, template, gap, next points.
pub operands : statement_of 0x39 (λ i. i) ≡ step (show_framed 1 2 3) 4 5
operands = refl

-- The job as a tree.
pub reads : job framed_job ≡ whole framed_tree 101
unfolding job command rule_of with_facts
reads = refl

-- Its run shows J1's page, and its language has it.
pub shows : shown framed_tree.script.templates framed_tree.script.program (first ∷ first ∷ first ∷ []) ≡ page ∷ []
unfolding shown statement_at template_at closed plugged
shows = refl

abbrev graph : Summary
graph = closed_summary (plug_summary 0 (fragment 1 (template_at framed_tree.script.templates 1)) ((entries framed_tree.proposal 2).template 1))

graph_shown_lem : graph_shown framed_tree.script.templates framed_tree.script.program (entries framed_tree.proposal) 2 ≡ some graph
unfolding graph_shown statement_at
graph_shown_lem = refl

pub stands : LanguageAt framed_tree.script.templates framed_tree.script.program (entries framed_tree.proposal) 2 page
unfolding template_at entries held under same_code gap_in ◌⋈◌
stands = (
  graph,
  graph_shown_lem,
  (
    1,
    (
      refl,
      item_then (element_keeps no_attribute
          (item_then (gap_filled 2 refl (item_then (element_keeps no_attribute (item_then text_stays nothing refl)) nothing refl)) nothing refl))
          nothing refl,
    ),
  ),
)

-- Its `39` stands at 43.
abbrev variants : List Unreadable
variants =
    -- Variable 4, and gap 8.
    record { bytes = edited 44 1 (0x04 ∷ []) framed_job; form = OutOfRange; at = 43 }
    ∷ record { bytes = edited 46 1 (0x08 ∷ []) framed_job; form = OutOfRange; at = 43 }
    -- Template 3 is not there; with gap 8 behind it, 4 before 8.
    ∷ record { bytes = edited 45 1 (0x03 ∷ []) framed_job; form = Missing; at = 43 }
    ∷ record { bytes = edited 45 2 (0x03 ∷ 0x08 ∷ []) framed_job; form = OutOfRange; at = 43 }
    -- Point 4 is not there, as p and as q; it is tested at `3F`, so a job that ends before that gives 2.
    ∷ record { bytes = edited 47 1 (0x04 ∷ []) framed_job; form = Missing; at = 43 }
    ∷ record { bytes = edited 48 1 (0x04 ∷ []) framed_job; form = Missing; at = 43 }
    ∷ record { bytes = take 50 (edited 47 1 (0x04 ∷ []) framed_job); form = Ended; at = 50 }
    -- Cut before q; with variable 4 too, 2 before 4.
    ∷ record { bytes = take 48 framed_job; form = Ended; at = 43 }
    ∷ record { bytes = take 48 (edited 44 1 (0x04 ∷ []) framed_job); form = Ended; at = 43 }
    -- `3A` is no statement; nor does `39` stand after `3F`.
    ∷ record { bytes = edited 43 1 (0x3A ∷ []) framed_job; form = NotAllowed; at = 43 }
    ∷ record { bytes = edited 51 1 (0x39 ∷ []) framed_job; form = NotAllowed; at = 51 }
    ∷ []

pub refusals : AllRefused variants
unfolding job command rule_of with_facts
refusals = (refl, (refl, (refl, (refl, (refl, (refl, (refl, (refl, (refl, (refl, (refl, tt)))))))))))
