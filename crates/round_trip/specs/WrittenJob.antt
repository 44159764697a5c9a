-- Jobs written out as bytes (document 01, "A job, command by command"; document 02, F-3, for `39`): vocabulary, templates, program and
-- proposal, in order. What is written of a proposal stands with it.
use Rattle.std.specs.Prelude.{ℕ, ◌+◌, List, [], ◌∷◌, ◌++◌, length}
use Rattle.pages.specs.Items.{Items}
use Rattle.programs.specs.Program.{Act, copy_template, set_template, copy_string, set_string, plug, plug_string, show, show_framed, Statement, step, stop}
pub use Rattle.summaries.specs.WrittenProposal.{written_holding, written_variable}
unfoldable pub use Rattle.summaries.specs.WrittenProposal.{written_holdings, written_head, written_proposal}
use Rattle.jobs.specs.Job.{Script, Job}
use Rattle.round_trip.specs.Written.{written_vocabulary, written_items, marked}

-- Templates: `20` and `27` about the items of each, then `2F`.
unfoldable pub written_template : Items → List ℕ
unfolding written_items
written_template φ = 0x20 ∷ written_items φ ++ 0x27 ∷ []

unfoldable pub written_templates : List Items → List ℕ
unfolding written_template
written_templates [] = 0x2F ∷ []
written_templates (φ ∷ φs) = written_template φ ++ written_templates φs

-- Templates that are written from an offset on, with each element's mark where its `23` stands.
unfoldable pub marked_templates : ℕ → List Items → List Items
unfolding marked written_template
marked_templates at [] = []
marked_templates at (φ ∷ φs) = marked (at + 1) φ ∷ marked_templates (at + length (written_template φ)) φs

-- What a statement does; its two next points stand behind.
abbrev pub written_act : Act → List ℕ
written_act (copy_template x x') = 0x30 ∷ x ∷ x' ∷ []
written_act (set_template x t) = 0x31 ∷ x ∷ t ∷ []
written_act (copy_string y y') = 0x32 ∷ y ∷ y' ∷ []
written_act (set_string y s) = 0x33 ∷ y ∷ s ∷ []
written_act (Act.any_string y) = 0x34 ∷ y ∷ []
written_act (plug x x' g x'') = 0x35 ∷ x ∷ x' ∷ g ∷ x'' ∷ []
written_act (plug_string x x' h y) = 0x36 ∷ x ∷ x' ∷ h ∷ y ∷ []
written_act (show x) = 0x37 ∷ x ∷ []
written_act (show_framed x t g) = 0x39 ∷ x ∷ t ∷ g ∷ []

abbrev pub written_statement : Statement → List ℕ
written_statement (step a p q) = written_act a ++ p ∷ q ∷ []
written_statement stop = 0x38 ∷ []

-- The program: one statement a point, then `3F`.
unfoldable pub written_program : List Statement → List ℕ
written_program [] = 0x3F ∷ []
written_program (t ∷ ts) = written_statement t ++ written_program ts

unfoldable pub written_script : Script → List ℕ
unfolding written_vocabulary written_templates written_program
written_script π = written_vocabulary π.vocabulary ++ written_templates π.templates ++ written_program π.program

unfoldable pub written_job : Job → List ℕ
unfolding written_script written_proposal
written_job j = written_script j.script ++ written_proposal j.proposal
