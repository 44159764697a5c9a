-- Which jobs have all their parts in range (document 01, "A job, command by command", Templates, Program, Proposal and the last
-- paragraph; "Verdicts", 5 and 8; document 02, F-3, for `39`). The numbers here are the document's own, not those of the definitions that
-- read, but for the number of named strings, 64.
use Rattle.std.specs.Prelude.{ℕ, ◌≤◌, ◌<◌, ◌≡◌, ◌⊎◌, List, [], ◌∷◌, length}
use Rattle.commands.specs.Commands.{strings}
use Rattle.vocabularies.specs.Vocabulary.{Vocabulary}
use Rattle.pages.specs.declared.Kind.TheVariants.{Template}
use Rattle.pages.specs.Items.{Items}
use Rattle.programs.specs.Program.{Act, copy_template, set_template, copy_string, set_string, plug, plug_string, show, show_framed, Statement, step, stop, Variable, template_variable, string_variable}
use Rattle.summaries.specs.Proposal.{Claim, root, edge, gap_from, attribute_gap_from, Holding, claim, any_at, one_string, Head}
use Rattle.jobs.specs.Job.{Script, Job}
use Rattle.round_trip.specs.Written.{written_vocabulary}
use Rattle.round_trip.specs.WrittenJob.{marked_templates, written_holding, written_variable}
use Rattle.round_trip.specs.InRange.{TreeInRange, VocabularyInRange}

unfoldable pub AllInRange : Vocabulary → List Items → Type 0
AllInRange D [] = Unit {0}
AllInRange D (φ ∷ φs) = TreeInRange Template D φ × AllInRange D φs

-- Templates of a job with this vocabulary.
pub record TemplatesInRange (D : Vocabulary) (φs : List Items) : Type 0 where
  pub all : AllInRange D φs
  pub count : length φs ≤ 31

-- Variables are 0 to 3, gaps 0 to 7; a template is there, of which `templates` are, besides template 0.
abbrev pub ActInRange : ℕ → Act → Type 0
ActInRange templates (copy_template x x') = (x ≤ 3) × (x' ≤ 3)
ActInRange templates (set_template x t) = (x ≤ 3) × (t ≤ templates)
ActInRange templates (copy_string y y') = (y ≤ 3) × (y' ≤ 3)
ActInRange templates (set_string y s) = (y ≤ 3) × (s < strings)
ActInRange templates (Act.any_string y) = y ≤ 3
ActInRange templates (plug x x' g x'') = (x ≤ 3) × (x' ≤ 3) × (g ≤ 7) × (x'' ≤ 3)
ActInRange templates (plug_string x x' h y) = (x ≤ 3) × (x' ≤ 3) × (h ≤ 7) × (y ≤ 3)
ActInRange templates (show x) = x ≤ 3
ActInRange templates (show_framed x t g) = (x ≤ 3) × (t ≤ templates) × (g ≤ 7)

-- Next points are there.
abbrev pub StatementInRange : ℕ → ℕ → Statement → Type 0
StatementInRange templates points (step a p q) = ActInRange templates a × (p < points) × (q < points)
StatementInRange templates points stop = Unit {0}

unfoldable pub StatementsInRange : ℕ → ℕ → List Statement → Type 0
StatementsInRange templates points [] = Unit {0}
StatementsInRange templates points (t ∷ ts) = StatementInRange templates points t × StatementsInRange templates points ts

-- One statement at least, at most one for each of 32 points.
pub record ProgramInRange (templates : ℕ) (ts : List Statement) : Type 0 where
  pub statements : StatementsInRange templates (length ts) ts
  pub least : 1 ≤ length ts
  pub most : length ts ≤ 32

-- One list of numbers stands before another: the first number in which they differ is lower, or the first list ends there.
abbrev pub Lexicographic : List ℕ → List ℕ → Type 0
Lexicographic u [] = ⊥
Lexicographic [] (n ∷ v) = Unit {0}
Lexicographic (m ∷ u) (n ∷ v) = (m < n) ⊎ ((m ≡ n) × Lexicographic u v)

-- Each stands before the next, in the order of their keys.
unfoldable pub RisingBy : {A : Type 0} → (A → List ℕ) → List A → Type 0
RisingBy key [] = Unit {0}
RisingBy key (a ∷ []) = Unit {0}
RisingBy key (a ∷ a' ∷ rest) = Lexicographic (key a) (key a') × RisingBy key (a' ∷ rest)

-- What may stand under a template variable: `41` to `46`; under a string variable: `47` and `48`.
abbrev pub HoldingInRange : ℕ → Variable → Holding → Type 0
HoldingInRange templates (template_variable x) (claim (root t)) = t ≤ templates
HoldingInRange templates (template_variable x) (claim (edge n g t)) = (n ≤ templates) × (g ≤ 7) × (t ≤ templates)
HoldingInRange templates (template_variable x) (claim (Claim.string n h s)) = (n ≤ templates) × (h ≤ 7) × (s < strings)
HoldingInRange templates (template_variable x) (claim (gap_from g n)) = (g ≤ 7) × (n ≤ templates)
HoldingInRange templates (template_variable x) (claim (attribute_gap_from h n)) = (h ≤ 7) × (n ≤ templates)
HoldingInRange templates (template_variable x) (any_at n h) = (n ≤ templates) × (h ≤ 7)
HoldingInRange templates (template_variable x) (one_string s) = ⊥
HoldingInRange templates (template_variable x) Holding.any_string = ⊥
HoldingInRange templates (string_variable y) (claim c) = ⊥
HoldingInRange templates (string_variable y) (any_at n h) = ⊥
HoldingInRange templates (string_variable y) (one_string s) = s < strings
HoldingInRange templates (string_variable y) Holding.any_string = Unit {0}

unfoldable pub HoldingsInRange : ℕ → Variable → List Holding → Type 0
HoldingsInRange templates v [] = Unit {0}
HoldingsInRange templates v (h ∷ hs) = HoldingInRange templates v h × HoldingsInRange templates v hs

abbrev pub VariableInRange : Variable → Type 0
VariableInRange (template_variable x) = x ≤ 3
VariableInRange (string_variable y) = y ≤ 3

-- Items rise strictly by command, then operands: as their bytes do.
pub record HeadInRange (templates points : ℕ) (h : Head) : Type 0 where
  pub point : h.point < points
  pub variable : VariableInRange h.variable
  pub holdings : HoldingsInRange templates h.variable h.holdings
  pub rising : RisingBy written_holding h.holdings

unfoldable pub HeadsInRange : ℕ → ℕ → List Head → Type 0
HeadsInRange templates points [] = Unit {0}
HeadsInRange templates points (h ∷ hs) = HeadInRange templates points h × HeadsInRange templates points hs

-- The (p, v) by which heads rise strictly.
abbrev pub head_key : Head → List ℕ
head_key h = h.point ∷ written_variable h.variable ∷ []

-- A proposal of a job with these numbers of templates and points.
pub record ProposalInRange (templates points : ℕ) (hs : List Head) : Type 0 where
  pub heads : HeadsInRange templates points hs
  pub rising : RisingBy head_key hs

-- All up to `3F`; the mark of each element is its offset in the job.
pub record ScriptInRange (π : Script) : Type 0 where
  pub vocabulary : VocabularyInRange π.vocabulary
  pub templates : TemplatesInRange π.vocabulary π.templates
  pub marks : marked_templates (length (written_vocabulary π.vocabulary)) π.templates ≡ π.templates
  pub program : ProgramInRange (length π.templates) π.program

pub record JobInRange (j : Job) : Type 0 where
  pub script : ScriptInRange j.script
  pub proposal : ProposalInRange (length j.script.templates) (length j.script.program) j.proposal
