-- The verdict of a job (document 01, "Verdicts", Check a job; document 02, F-6): the first violation in their order, or acceptance. After the
-- reading it is about a script and the entries of all points, E; the proposal is one way to give them; those of the smallest
-- proposal (document 02, F-1) are another.
use Rattle.std.specs.Prelude.{ℕ, ◌≤◌, ◌<◌, ◌≡◌, List, Bool, true, false, cond}
use Rattle.std.proofs.Math.Option.{some}
use Rattle.verdicts.specs.declared.Form.{Form}
use Rattle.verdicts.specs.declared.Numbers.{Numbers}
use Rattle.verdicts.specs.declared.Breach.{Breach}
use Rattle.verdicts.specs.declared.Fault.TheVariants.{NotRoot}
use Rattle.verdicts.specs.Printed.{prints, form_number, fault_numbers, element_fault}
use Rattle.commands.specs.Reading.{whole, refused}
use Rattle.pages.specs.Items.{Items}
use Rattle.pages.specs.RightPages.{Right, RootAlone, SomeElement, WrongAt, FirstBreach}
use Rattle.programs.specs.Program.{Statement, step, stop, statement_at, template_at}
use Rattle.summaries.specs.ProposalReading.{variable_of}
use Rattle.summaries.specs.Summaries.{Summary, Environment, entries}
use Rattle.summaries.specs.Covering.{StartCovered, StepCovered}
use Rattle.summaries.specs.Languages.{Language, DerivedFrom, graph_shown}
use Rattle.jobs.specs.Job.{Script, Job, job}

module _ (π : Script) (E : ℕ → Environment) where
  -- The start is covered at variable v, as `40` numbers it.
  abbrev pub StartHolds : ℕ → Type 0
  StartHolds v = StartCovered π.templates π.program E (variable_of v)

  -- The step of a point's statement to its first or second next point is covered at variable v. `38` has no step.
  abbrev pub StatementHolds : ℕ → Statement → Bool → ℕ → Type 0
  StatementHolds p (step a q q') second v = StepCovered π.templates π.program E p a (cond second q' q) (variable_of v)
  StatementHolds p stop second v = Unit {0}

  abbrev pub StepHolds : ℕ → Bool → ℕ → Type 0
  StepHolds p second v = StatementHolds p (statement_at π.program p) second v

  -- All that comes before a step's variable: lower points, the first next point before the second, lower variables.
  pub record StepsBefore (p : ℕ) (second : Bool) (v : ℕ) : Type 0 where
    pub points : (p' : ℕ) → p' < p → (b : Bool) (v' : ℕ) → v' < 8 → StepHolds p' b v'
    pub sides : second ≡ true → (v' : ℕ) → v' < 8 → StepHolds p false v'
    pub variables : (v' : ℕ) → v' < v → StepHolds p second v'

  pub record AllCovered : Type 0 where
    pub start : (v : ℕ) → v < 8 → StartHolds v
    pub steps : (p : ℕ) (b : Bool) (v : ℕ) → v < 8 → StepHolds p b v

  -- Every page of the language of the point's closed graph is right. It holds of a point that shows nothing.
  abbrev pub ShowHolds : ℕ → Type 0
  ShowHolds p = (G : Summary) → graph_shown π.templates π.program E p ≡ some G
      → (page : Items) → Language π.templates G page → Right π.vocabulary page

  -- Some page of root template t is not exactly the root element, blank text left out.
  pub record NotRootAt (p t : ℕ) : Type 0 where
    pub graph : Summary
    pub shows : graph_shown π.templates π.program E p ≡ some graph
    pub page : Items
    pub derived : DerivedFrom π.templates graph t page
    pub other : RootAlone π.vocabulary page → ⊥

  -- The element of template t whose `23` stands at an offset is wrong in some page, by this breach. In a script that was read, offsets are
  -- the job's: an offset stands in one template (`one_template`, agreement).
  pub record WrongIn (p t at : ℕ) (b : Breach) : Type 0 where
    pub graph : Summary
    pub shows : graph_shown π.templates π.program E p ≡ some graph
    pub page : Items
    pub derived : Language π.templates graph page
    pub wrong : WrongAt π.vocabulary at page b
    pub stands : SomeElement (λ e mark δ φ. mark ≡ at) (template_at π.templates t)

abbrev pub next_of : Statement → Bool → ℕ
next_of (step a q q') second = cond second q' q
next_of stop second = 0

-- The verdict of a script with the entries of all its points, as its four numbers: 9; 10; at each show, the lowest point
-- first, 11, and then 12, 14 or 15 at the lowest wrong element; or acceptance.
pub data ScriptVerdict (π : Script) (E : ℕ → Environment) : Numbers → Type 0 where
  start_uncovered : {v : ℕ} → v < 8 → (StartHolds π E v → ⊥) → ((v' : ℕ) → v' < v → StartHolds π E v')
      → ScriptVerdict π E (prints 9 0 0 v)
  step_uncovered : {p v : ℕ} (second : Bool) → ((v' : ℕ) → v' < 8 → StartHolds π E v')
      → v < 8 → (StepHolds π E p second v → ⊥) → StepsBefore π E p second v
      → ScriptVerdict π E (prints 10 p (next_of (statement_at π.program p) second) v)
  not_root : {p t : ℕ} → AllCovered π E → ((p' : ℕ) → p' < p → ShowHolds π E p')
      → NotRootAt π E p t → ((t' : ℕ) → NotRootAt π E p t' → t ≤ t')
      → ScriptVerdict π E (fault_numbers (NotRoot p t))
  wrong_element : {p t at : ℕ} {b : Breach} → AllCovered π E → ((p' : ℕ) → p' < p → ShowHolds π E p')
      → ((t' : ℕ) → NotRootAt π E p t' → ⊥)
      → FirstBreach (WrongIn π E p t at) b → ((t' at' : ℕ) (b' : Breach) → WrongIn π E p t' at' b' → at ≤ at')
      → ScriptVerdict π E (fault_numbers (element_fault p t at b))
  accepted : AllCovered π E → ((p : ℕ) → ShowHolds π E p) → ScriptVerdict π E (prints 0 0 0 0)

-- The verdict of a job: 1 to 8 where it cannot be read; otherwise that of its script with the entries that its proposal gives.
pub data JobVerdict (s : List ℕ) : Numbers → Type 0 where
  unreadable : {f : Form} {at : ℕ} → job s ≡ refused f at → JobVerdict s (prints (form_number f) at 0 0)
  readable : {j : Job} {end : ℕ} {v : Numbers} → job s ≡ whole j end → ScriptVerdict j.script (entries j.proposal) v → JobVerdict s v
