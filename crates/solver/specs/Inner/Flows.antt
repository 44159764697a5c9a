-- What the steps on the way to the least entries leave, in terms of the entries of all points before and after them.
use Rattle.std.specs.Prelude.{ℕ, ◌<◌, ◌≡◌, ◌⊎◌, Bool, true, false}
use Rattle.programs.specs.Program.{Act, Statement, step, stop, statement_at, Variable, named}
use Rattle.summaries.specs.ProposalReading.{variable_of}
use Rattle.summaries.specs.Summaries.{Environment, transfer}
use Rattle.summaries.specs.Covering.{WithinAt}
use Rattle.jobs.specs.Job.{Script}
use Rattle.jobs.specs.JobVerdict.{AllCovered, StartHolds, StepHolds}
use Rattle.transfers.specs.Inner.Ways.{act_sources, meets}
use Rattle.least_entries.specs.Inner.Order.{Below}

-- At a point a variable gets what an environment holds of it, beside what it had; nothing else changes.
pub record Joins (E E' : ℕ → Environment) (next : ℕ) (v : Variable) (G : Environment) : Type 0 where
  pub grows : (q : ℕ) → Below (E q) (E' q)
  pub others : (q : ℕ) (w : Variable) → ((q ≡ next) × (w ≡ v) → ⊥) → WithinAt w (E' q) (E q)
  pub made : WithinAt v G (E' next)
  pub least : (F : ℕ → Environment) → ((q : ℕ) → Below (E q) (F q)) → WithinAt v G (F next) → (q : ℕ) → Below (E' q) (F q)

-- Whether a statement makes a variable from one that passes a test.
abbrev pub made_from : (Variable → Bool) → Statement → Variable → Bool
made_from test (step a q q') v = meets test (act_sources a v)
made_from test stop v = false

module _ (π : Script) where
  -- Whatever covers holds all of it.
  abbrev pub BelowAll : (ℕ → Environment) → Type 0
  BelowAll E = (F : ℕ → Environment) → AllCovered π F → (p : ℕ) → Below (E p) (F p)

  -- The statement of a point goes over an act to a next point.
  pub record Leads (p : ℕ) (a : Act) (next : ℕ) : Type 0 where
    pub first : ℕ
    pub second : ℕ
    pub is : statement_at π.program p ≡ step a first second
    pub either : (next ≡ first) ⊎ (next ≡ second)

  -- The start is put at the variables below v that some statement names.
  pub record Starts (v : ℕ) (E : ℕ → Environment) : Type 0 where
    pub holds : (w : ℕ) → w < v → StartHolds π E w
    pub below : BelowAll E

  -- What an act makes of a variable of one point's entries lies within those of a next point, if some statement names it.
  abbrev pub Passed : Environment → Act → Environment → ℕ → Type 0
  Passed D a G v = named π.program (variable_of v) ≡ true → WithinAt (variable_of v) (transfer π.templates a D) G

  -- The variables below v that the act makes from a fresh one, and that some statement names, get at the next point what the act made of
  -- them. At other points, and of other variables than those that changed, the entries are as they were.
  pub record Flows (v : ℕ) (E E' : ℕ → Environment) (p : ℕ) (a : Act) (next : ℕ) (fresh changed : Variable → Bool) : Type 0 where
    pub grows : (q : ℕ) → Below (E q) (E' q)
    pub others : (q : ℕ) (w : Variable) → ((q ≡ next) × (changed w ≡ true) → ⊥) → WithinAt w (E' q) (E q)
    pub below : Leads p a next → BelowAll E → BelowAll E'
    pub passes : (w : ℕ) → w < v → meets fresh (act_sources a (variable_of w)) ≡ true → Passed (E p) a (E' next) w

  -- The step of a point to a next point is taken. What does not wait then did not wait before, and has not changed.
  pub record Takes (E E' : ℕ → Environment) (waits waits' : ℕ → Variable → Bool) (p : ℕ) (a : Act) (next : ℕ) (fresh : Variable → Bool) : Type 0 where
    pub grows : (q : ℕ) → Below (E q) (E' q)
    pub fewer : (q : ℕ) (w : Variable) → waits' q w ≡ false → waits q w ≡ false
    pub same : (q : ℕ) (w : Variable) → waits' q w ≡ false → WithinAt w (E' q) (E q)
    pub below : BelowAll E → BelowAll E'
    pub passes : (v : ℕ) → v < 8 → meets fresh (act_sources a (variable_of v)) ≡ true → Passed (E p) a (E' next) v

  -- The entries so far: the start is covered, and so are the steps of every point at the variables that its statement makes from none
  -- that waits there; whatever covers holds all of them.
  pub record Settling (E : ℕ → Environment) (waits : ℕ → Variable → Bool) : Type 0 where
    pub start : (v : ℕ) → v < 8 → StartHolds π E v
    pub steps : (p : ℕ) (b : Bool) (v : ℕ) → v < 8 → made_from (waits p) (statement_at π.program p) (variable_of v) ≡ false → StepHolds π E p b v
    pub below : BelowAll E
