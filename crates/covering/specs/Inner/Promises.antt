-- What the check of a proposal's covering promises (document 01, "Verdicts": 9, then 10).
use Rattle.std.specs.Prelude.{ℕ, ◌≤◌, ◌<◌, ◌≡◌, Bool, true, false, Result, Ok, Err}
use Rattle.verdicts.specs.declared.Cover.{Cover}
use Rattle.verdicts.specs.declared.Cover.TheVariants.{Start, Step}
use Rattle.programs.specs.Program.{statement_at}
use Rattle.summaries.specs.Summaries.{Environment}
use Rattle.jobs.specs.Job.{Script}
use Rattle.jobs.specs.JobVerdict.{StartHolds, StepHolds, StepsBefore, AllCovered, next_of}

-- The lowest of the numbers below 8 of which a proposition fails; 8: it holds of all of them.
pub record Lowest (P : ℕ → Type 0) (r : ℕ) : Type 0 where
  pub most : r ≤ 8
  pub below : (v : ℕ) → v < r → P v
  pub fails : r < 8 → P r → ⊥

-- By the answer: a proposition holds of all of them; or the lowest of which it fails is refused.
abbrev pub RefusesLowest : (ℕ → Cover) → (ℕ → Type 0) → Result (Unit {0}) Cover → Type 0
RefusesLowest refused P (Ok u) = Lowest P 8
RefusesLowest refused P (Err c) = (v : ℕ) × ((c ≡ refused v) × ((v < 8) × Lowest P v))

module _ (π : Script) (E : ℕ → Environment) where
  -- 9: the lowest variable at which the start is not covered.
  pub record StartUncovered (v : ℕ) : Type 0 where
    pub variable : v < 8
    pub fails : StartHolds π E v → ⊥
    pub before : (v' : ℕ) → v' < v → StartHolds π E v'

  -- 10: the start is covered, and this is the first step that is not.
  pub record StepUncovered (p next v : ℕ) : Type 0 where
    pub second : Bool
    pub next_is : next ≡ next_of (statement_at π.program p) second
    pub start : (v' : ℕ) → v' < 8 → StartHolds π E v'
    pub variable : v < 8
    pub fails : StepHolds π E p second v → ⊥
    pub before : StepsBefore π E p second v

  abbrev pub CoverFails : Cover → Type 0
  CoverFails (Start v) = StartUncovered v
  CoverFails (Step p next v) = StepUncovered p next v

  abbrev pub Covers : Result (Unit {0}) Cover → Type 0
  Covers (Ok u) = AllCovered π E
  Covers (Err c) = CoverFails c

  -- By the answer: the steps of one point are covered; or which of them is not, first.
  pub record PointUncovered (p p' next v : ℕ) : Type 0 where
    pub point : p' ≡ p
    pub second : Bool
    pub next_is : next ≡ next_of (statement_at π.program p) second
    pub variable : v < 8
    pub fails : StepHolds π E p second v → ⊥
    pub sides : second ≡ true → (v' : ℕ) → v' < 8 → StepHolds π E p false v'
    pub variables : (v' : ℕ) → v' < v → StepHolds π E p second v'

  abbrev pub PointFails : ℕ → Cover → Type 0
  PointFails p (Start v) = ⊥
  PointFails p (Step p' next v) = PointUncovered p p' next v

  abbrev pub PointCovers : ℕ → Result (Unit {0}) Cover → Type 0
  PointCovers p (Ok u) = (b : Bool) (v : ℕ) → v < 8 → StepHolds π E p b v
  PointCovers p (Err c) = PointFails p c

-- By the answer: all steps are covered; or which of them is not, first, where the start is covered.
module _ (π : Script) (E : ℕ → Environment) where
  pub record StepFails (p next v : ℕ) : Type 0 where
    pub second : Bool
    pub next_is : next ≡ next_of (statement_at π.program p) second
    pub variable : v < 8
    pub fails : StepHolds π E p second v → ⊥
    pub before : StepsBefore π E p second v

  abbrev pub StepsFail : Cover → Type 0
  StepsFail (Start v) = ⊥
  StepsFail (Step p next v) = StepFails p next v

  abbrev pub StepsCover : Result (Unit {0}) Cover → Type 0
  StepsCover (Ok u) = (p : ℕ) (b : Bool) (v : ℕ) → v < 8 → StepHolds π E p b v
  StepsCover (Err c) = StepsFail c
