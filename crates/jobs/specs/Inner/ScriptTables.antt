-- What reading a script keeps of it, as the layers above go by it: where the items of each template and the statement of each point
-- stand, and which variables some statement names.
use Rattle.std.specs.Prelude.{ℕ, ◌+◌, ◌≤◌, ◌<◌, ◌≡◌, List, true, length, get_or}
use Rattle.sets.specs.Sets.{member}
use Rattle.commands.specs.Commands.{byte, operands_of, all_in_range}
use Rattle.pages.specs.Inner.Gaps.{StartsAt}
use Rattle.programs.specs.Program.{Statement, statement_at, named}
use Rattle.programs.specs.ProgramReading.{statement_read, templates_there, points_there}
use Rattle.summaries.specs.ProposalReading.{variable_of}
use Rattle.jobs.specs.Job.{Script}

-- The statement at an offset, in range and with its template there.
pub record StatementStands (s : List ℕ) (count place : ℕ) (t : Statement) : Type 0 where
  pub is : statement_read s place (byte s place) ≡ t
  pub ranges : all_in_range (operands_of (byte s place)) s (place + 1) ≡ true
  pub template_there : templates_there count t ≡ true

-- The set has just the variables that some statement names.
abbrev pub NamesAre : Script → ℕ → Type 0
NamesAre π names = (v : ℕ) → v < 8 → member names v ≡ named π.program (variable_of v)

pub record ScriptTables (π : Script) (s : List ℕ) (count : ℕ) (starts : List ℕ) (points : ℕ) (places : List ℕ) (names : ℕ) : Type 0 where
  pub count_is : count ≡ length π.templates
  pub few_templates : count ≤ 31
  pub start : StartsAt s π.templates starts
  pub points_are : points ≡ length π.program
  pub few_points : points ≤ 32
  pub statement : (p : ℕ) → p < points → StatementStands s count (get_or places p 0) (statement_at π.program p)
  pub points_there_lem : (p : ℕ) → p < points → points_there points (statement_at π.program p) ≡ true
  pub names_are : NamesAre π names
