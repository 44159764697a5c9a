-- What reading a job keeps of it, as the check of its covering needs it: where the items of each template, the statement of each point
-- and the items under each head stand, and which variables some statement names.
use Rattle.std.specs.Prelude.{ℕ, ◌+◌, ◌*◌, ◌≤◌, ◌<◌, ◌≡◌, List, true, length, get_or}
use Rattle.commands.specs.declared.Context.TheVariants.{TemplateHoldings, StringHoldings}
use Rattle.programs.specs.Program.{Act, template_variable, string_variable}
use Rattle.programs.specs.ProgramReading.{act_templates_there}
use Rattle.programs.specs.Inner.Promises.{ActFits}
use Rattle.summaries.specs.Proposal.{Head}
use Rattle.summaries.specs.Summaries.{under}
use Rattle.jobs.specs.Job.{Job}
use Rattle.jobs.specs.Inner.ScriptTables.{ScriptTables}
use Rattle.summaries.specs.Inner.Listed.{Listed}
use Rattle.pages.specs.Inner.Gaps.{GapsTable}

-- The items under each head of a point stand where the table says. Variable v, as `40` numbers it, has place 8 p + v; where there is
-- no head, the table may name any offset at which no item stands.
pub record EntriesAt (s heads : List ℕ) (hs : List Head) (p : ℕ) : Type 0 where
  pub template : (x : ℕ) → x < 4 → Listed TemplateHoldings s (get_or heads (p * 8 + x) 0) (under hs p (template_variable x))
  pub string : (y : ℕ) → y < 4 → Listed StringHoldings s (get_or heads (p * 8 + (4 + y)) 0) (under hs p (string_variable y))

-- What is known of a job: of its script, and of the entries of its proposal.
pub record Tables (j : Job) (s : List ℕ) (count : ℕ) (starts : List ℕ) (points : ℕ) (places : List ℕ) (names : ℕ) (heads : List ℕ) : Type 0 where
  pub of_script : ScriptTables j.script s count starts points places names
  pub entry : (p : ℕ) → p < 32 → EntriesAt s heads j.proposal p

-- What is known where the statement of a point, with this act, is compared.
pub record PointAt (j : Job) (s gaps heads : List ℕ) (p : ℕ) (a : Act) : Type 0 where
  pub fits : ActFits a
  pub template_there : act_templates_there (length j.script.templates) a ≡ true
  pub few : length j.script.templates ≤ 31
  pub gaps_are : GapsTable gaps j.script.templates
  pub low : p < 32
  pub entry : EntriesAt s heads j.proposal p

-- What is known where its step to a next point is compared.
pub record StepAt (j : Job) (s gaps heads : List ℕ) (p next : ℕ) (a : Act) : Type 0 where
  pub point : PointAt j s gaps heads p a
  pub next_low : next < 32
  pub next_entry : EntriesAt s heads j.proposal next
