-- What working out the least entries of a script and writing their proposal promise.
use Rattle.std.specs.Prelude.{ℕ, ◌+◌, ◌≤◌, ◌<◌, ◌≡◌, List, length, Ok, Err}
use Rattle.verdicts.specs.declared.Refusal.TheVariants as Refusals
use Rattle.verdicts.specs.Printed.{Writing}
use Rattle.summaries.specs.ProposalOf.{proposal_of}
use Rattle.summaries.specs.WrittenProposal.{written_proposal}
use Rattle.jobs.specs.declared.ScriptRead.{ScriptRead}
use Rattle.jobs.specs.Job.{Script}
use Rattle.jobs.specs.Inference.{stored_at}
use Rattle.jobs.specs.Inner.ScriptTables.{ScriptTables}
use Rattle.states.specs.Inner.States.{entries_in}

-- The tables of a script that was read.
abbrev pub TablesAre : Script → List ℕ → ScriptRead → Type 0
TablesAre π s read =
    ScriptTables π s read.templates.count read.templates.starts read.points.count read.points.places read.points.named

-- The bytes of the proposal of the entries that a work area keeps.
abbrev pub proposal_in : ℕ → ℕ → List ℕ → List ℕ
proposal_in templates points work = written_proposal (proposal_of templates points (entries_in points work))

-- By the answer: the bytes do not fit, and none is written; or they are written.
pub record WritesOut (bytes buffer : List ℕ) (place : ℕ) (r : Writing) (after : List ℕ) : Type 0 where
  pub short : length buffer < place + length bytes → (r ≡ Err (Refusals.NoRoom (length bytes))) × (after ≡ buffer)
  pub fits : place + length bytes ≤ length buffer → (r ≡ Ok (length bytes)) × (after ≡ stored_at place bytes buffer)
