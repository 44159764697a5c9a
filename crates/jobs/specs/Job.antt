-- Jobs as trees, and reading one whole (document 01, "A job, command by command"; "Verdicts", Check a job).
use Rattle.std.specs.Prelude.{ℕ, List, length}
use Rattle.commands.specs.Reading.{Read, whole, and_then, enough}
use Rattle.vocabularies.specs.Vocabulary.{Vocabulary, declared}
use Rattle.vocabularies.specs.VocabularyReading.{vocabulary, alone}
use Rattle.pages.specs.Items.{Items}
use Rattle.pages.specs.ItemReading.{templates}
use Rattle.programs.specs.Program.{Statement}
use Rattle.programs.specs.ProgramReading.{program}
use Rattle.summaries.specs.Proposal.{Head}
use Rattle.summaries.specs.ProposalReading.{proposal}

-- A script: all of a job up to `3F`. A run is fed its templates and its statements.
pub record Script : Type 0 where
  pub vocabulary : Vocabulary
  pub templates : List Items
  pub program : List Statement

pub record Job : Type 0 where
  pub script : Script
  pub proposal : List Head

-- The first three parts, in order.
unfoldable pub script : List ℕ → Read Script
unfolding vocabulary templates program
script s =
    and_then (vocabulary s) λ D next.
    and_then (templates (enough s) (declared D.rules) s 0 next) λ φs next'.
    and_then (program (enough s) (length φs) s next') λ ts end.
    whole (record { vocabulary = D; templates = φs; program = ts }) end

-- The script, then the proposal, from the least head on; a job that is too long, or has a byte after `4F`, is refused (`alone`). The fuel is
-- enough for any reading of the bytes.
unfoldable pub job : List ℕ → Read Job
unfolding script proposal
job s = alone s (
    and_then (script s) λ π next.
    and_then (proposal (enough s) (length π.templates) (length π.program) s 0 next) λ hs end.
    whole (record { script = π; proposal = hs }) end)
