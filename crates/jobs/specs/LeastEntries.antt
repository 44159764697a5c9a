-- The smallest entries that cover (document 02, F-1: "the smallest covering proposal"), said without how they are found.
use Rattle.std.specs.Prelude.{ℕ, List, length}
use Rattle.programs.specs.Program.{Variable}
use Rattle.summaries.specs.Summaries.{Environment}
use Rattle.summaries.specs.Covering.{WithinAt}
use Rattle.summaries.specs.ProposalOf.{proposal_of}
use Rattle.summaries.specs.WrittenProposal.{written_proposal}
use Rattle.jobs.specs.Job.{Script}
use Rattle.jobs.specs.JobVerdict.{AllCovered}

-- The least solution of covering: they cover the start and every step, and any environments that do hold all that these hold, at every
-- point and variable. So a variable that no statement names has nothing, since covering does not look at it; a point that no run reaches
-- counts like any other.
pub record Least (π : Script) (E : ℕ → Environment) : Type 0 where
  pub covers : AllCovered π E
  pub within : (F : ℕ → Environment) → AllCovered π F → (p : ℕ) (v : Variable) → WithinAt v (E p) (F p)

-- The bytes of the proposal that says what these entries hold.
unfoldable pub proposal_bytes : Script → (ℕ → Environment) → List ℕ
unfolding proposal_of written_proposal
proposal_bytes π E = written_proposal (proposal_of (length π.templates) (length π.program) E)
