-- A script with the proposal of entries.
use Rattle.std.specs.Prelude.{ℕ, List, length}
use Rattle.summaries.specs.Proposal.{Head}
use Rattle.summaries.specs.Summaries.{Environment}
use Rattle.summaries.specs.ProposalOf.{proposal_of}
use Rattle.jobs.specs.Job.{Script, Job}

abbrev pub proposal_for : Script → (ℕ → Environment) → List Head
proposal_for π E = proposal_of (length π.templates) (length π.program) E

abbrev pub with_proposal : Script → (ℕ → Environment) → Job
with_proposal π E = record { script = π; proposal = proposal_for π E }
