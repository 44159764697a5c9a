-- Reading a job ends, whatever its bytes are: the program and the proposal, and then the four parts one after the other.
use Prim.Native.Nat.{ℕ, zero, suc, ◌+◌, ◌*◌, ◌-◌, ◌<◌}
use native.Mathlib.Omega.{arith}
use mathlib.Core.Path.{◌≡◌}
use mathlib.Core.List.{List}
use mathlib.Core.Option.{Option, some, none}
use lib.ListN.{length}
use lib.Dec.{leb, ltb, eqb}
use Rattle.commands.specs.declared.Context.{Context}
use Rattle.commands.specs.declared.Context.TheVariants.{Heads}
use Rattle.commands.specs.Commands.{byte, allowed}
use Rattle.commands.specs.Reading.{Read, unfinished, enough}
use Rattle.vocabularies.specs.Vocabulary.{declared}
use Rattle.programs.specs.Program.{Statement}
use Rattle.programs.specs.ProgramReading.{statement_read, templates_there, most_points, statement_context, statements, strayed, unless_strayed, program}
use Rattle.summaries.specs.ProposalReading.{holding_at, holding_there, rank, holdings, variable_of, holding_context, proposal}
use Rattle.jobs.specs.Job.{script, job}
use Rattle.agreement.proofs.Readings.{gives, refuses, gives_command, gives_when, gives_then, gives_alone, runs}
use Rattle.agreement.proofs.Ends.{EndsPast, EndsFrom, vocabulary_ends, templates_end}

module _ (count : ℕ) (s : List ℕ) where
  pub statements_end : (f before at : ℕ) → length s - at < f → EndsPast at (statements f count s before at)
  unfolding statements
  statements_end zero before at h = absurd (omega arith)
  statements_end (suc f) before at h = gives_command (statement_context before) s at λ code next t. gives_when (eqb code 0x3F)
      (λ _ _. gives (omega arith))
      (λ _ _. gives_when (templates_there count (statement_read s at code))
      (λ _ _. gives_when (ltb before most_points)
      (λ _ _. gives_then (statements_end f (before + 1) next (omega arith)) λ ts end m. gives (omega arith))
      (λ _ _. refuses))
      (λ _ _. refuses))

  unless_strayed_ends : (o : Option ℕ) {r : Read (List Statement)} {at : ℕ} → EndsPast at r → EndsPast at (unless_strayed o r)
  unless_strayed_ends none g = g
  unless_strayed_ends (some at) g = refuses

  pub program_ends : (f at : ℕ) → length s - at < f → EndsPast at (program f count s at)
  unfolding program
  program_ends f at h =
      gives_then (statements_end f 0 at h) λ ts end m. unless_strayed_ends (strayed (length ts) ts) (gives m)

  pub holdings_end : (f : ℕ) (x : Context) (least at : ℕ) → length s - at < f → EndsFrom at (holdings f x count s least at)
  unfolding holdings
  holdings_end zero x least at h = absurd (omega arith)
  holdings_end (suc f) x least at h = gives_when (allowed x (byte s at))
      (λ _ _. gives_command x s at λ code next t. gives_when (holding_there count (holding_at s at code))
      (λ _ _. gives_when (leb least (rank s at code))
      (λ _ _. gives_then (holdings_end f x (rank s at code + 1) next (omega arith)) λ φs end m. gives (omega arith))
      (λ _ _. refuses))
      (λ _ _. refuses))
      (λ _ _. gives (omega arith))

module _ (count points : ℕ) (s : List ℕ) where
  pub proposal_ends : (f least at : ℕ) → length s - at < f → EndsPast at (proposal f count points s least at)
  unfolding proposal
  proposal_ends zero least at h = absurd (omega arith)
  proposal_ends (suc f) least at h = gives_command Heads s at λ code next t. gives_when (eqb code 0x4F)
      (λ _ _. gives (omega arith))
      (λ _ _. gives_when (ltb (byte s (at + 1)) points)
      (λ _ _. gives_when (leb least (byte s (at + 1) * 8 + byte s (at + 2)))
      (λ _ _. gives_then (holdings_end count s f (holding_context (variable_of (byte s (at + 2)))) 0 next (omega arith)) λ φs after m.
      gives_then (proposal_ends f (byte s (at + 1) * 8 + byte s (at + 2) + 1) after (omega arith)) λ heads end n. gives (omega arith))
      (λ _ _. refuses))
      (λ _ _. refuses))

pub script_ends : (s : List ℕ) → EndsPast 0 (script s)
unfolding script
script_ends s =
    gives_then (vocabulary_ends s) λ D next m.
    gives_then (templates_end (declared D.rules) s (enough s) 0 next (omega arith)) λ φs next' m'.
    gives_then (program_ends (length φs) s (enough s) next' (omega arith)) λ ts end m''. gives (omega arith)

parts_end : (s : List ℕ) → EndsPast 0 (job s)
unfolding job
parts_end s = gives_alone s
    (gives_then (script_ends s) λ π next m.
    gives_then (proposal_ends (length π.templates) (length π.program) s (enough s) 0 next (omega arith)) λ hs end n. gives (omega arith))

-- The bytes of a job are read to an end.
pub job_ends : (s : List ℕ) → job s ≡ unfinished → ⊥
job_ends s = runs (parts_end s)
