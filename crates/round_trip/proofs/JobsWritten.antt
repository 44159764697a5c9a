-- A job that is read is the one whose bytes were read, in range, with its marks in place.
use Prim.Native.Nat.{ℕ}
use native.Mathlib.Omega.{arith}
use mathlib.Core.Path.{◌≡◌}
use mathlib.Core.List.{List}
use lib.ListN.{length}
use Rattle.commands.specs.Reading.{whole, enough}
use Rattle.jobs.specs.Job.{Job, script, job}
use Rattle.agreement.proofs.Readings.{Gives, gives, gives_then}
use Rattle.round_trip.specs.Written.{written_vocabulary}
use Rattle.round_trip.specs.WrittenJob.{written_script, written_job}
use Rattle.round_trip.specs.InRange.{Bytes}
use Rattle.round_trip.specs.JobInRange.{ScriptInRange, JobInRange}
use Rattle.round_trip.specs.Exact.{Span, Exactly}
use Rattle.round_trip.proofs.Spans.{then, alone_written}
use Rattle.round_trip.proofs.VocabulariesWritten.{vocabulary_read}
use Rattle.round_trip.proofs.ItemsWritten.{templates_written}
use Rattle.round_trip.proofs.ProgramsWritten.{program_written}
use Rattle.round_trip.proofs.ProposalsWritten.{proposal_written}

module _ (s : List ℕ) (b : Bytes s) where
  pub script_read : Gives (Unit {0}) (λ π end. Span s 0 (written_script π) end × ScriptInRange π) (script s)
  unfolding script written_script
  script_read =
      gives_then (vocabulary_read s b) λ D next v.
      gives_then (templates_written D s (enough s) 0 next (omega arith)) λ φs next' m.
      gives_then (program_written (length φs) s (enough s) next') λ ts end p.
      let starts : next ≡ length (written_vocabulary D) = omega (arith, v.0.ends) in
      gives (
        then (then v.0 m.span) p.0,
        record { vocabulary = v.1; templates = record { all = m.all; count = omega (arith, m.few) }; marks = rw starts at m.marks; program = p.1 },
      )

-- Bytes that are read as a job are those of it.
pub job_written : (s : List ℕ) (j : Job) (end : ℕ) → Bytes s → job s ≡ whole j end → Exactly written_job JobInRange s j end
unfolding job written_job
job_written s j end b = alone_written s
    (gives_then (script_read s b) λ π next m.
    gives_then (proposal_written (length π.templates) (length π.program) s b (enough s) next) λ hs end n.
    gives (then m.0 n.0, record { script = m.1; proposal = n.1 }))
