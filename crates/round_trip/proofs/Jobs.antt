-- A job in range, written out as bytes, is read back as itself.
use Prim.Native.Nat.{ℕ, ◌+◌, ◌≤◌}
use native.Mathlib.Omega.{arith}
use mathlib.Core.Path.{◌≡◌, refl}
use mathlib.Core.List.{List, [], ◌++◌, append-nil}
use lib.ListN.{length, length-append}
use Rattle.commands.specs.Reading.{Read, whole, and_then, enough}
use Rattle.summaries.specs.ProposalReading.{proposal}
use Rattle.jobs.specs.Job.{Script, Job, script, job}
use Rattle.round_trip.specs.Written.{written_vocabulary}
use Rattle.round_trip.specs.WrittenJob.{written_templates, written_program, written_proposal, written_script, written_job}
use Rattle.round_trip.specs.JobInRange.{ScriptInRange, JobInRange}
use Rattle.round_trip.proofs.Rests.{Rest, all, behind, grouped, ends_at, reads_alone}
use Rattle.round_trip.proofs.Vocabularies.{reads_vocabulary}
use Rattle.round_trip.proofs.Templates.{reads_templates}
use Rattle.round_trip.proofs.Programs.{reads_program}
use Rattle.round_trip.proofs.Proposals.{reads_proposal}

-- Bytes that begin with a script that was written.
pub reads_script : (π : Script) (w : List ℕ) → ScriptInRange π → script (written_script π ++ w) ≡ whole π (length (written_script π))
unfolding script written_script
reads_script π w i =
    let v = written_vocabulary π.vocabulary in
    let t = written_templates π.templates in
    let p = written_program π.program in
    let s = v ++ t ++ p ++ w in
    let r : Rest s 0 (v ++ (t ++ (p ++ w))) = grouped v t (p ++ w) (grouped (v ++ t) p w (all s)) in
    let start : 0 + length v ≡ length v = omega arith in
    let r₁ : Rest s (length v) (t ++ (p ++ w)) = rw start at (behind v r) in
    rw (
      rw (← r.is) at (reads_vocabulary π.vocabulary (t ++ (p ++ w)) i.vocabulary),
      reads_templates π.vocabulary (enough s) 0 π.templates i.templates.all (omega (arith, i.templates.count)) s (length v) (p ++ w) r₁ (omega arith),
      i.marks,
      reads_program (enough s) (length π.templates) π.program i.program s (length v + length t) w (behind t r₁) (omega arith),
    )
    (ends_at refl (omega (arith, length-append (v ++ t) p, length-append v t)))

pub job_back : (j : Job) → JobInRange j → length (written_job j) ≤ 65535 → job (written_job j) ≡ whole j (length (written_job j))
unfolding job written_job
job_back j i h =
    let π = j.script in
    let u = written_script π in
    let v = written_proposal j.proposal in
    let s = u ++ v in
    let r : Rest s 0 (u ++ (v ++ [])) = rw append-nil (all s) in
    let start : 0 + length u ≡ length u = omega arith in
    let r₁ : Rest s (length u) (v ++ []) = rw start at (behind u r) in
    let parts : Read Job =
    and_then (script s) λ π next. and_then (proposal (enough s) (length π.templates) (length π.program) s 0 next) λ hs end. whole (record { script = π; proposal = hs }) end in
    let read : parts ≡ whole j (length s) =
    rw (
      reads_script π v i.script,
      reads_proposal (length π.templates) (length π.program) (omega (arith, i.script.templates.count)) (enough s) j.proposal i.proposal s (length u) [] r₁ (omega arith),
    )
    (ends_at refl (omega (arith, length-append u v))) in
    reads_alone s {r = parts} h read
