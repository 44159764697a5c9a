-- A script that is read, or a job, is read without blank text.
use Prim.Native.Nat.{ℕ, ◌≤◌}
use native.Mathlib.Omega.{arith}
use mathlib.Core.Path.{◌≡◌, ap}
use mathlib.Core.List.{List, [], ◌++◌, append-nil, map}
use lib.ListN.{length, length-append}
use Rattle.commands.specs.Reading.{whole}
use Rattle.pages.specs.Items.{without_blank}
use Rattle.jobs.specs.Job.{Script, Job, job}
use Rattle.jobs.specs.Inference.{script_slice}
use Rattle.round_trip.specs.Written.{written_vocabulary}
use Rattle.round_trip.specs.WrittenJob.{written_templates, written_program, written_proposal, written_script, written_job}
use Rattle.round_trip.specs.InRange.{Bytes}
use Rattle.round_trip.specs.JobInRange.{ScriptInRange, JobInRange}
use Rattle.round_trip.proofs.Rests.{reads_alone}
use Rattle.round_trip.proofs.Jobs.{reads_script, job_back}
use Rattle.round_trip.proofs.JobsWritten.{job_written}
use Rattle.least_entries.proofs.Accepted.{script_written}
use Rattle.blank_text.specs.WithoutBlank.{without_blank_script, without_blank_job}
use Rattle.blank_text.proofs.Scripts.{with_templates}
use Rattle.blank_text.proofs.Ranges.{anew_templates, templates_there_lem, templates_shorter, as_many, same_templates, templates_once}

-- A script in range, written out as bytes, is read back as itself.
script_back : (π : Script) → ScriptInRange π → length (written_script π) ≤ 65535 → script_slice (written_script π) ≡ whole π (length (written_script π))
unfolding script_slice
script_back π i h = reads_alone (written_script π) h (rw append-nil at (reads_script π [] i))

module _ (π : Script) where
  -- Where the templates begin.
  abbrev pub base : ℕ
  base = length (written_vocabulary π.vocabulary)

  -- Without blank text, with each mark where it is written.
  abbrev pub anew_script : Script
  anew_script = with_templates π (anew_templates base π.templates)

  same_script : written_script anew_script ≡ written_script (without_blank_script π)
  unfolding written_script
  same_script = rw (same_templates base (map without_blank π.templates))

  script_shorter : length (written_script (without_blank_script π)) ≤ length (written_script π)
  unfolding written_script
  script_shorter =
      let u = written_vocabulary π.vocabulary in
      let t = written_templates π.templates in
      let t' = written_templates (map without_blank π.templates) in
      let p = written_program π.program in
      omega (
        arith,
        templates_shorter π.templates,
        length-append (u ++ t) p,
        length-append u t,
        length-append (u ++ t') p,
        length-append u t',
      )

  script_in_range : ScriptInRange π → ScriptInRange anew_script
  script_in_range i =
      let φs = π.templates in
      let many = as_many base φs in
      record {
        vocabulary = i.vocabulary;
        templates = record { all = templates_there_lem π.vocabulary base φs i.templates.all; count = rw many i.templates.count };
        marks = templates_once base (map without_blank φs);
        program = rw many i.program;
      }

  pub script_anew : (s : List ℕ) (end : ℕ) → Bytes s → script_slice s ≡ whole π end
      → script_slice (written_script (without_blank_script π)) ≡ whole anew_script (length (written_script (without_blank_script π)))
  script_anew s end b e =
      let x = script_written s π end b e in
      rw same_script at (script_back anew_script (script_in_range x.is_in_range) (rw same_script (omega (arith, script_shorter, x.short, ap length x.bytes))))

module _ (j : Job) where
  abbrev pub anew_job : Job
  anew_job = record { script = anew_script j.script; proposal = j.proposal }

  same_job : written_job anew_job ≡ written_job (without_blank_job j)
  unfolding written_job
  same_job = ap (λ (w : List ℕ). w ++ written_proposal j.proposal) (same_script j.script)

  job_shorter : length (written_job (without_blank_job j)) ≤ length (written_job j)
  unfolding written_job
  job_shorter =
      let π = j.script in
      let h = written_proposal j.proposal in
      omega (arith, script_shorter π, length-append (written_script π) h, length-append (written_script (without_blank_script π)) h)

  job_in_range : JobInRange j → JobInRange anew_job
  job_in_range i = record { script = script_in_range j.script i.script; proposal = rw (as_many (base j.script) j.script.templates) i.proposal }

  pub job_anew : (s : List ℕ) (end : ℕ) → Bytes s → job s ≡ whole j end
      → job (written_job (without_blank_job j)) ≡ whole anew_job (length (written_job (without_blank_job j)))
  job_anew s end b e =
      let x = job_written s j end b e in
      rw same_job at (job_back anew_job (job_in_range x.is_in_range) (rw same_job (omega (arith, job_shorter, x.short, ap length x.bytes))))
