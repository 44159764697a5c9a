-- What holds of a framed show in every program whose next points are there (document 02, F-3), of the programs of jobs that read.
use Prim.Native.Nat.{ℕ, ◌≤◌}
use native.Mathlib.Omega.{arith}
use mathlib.Core.Path.{◌≡◌}
use mathlib.Core.List.{List}
use mathlib.Core.Bool.{false}
use mathlib.Core.Logic.{◌↔◌}
use lib.ListN.{length}
use Rattle.sets.proofs.Booleans.{refuted}
use Rattle.commands.specs.Reading.{whole, enough}
use Rattle.pages.specs.Items.{Items}
use Rattle.programs.specs.Program.{show_framed, step, template_variable, named, statement_at}
use Rattle.programs.specs.Unframed.{unframed, Shows, PointsThere}
use Rattle.programs.proofs.Frames.{framed_runs}
use Rattle.jobs.specs.Job.{Job, job}
use Rattle.jobs.proofs.Tables.{job_parts}
use Rattle.agreement.proofs.Readings.{given}
use Rattle.agreement.proofs.ReadPrograms.{program_there}
use Rattle.soundness.proofs.Ranges.{job_in_range}

module _ (s : List ℕ) (j : Job) (end : ℕ) (reads : job s ≡ whole j end) where
  pub points_there_read : PointsThere j.script.program
  points_there_read =
      let parts = job_parts s j end reads in
      (given (program_there (length j.script.templates) s (enough s) parts.second) parts.program_reads).points

  pub unnamed_read : (z : ℕ) → 4 ≤ z → named j.script.program (template_variable z) ≡ false
  unnamed_read z l = refuted (named j.script.program (template_variable z)) (λ e. let low = (job_in_range s j end reads).template z e in omega arith)

  pub framed_runs_read : (n x t g p q z : ℕ) → statement_at j.script.program n ≡ step (show_framed x t g) p q
      → named j.script.program (template_variable z) ≡ false → (pages : List Items)
      → Shows j.script.templates j.script.program pages ↔ Shows j.script.templates (unframed j.script.program n x t g p q z) pages
  framed_runs_read n x t g p q z framed own =
      framed_runs j.script.program n x t g p q z j.script.templates framed own points_there_read
