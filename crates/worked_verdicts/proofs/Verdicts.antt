-- The verdict of a job by computation: `none` where t rounds of pattern sets are too few to tell. What it answers is the verdict that
-- the definitions give.
use Prim.Native.Nat.{ℕ}
use native.Mathlib.Omega.{arith}
use mathlib.Core.Path.{◌≡◌, refl, subst}
use mathlib.Core.List.{List}
use mathlib.Core.Option.{Option, some, none}
use Rattle.std.specs.Prelude.{Result, Ok, Err}
use Rattle.verdicts.specs.declared.Cover.{Cover}
use Rattle.verdicts.specs.declared.Cover.TheVariants.{Start, Step}
use Rattle.verdicts.specs.declared.Numbers.{Numbers}
use Rattle.verdicts.specs.Printed.{prints, form_number, cover_numbers}
use Rattle.commands.specs.Reading.{Read, whole, refused, unfinished}
use Rattle.summaries.specs.Summaries.{entries}
use Rattle.jobs.specs.Job.{Job, job}
use Rattle.jobs.specs.JobVerdict.{ScriptVerdict, start_uncovered, step_uncovered, JobVerdict, unreadable, readable}
use Rattle.covering.specs.Inner.Promises.{Covers, CoverFails}
use Rattle.patterns.proofs.ReadVocabularies.{Bytes}
use Rattle.patterns.proofs.ReadJobs.{GivenShows, job_given}
use Rattle.worked_verdicts.proofs.Covering.{cover_by, cover_by_lem}
use Rattle.worked_verdicts.proofs.Shows.{shows_by, shows_by_lem}

abbrev uncovered_or : Result (Unit {0}) Cover → Option Numbers → Option Numbers
uncovered_or (Ok u) rest = rest
uncovered_or (Err c) rest = some (cover_numbers c)

abbrev of_reading : ℕ → Read Job → Option Numbers
of_reading t (whole j end) = uncovered_or (cover_by j) (shows_by t j)
of_reading t (refused f at) = some (prints (form_number f) at 0 0)
of_reading t unfinished = none

unfoldable pub verdict_by : ℕ → List ℕ → Option Numbers
unfolding job cover_by shows_by
verdict_by t s = of_reading t (job s)

module _ (t : ℕ) (s : List ℕ) (bytes : Bytes s) (v : Numbers) where
  module _ (j : Job) where
    of_cover : (c : Cover) → CoverFails j.script (entries j.proposal) c → ScriptVerdict j.script (entries j.proposal) (cover_numbers c)
    of_cover (Start x) h = start_uncovered h.variable h.fails h.before
    of_cover (Step p next x) h =
        rw h.next_is (step_uncovered h.second h.start h.variable h.fails h.before)

    of_covering : GivenShows j.script (entries j.proposal) → (r : Result (Unit {0}) Cover) → Covers j.script (entries j.proposal) r → uncovered_or r (shows_by t j) ≡ some v
        → ScriptVerdict j.script (entries j.proposal) v
    of_covering given (Ok u) h e = shows_by_lem t j given h v e
    of_covering given (Err c) h e =
        let is : cover_numbers c ≡ v = cc in
        subst (ScriptVerdict j.script (entries j.proposal)) is (of_cover c h)

  of_reading_lem : (r : Read Job) → job s ≡ r → of_reading t r ≡ some v → JobVerdict s v
  of_reading_lem (whole j end) reads e = readable reads (of_covering j (job_given s bytes j end reads) (cover_by j) (cover_by_lem j) e)
  of_reading_lem (refused f at) reads e =
      let is : prints (form_number f) at 0 0 ≡ v = cc in
      subst (JobVerdict s) is (unreadable reads)
  of_reading_lem unfinished reads e = absurd (let z : ◌≡◌ {A = ℕ} 0 1 = cc in omega arith)

  pub verdict_by_lem : verdict_by t s ≡ some v → JobVerdict s v
  unfolding verdict_by
  verdict_by_lem e = of_reading_lem (job s) refl e
