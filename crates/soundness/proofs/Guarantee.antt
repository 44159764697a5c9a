-- Demand 3: an accepted job's runs show only right pages, whatever its proposal says, over every list of choices.
use Prim.Native.Nat.{ℕ}
use mathlib.Core.Path.{◌≡◌}
use mathlib.Core.List.{List}
use native.Mathlib.Omega.{arith}
use Rattle.verdicts.specs.declared.Numbers.{Numbers}
use Rattle.verdicts.specs.Printed.{element_fault}
use Rattle.verdicts.proofs.Told.{form_refuses, fault_refuses}
use Rattle.programs.specs.Runs.{Choice}
use Rattle.summaries.specs.Summaries.{Environment}
use Rattle.jobs.specs.Job.{Script}
use Rattle.jobs.specs.JobVerdict.{ScriptVerdict, start_uncovered, step_uncovered, not_root, wrong_element, accepted, JobVerdict, unreadable, readable}
use Rattle.jobs.specs.Guarantee.{Guarantee, ShowsOnlyRightPages}
use Rattle.soundness.proofs.Run.{InRange, all_right}
use Rattle.soundness.proofs.Ranges.{job_in_range}

-- The runs of a script that is accepted with some entries show only right pages.
script_shows_right : {π : Script} {E : ℕ → Environment} {v : Numbers} → InRange π.program → v.n ≡ 0 → ScriptVerdict π E v
    → (choices : List Choice) → ShowsOnlyRightPages π choices
script_shows_right r e (start_uncovered h n b) = absurd (omega (arith, e))
script_shows_right r e (step_uncovered second starts h n b) = absurd (omega (arith, e))
script_shows_right r e (not_root c shows n l) = absurd (omega (arith, e))
script_shows_right r e (wrong_element {p = p} {t = t} {at = at} {b = b} c shows n f l) = absurd (fault_refuses (element_fault p t at b) e)
script_shows_right {π} {E} r e (accepted covered shows) = all_right π E r covered shows

-- The job's verdict keeps what demand 3 claims.
pub guarantee : (s : List ℕ) (v : Numbers) → JobVerdict s v → Guarantee s v
guarantee s v (unreadable {f = f} q) e = absurd (form_refuses f e)
guarantee s v (readable {j = j} {end = end} reads h) e = (j, end, reads, script_shows_right (job_in_range s j end reads) e h)
