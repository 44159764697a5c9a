-- What demand 3 claims: for a job that the check accepts, whatever its proposal says, and every list of choices, however long, the
-- run over that list (document 01, "A run") shows only right pages, those in a frame (document 02, F-3) among them.
use Rattle.std.specs.Prelude.{ℕ, ◌≡◌, List}
use Rattle.verdicts.specs.declared.Numbers.{Numbers}
use Rattle.commands.specs.Reading.{whole}
use Rattle.pages.specs.Items.{Items}
use Rattle.pages.specs.RightPages.{Right, ◌∈◌}
use Rattle.programs.specs.Runs.{Choice, shown}
use Rattle.jobs.specs.Job.{Script, Job, job}

-- Every page that a run of the script over a list of choices shows is right.
abbrev pub ShowsOnlyRightPages : Script → List Choice → Type 0
ShowsOnlyRightPages π choices =
    (page : Items) → page ∈ shown π.templates π.program choices → Right π.vocabulary page

-- What a verdict of a job's bytes claims: if it is acceptance, N is 0, the job reads, and every run of its script shows only right pages.
abbrev pub Guarantee : List ℕ → Numbers → Type 0
Guarantee s verdict =
    verdict.n ≡ 0 → (j : Job) × (end : ℕ) × (job s ≡ whole j end) × ((choices : List Choice) → ShowsOnlyRightPages j.script choices)
