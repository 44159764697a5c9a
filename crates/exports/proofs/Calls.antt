-- The numbers of a verdict, where it is the one of a page, of a job or of a script with the memory lent.
use Prim.Native.Nat.{ℕ}
use mathlib.Core.Path.{◌≡◌, refl, ap}
use mathlib.Core.List.{List, [], ◌∷◌, ◌++◌}
use Rattle.verdicts.specs.declared.Verdict.{Verdict}
use Rattle.verdicts.specs.declared.Numbers.{Numbers}
use Rattle.verdicts.specs.Printed.{Writing, numbers_of, verdict_of, bytes_written}
use Rattle.verdicts.specs.TheVerdict.{TheVerdict}
use Rattle.pages.specs.PageVerdict.{PageVerdict}
use Rattle.jobs.specs.JobVerdict.{JobVerdict}
use Rattle.jobs.specs.Guarantee.{Guarantee}
use Rattle.jobs.specs.Inference.{outcome, Infers, Completes}
use Rattle.exports.specs.Calls.{four, Judged, Checked, Inferred}

pub judged : (v p : List ℕ) (r : Verdict) → TheVerdict (PageVerdict v p) (numbers_of r) → (n : Numbers) → n ≡ numbers_of r → Judged v p (four n)
judged v p r h n e = record { verdict = numbers_of r; is = h; written_is = ap four e }

pub checked : (s : List ℕ) (r : Verdict) → TheVerdict (JobVerdict s) (numbers_of r) → Guarantee s (numbers_of r) → (n : Numbers) → n ≡ numbers_of r
    → Checked s (four n)
checked s r h g n e = record { verdict = numbers_of r; is = h; written_is = ap four e; shows_only_right_pages = g }

pub inferred : (job work buffer : List ℕ) (place : ℕ) (r : Writing) (work' buffer' : List ℕ) → TheVerdict (Infers job work buffer place) (outcome r work' buffer') → Completes job place (outcome r work' buffer')
    → (v : Verdict) → v ≡ verdict_of r → (n : Numbers) → n ≡ numbers_of v → (k : ℕ) → k ≡ bytes_written r → Inferred job work buffer place (four n ++ k ∷ []) work' buffer'
inferred job work buffer place r work' buffer' h g v is n e k l =
    record { verdict = numbers_of (verdict_of r); written = bytes_written r; is = h; answer_is = rw (e, is, l) refl; completes = g }
