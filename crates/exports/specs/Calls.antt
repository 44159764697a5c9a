-- The answers of the calls for C (document 01, "Verdicts"; document 02, F-1): the four numbers of the verdict, in their order, and, for a
-- call that writes, the number of bytes written after them.
use Rattle.std.specs.Prelude.{ℕ, ◌≡◌, List, [], ◌∷◌, ◌++◌}
use Rattle.verdicts.specs.declared.Numbers.{Numbers}
use Rattle.verdicts.specs.TheVerdict.{TheVerdict}
use Rattle.pages.specs.PageVerdict.{PageVerdict}
use Rattle.jobs.specs.JobVerdict.{JobVerdict}
use Rattle.jobs.specs.Guarantee.{Guarantee}
use Rattle.jobs.specs.Inference.{ends, Infers, Completes}

abbrev pub four : Numbers → List ℕ
four v = v.n ∷ v.a ∷ v.b ∷ v.c ∷ []

-- The one verdict of this page under this vocabulary was written.
pub record Judged (vocabulary page written : List ℕ) : Type 0 where
  pub verdict : Numbers
  pub is : TheVerdict (PageVerdict vocabulary page) verdict
  pub written_is : written ≡ four verdict

-- The one verdict of this job was written, and what it claims of the job's runs holds.
pub record Checked (job written : List ℕ) : Type 0 where
  pub verdict : Numbers
  pub is : TheVerdict (JobVerdict job) verdict
  pub written_is : written ≡ four verdict
  pub shows_only_right_pages : Guarantee job verdict

-- The numbers told, and what is left in the work area and in the buffer, are the one outcome for this script and the memory lent; after
-- success the bytes written complete the job (`Completes`).
pub record Inferred (job work buffer : List ℕ) (place : ℕ) (answer work' buffer' : List ℕ) : Type 0 where
  pub verdict : Numbers
  pub written : ℕ
  pub is : TheVerdict (Infers job work buffer place) (ends verdict written work' buffer')
  pub answer_is : answer ≡ four verdict ++ written ∷ []
  pub completes : Completes job place (ends verdict written work' buffer')
