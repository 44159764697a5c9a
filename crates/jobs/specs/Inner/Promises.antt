-- What the code that reads jobs and scripts promises, in terms of the definitions that read them.
use Rattle.std.specs.Prelude.{ℕ, ◌≤◌, ◌<◌, ◌≡◌, List, length, leb, Result, Ok, Err}
use Rattle.verdicts.specs.declared.Form.TheVariants.{TooLong, NotAllowed}
use Rattle.commands.specs.declared.Position.{Position}
use Rattle.commands.specs.declared.ReadError.{ReadError}
use Rattle.commands.specs.Reading.{Read, refused, when}
use Rattle.commands.specs.Inner.Parts.{AgreesWith}
use Rattle.vocabularies.specs.Vocabulary.{declared}
use Rattle.vocabularies.specs.VocabularyReading.{most_bytes}
use Rattle.vocabularies.specs.Inner.Promises.{Describes}
use Rattle.pages.specs.Inner.Promises.{Located}
use Rattle.programs.specs.Inner.Promises.{Tabled}
use Rattle.summaries.specs.Inner.Promises.{Kept}
use Rattle.jobs.specs.declared.ScriptRead.{ScriptRead}
use Rattle.jobs.specs.Job.{Script, Job, script, job}
use Rattle.jobs.specs.Inference.{script_slice}

-- What is kept of each part of a script.
pub record ScriptKept (s : List ℕ) (π : Script) (r : ScriptRead) : Type 0 where
  pub vocabulary : Describes s π.vocabulary r.tables
  pub templates : Located (declared π.vocabulary.rules) s π.templates r.templates.count r.templates.starts
  pub program : Tabled s (length π.templates) r.points π.program

-- What is kept of a job: of its script, and of the proposal the offsets of the items under each head.
pub record JobKept (s heads : List ℕ) (j : Job) (r : ScriptRead) : Type 0 where
  pub of_script : ScriptKept s j.script r
  pub proposal : Kept (length j.script.templates) s 0 heads j.proposal

-- Bytes that are not too many.
abbrev pub short : {A : Type 0} → List ℕ → Read A → Read A
short s r = when (leb (length s) most_bytes) (λ _. r) (λ _. refused TooLong 0)

abbrev pub FewEnough : List ℕ → Result (Unit {0}) ReadError → Type 0
FewEnough s (Ok u) = length s ≤ most_bytes
FewEnough s (Err e) = (most_bytes < length s) × (e ≡ record { form = TooLong; at = 0 })

-- The part that bytes end with: a byte after it is refused.
abbrev pub EndedAt : List ℕ → ℕ → Result (Unit {0}) ReadError → Type 0
EndedAt s at (Ok u) = length s ≤ at
EndedAt s at (Err e) = (at < length s) × (e ≡ record { form = NotAllowed; at = at })

-- The script that bytes begin with, a script that is a slice of its own, and a job.
abbrev pub ScriptReads : List ℕ → Result (ScriptRead × Position) ReadError → Type 0
ScriptReads s r = AgreesWith (ScriptKept s) (short s (script s)) r

abbrev pub SliceReads : List ℕ → Result (ScriptRead × Position) ReadError → Type 0
SliceReads s r = AgreesWith (ScriptKept s) (script_slice s) r

abbrev pub JobReads : List ℕ → List ℕ → Result (ScriptRead × Position) ReadError → Type 0
JobReads s heads r = AgreesWith (JobKept s heads) (job s) r
