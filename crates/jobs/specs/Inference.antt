-- What working out the proposal of a script answers, and what it leaves in the memory lent (document 02, F-1).
use Rattle.std.specs.Prelude.{ℕ, ◌+◌, ◌≤◌, ◌<◌, ◌≡◌, List, ◌++◌, length, take, drop, replicate}
use Rattle.verdicts.specs.declared.Form.{Form}
use Rattle.verdicts.specs.declared.Numbers.{Numbers}
use Rattle.verdicts.specs.Printed.{prints, form_number, Writing, numbers_of, verdict_of, bytes_written}
use Rattle.commands.specs.Reading.{Read, whole, refused}
use Rattle.vocabularies.specs.VocabularyReading.{most_bytes, alone}
use Rattle.summaries.specs.Summaries.{Environment}
use Rattle.jobs.specs.Job.{Script, script}
use Rattle.jobs.specs.JobVerdict.{JobVerdict}
use Rattle.jobs.specs.LeastEntries.{Least, proposal_bytes}

-- A script that is a slice of its own, read as a job is: if too long it gets 1, if cut off 2, and a byte after `3F` gets 3.
unfoldable pub script_slice : List ℕ → Read Script
unfolding script
script_slice s = alone s (script s)

-- The least length of the work area, in 64-bit numbers.
abbrev pub work_words : ℕ
work_words = 131072

-- The four numbers, the bytes written, and what the work area and the buffer hold afterwards.
pub record Outcome : Type 0 where
  pub verdict : Numbers
  pub written : ℕ
  pub work : List ℕ
  pub buffer : List ℕ

abbrev pub ends : Numbers → ℕ → List ℕ → List ℕ → Outcome
ends verdict written work buffer = record { verdict = verdict; written = written; work = work; buffer = buffer }

-- What an answer tells, with the memory that it leaves.
abbrev pub outcome : Writing → List ℕ → List ℕ → Outcome
outcome r = ends (numbers_of (verdict_of r)) (bytes_written r)

abbrev pub zeros : List ℕ → List ℕ
zeros work = replicate (length work) 0

-- A buffer with bytes stored from a place on; the others keep their values.
abbrev pub stored_at : ℕ → List ℕ → List ℕ → List ℕ
stored_at place bytes buffer = take place buffer ++ bytes ++ drop (place + length bytes) buffer

-- 1 to 8 as a job is read, then 13 for the work area: these leave both as they were. Then 13 where the proposal does not fit into the buffer
-- after the place, with the length of the proposal; no proposal fits after a place that is past the buffer's end, since `4F` is written at
-- least. It leaves the buffer as it was and the whole work area zero, and so does success, but for the bytes of the proposal.
pub data Infers (job work buffer : List ℕ) (place : ℕ) : Outcome → Type 0 where
  unreadable : {f : Form} {at : ℕ} → script_slice job ≡ refused f at
      → Infers job work buffer place (ends (prints (form_number f) at 0 0) 0 work buffer)
  work_too_short : {π : Script} {end : ℕ} → script_slice job ≡ whole π end → length work < work_words
      → Infers job work buffer place (ends (prints 13 work_words 0 0) 0 work buffer)
  does_not_fit : {π : Script} {end : ℕ} {E : ℕ → Environment} → script_slice job ≡ whole π end → work_words ≤ length work
      → Least π E → length buffer < place + length (proposal_bytes π E)
      → Infers job work buffer place (ends (prints 13 (length (proposal_bytes π E)) 0 0) 0 (zeros work) buffer)
  proposal_written : {π : Script} {end : ℕ} {E : ℕ → Environment} → script_slice job ≡ whole π end → work_words ≤ length work
      → Least π E → place + length (proposal_bytes π E) ≤ length buffer
      → Infers job work buffer place (ends (prints 0 0 0 0) (length (proposal_bytes π E)) (zeros work) (stored_at place (proposal_bytes π E) buffer))

-- A verdict of these bytes as a job is acceptance.
abbrev pub IsAccepted : List ℕ → Type 0
IsAccepted s = (v : Numbers) × (v.n ≡ 0) × JobVerdict s v

-- With this proposal a job that is not too long is accepted whenever it would be with any other bytes in the proposal's place.
abbrev pub AcceptedIfAny : List ℕ → List ℕ → Type 0
AcceptedIfAny job proposal = length (job ++ proposal) ≤ most_bytes → (other : List ℕ) → IsAccepted (job ++ other) → IsAccepted (job ++ proposal)

-- That is so of the bytes written, where the answer is success.
abbrev pub Completes : List ℕ → ℕ → Outcome → Type 0
Completes job place o = o.verdict.n ≡ 0 → AcceptedIfAny job (take o.written (drop place o.buffer))
