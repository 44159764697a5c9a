-- What a buffer of 65,536 bytes tells of a script, and that what is written lies within the buffer lent for it.
use Prim.Native.Nat.{ℕ, ◌+◌, ◌≤◌}
use native.Mathlib.Omega.{arith}
use mathlib.Core.Path.{◌≡◌, sym, ◌∙◌}
use mathlib.Core.List.{List}
use lib.ListN.{length, take, drop, length-append}
use borrow.Author.Tests.{lt-leb}
use Rattle.verdicts.specs.TheVerdict.{TheVerdict}
use Rattle.vocabularies.specs.VocabularyReading.{most_bytes}
use Rattle.jobs.specs.LeastEntries.{proposal_bytes}
use Rattle.jobs.specs.Inference.{script_slice, Outcome, Infers, unreadable, work_too_short, does_not_fit, proposal_written}
use Rattle.buffers.specs.Inputs.{ReadInto}
use Rattle.buffers.proofs.Laws.{SameOfLong, read_same, the_same}

script_too_long : SameOfLong script_slice
unfolding script_slice
script_too_long s s' l l' = rw (lt-leb (length s) most_bytes l, lt-leb (length s') most_bytes l')

-- The outcome of a script is one of what is read.
module _ {work buffer : List ℕ} {place : ℕ} where
  of_script : {s s' : List ℕ} → script_slice s ≡ script_slice s' → (o : Outcome) → Infers s work buffer place o → Infers s' work buffer place o
  of_script e o (unreadable r) = unreadable (sym e ∙ r)
  of_script e o (work_too_short r l) = work_too_short (sym e ∙ r) l
  of_script e o (does_not_fit r w least f) = does_not_fit (sym e ∙ r) w least f
  of_script e o (proposal_written r w least f) = proposal_written (sym e ∙ r) w least f

  pub script_outcome : (script : List ℕ) (n : ℕ) → length script ≡ 65536 → (o : Outcome) → TheVerdict (Infers (take n script) work buffer place) o
      → (input : List ℕ) → ReadInto script n input → TheVerdict (Infers input work buffer place) o
  script_outcome script n h o t input i =
      let q = read_same script_slice script_too_long script n input h i in
      the_same (of_script q, of_script (sym q)) t

-- What was written lies within the buffer.
pub written_within : {job work buffer : List ℕ} (o : Outcome) → Infers job work buffer 0 o → o.written ≤ length o.buffer
written_within o (unreadable r) = omega arith
written_within o (work_too_short r l) = omega arith
written_within o (does_not_fit r w least f) = omega arith
written_within {job} {work} {buffer} o (proposal_written {π = π} {E = E} r w least f) =
    let bytes = proposal_bytes π E in
    omega (arith, length-append bytes (drop (0 + length bytes) buffer))
