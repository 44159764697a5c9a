-- What the bytes that came from standard input make of a record.
use Rattle.std.specs.Prelude.{ℕ, zero, suc, ◌+◌, ◌*◌, List, [], ◌∷◌, Bool, false, cond, ◌&&◌, ℤ, pos, negsuc, eqb, ltb, Option, Some, None, Result, Ok, Err}
use Rattle.records.specs.declared.Attempt.{Attempt}
use Rattle.records.specs.declared.Attempt.TheVariants as Attempts
use Rattle.records.specs.declared.ReadFailed.{ReadFailed}
use Rattle.records.specs.declared.NoSlice.{NoSlice}
use Rattle.records.specs.declared.NoSlice.TheVariants as NoSlices

-- EINTR: a signal interrupted the call.
abbrev pub interrupted : Option ℤ → Bool
interrupted (Some (pos e)) = eqb e 4
interrupted (Some (negsuc e)) = false
interrupted None = false

-- Only a `read` that answers 0 is the end of the input; one that was interrupted is tried again; any other failure is one.
abbrev pub attempt_of : Result ℕ (Option ℤ) → Attempt
attempt_of (Ok n) = cond (eqb n 0) Attempts.Ended (Attempts.Got n)
attempt_of (Err error) = cond (interrupted error) Attempts.Interrupted Attempts.Failed

-- The number that so many first bytes spell, lowest first.
unfoldable pub number_of : ℕ → List ℕ → ℕ
number_of zero bs = 0
number_of (suc k) [] = 0
number_of (suc k) (b ∷ bs) = b + 256 * number_of k bs

-- The input ended in a part of a record, of which this many bytes came. It ended before the record where the record begins with the
-- part and no byte came, and inside the record otherwise.
abbrev pub ended_at : Bool → ℕ → NoSlice
ended_at begins got = cond (begins && eqb got 0) NoSlices.Ended NoSlices.CutOff

-- The length of a slice is what its first four bytes spell.
abbrev pub start_of : Bool → List ℕ → Result ℕ ReadFailed → Result ℕ NoSlice
start_of begins head (Err failed) = Err NoSlices.Failed
start_of begins head (Ok got) = cond (ltb got 4) (Err (ended_at begins got)) (Ok (number_of 4 head))

-- Of bytes of a slice, all that were asked for have to come.
abbrev pub part_of : ℕ → Result ℕ ReadFailed → Result ℕ NoSlice
part_of asked (Err failed) = Err NoSlices.Failed
part_of asked (Ok got) = cond (ltb got asked) (Err NoSlices.CutOff) (Ok asked)
