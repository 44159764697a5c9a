-- How many bytes were read: no more than there is room for.
use Rattle.std.specs.Prelude.{ℕ, ◌≤◌, ◌<◌, Option, Some, None, Result, Ok, Err}
use Rattle.records.specs.declared.Attempt.{Attempt}
use Rattle.records.specs.declared.Attempt.TheVariants as Attempts
use Rattle.records.specs.declared.ReadFailed.{ReadFailed}

abbrev pub GotIn : Attempt → ℕ → Type 0
GotIn (Attempts.Got n) most = (0 < n) × (n ≤ most)
GotIn Attempts.Ended most = Unit {0}
GotIn Attempts.Interrupted most = Unit {0}
GotIn Attempts.Failed most = Unit {0}

-- Of a read that has not failed: some bytes came, or the input has ended.
abbrev pub CameIn : Result (Option ℕ) ReadFailed → ℕ → Type 0
CameIn (Ok (Some n)) most = (0 < n) × (n ≤ most)
CameIn (Ok None) most = Unit {0}
CameIn (Err failed) most = Unit {0}
