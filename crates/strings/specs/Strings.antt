-- Strings (document 01, "A job, command by command", Vocabulary). They are numbers.
use Rattle.std.specs.Prelude.{ℕ}

-- The named strings are 0 to 63; other strings exist without end, and are the numbers from 64 on.
abbrev pub strings : ℕ
strings = 64

-- String 0 is the empty one.
abbrev pub empty_string : ℕ
empty_string = 0
