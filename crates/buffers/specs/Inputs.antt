-- What a buffer holds once an input was read into it (document 01, "Verdicts": "A program reads a job from standard input").
use Rattle.std.specs.Prelude.{ℕ, min, ◌≡◌, List, length, take}

-- The first n bytes of the buffer are the first n of the input: all of them, or as many as the buffer holds.
pub record ReadInto (buffer : List ℕ) (n : ℕ) (input : List ℕ) : Type 0 where
  pub count : n ≡ min (length input) (length buffer)
  pub bytes : take n buffer ≡ take n input
