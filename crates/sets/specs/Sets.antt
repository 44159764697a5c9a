-- Sets of numbers as words: bit i of the word, counted from the lowest, stands for the number i (document 01, `17 a m`).
use Rattle.std.specs.Prelude.{ℕ, ◌/◌, ◌%◌, ◌^◌, Bool, eqb}

unfoldable pub member : ℕ → ℕ → Bool
member set i = eqb (set / 2 ^ i % 2) 1
