-- Bytes in hexadecimal, in capitals.
use Rattle.std.specs.Prelude.{ℕ, ◌+◌, ◌/◌, ◌%◌, List, [], ◌∷◌, ◌++◌, cond, ltb}

-- `0` is 48, `A` is 65.
abbrev pub hex_digit : ℕ → ℕ
hex_digit d = cond (ltb d 10) (48 + d) (55 + d)

-- Two digits for each byte, the high one first.
abbrev pub digits_of : ℕ → List ℕ
digits_of b = hex_digit (b / 16) ∷ hex_digit (b % 16) ∷ []

unfoldable pub spelt : List ℕ → List ℕ
spelt [] = []
spelt (b ∷ bs) = digits_of b ++ spelt bs
