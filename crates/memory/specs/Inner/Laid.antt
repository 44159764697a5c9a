-- Bytes laid into a buffer, by which every writer says what it wrote.
use Rattle.std.specs.Prelude.{ℕ, ◌+◌, ◌≡◌, List, [], ◌∷◌, length, set}

-- The bytes are stored from an offset on; what lies before them and after them is as it was.
unfoldable pub laid : List ℕ → ℕ → List ℕ → List ℕ
laid out at [] = out
laid out at (b ∷ bs) = laid (set out at b) (at + 1) bs

-- What a writer does: from the offset on it lays bytes into the buffer, and hands back the offset after them.
abbrev pub Writes : List ℕ → ℕ → List ℕ → ℕ → List ℕ → Type 0
Writes out at bs next after = (next ≡ at + length bs) × (after ≡ laid out at bs)
