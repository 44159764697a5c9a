-- Words that only gain bits: their sum is what a fixed point over them goes by.
use Rattle.std.specs.Prelude.{ℕ, ◌+◌, ◌≤◌, ◌<◌, ◌≡◌, List, [], ◌∷◌, Bool, true, false, length}

unfoldable pub sum : List ℕ → ℕ
sum [] = 0
sum (n ∷ ns) = n + sum ns

-- By the answer: the words have changed, and their sum is higher; or they are as they were.
pub record Grows (before after : List ℕ) (changed : Bool) : Type 0 where
  pub same_length : length after ≡ length before
  pub more : sum before ≤ sum after
  pub strictly : changed ≡ true → sum before < sum after
  pub unchanged : changed ≡ false → after ≡ before
