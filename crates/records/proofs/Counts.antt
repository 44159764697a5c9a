-- A number of bytes that came, as what it is the number of promises it.
use Prim.Native.Nat.{ℕ, ◌≤◌}
use mathlib.Core.Path.{◌≡◌, refl}
use Rattle.std.specs.Prelude.{Result, Ok, Err, IfOk}
use Rattle.records.specs.declared.NoSlice.{NoSlice}

-- What is found and is no number of bytes.
pub others_in : (most : ℕ) (r : Result ℕ NoSlice) → ((n : ℕ) → r ≡ Ok n → ⊥) → IfOk r (λ n. n ≤ most)
others_in most (Ok n) k = absurd (k n refl)
others_in most (Err e) k = tt
