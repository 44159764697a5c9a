-- What `read` says of its answer: of a read that gave a number of bytes, and of one that failed.
use Prim.Native.Nat.{ℕ, ◌≤◌}
use native.Mathlib.Omega.{arith}
use mathlib.Core.Path.{◌≡◌, refl}
use mathlib.Core.Bool.{Bool, true, false, cond}
use lib.IntN.{ℤ}
use lib.Dec.{eqb}
use borrow.Author.Tests.{eqb-false}
use Rattle.std.specs.Prelude.{Option, Result, Ok, Err}
use Rattle.records.specs.declared.Attempt.{Attempt}
use Rattle.records.specs.declared.Attempt.TheVariants.{Got, Ended, Interrupted, Failed}
use Rattle.records.specs.Reading.{interrupted, attempt_of}
use Rattle.records.specs.Inner.Promises.{GotIn}

module _ (most : ℕ) where
  some_in : (n : ℕ) (t : Bool) → eqb n 0 ≡ t → n ≤ most → GotIn (cond t Ended (Got n)) most
  some_in n true e k = tt
  some_in n false e k = let h = eqb-false n 0 e in (omega arith, k)

  negative_in : (t : Bool) → GotIn (cond t Interrupted Failed) most
  negative_in true = tt
  negative_in false = tt

  pub read_in : (n : ℕ) (a : Attempt) → n ≤ most → a ≡ attempt_of (Ok n) → GotIn a most
  read_in n a k e = rw e (some_in n (eqb n 0) refl k)

  pub failed_in : (error : Option ℤ) (a : Attempt) → a ≡ attempt_of (Err error) → GotIn a most
  failed_in error a e = rw e (negative_in (interrupted error))
