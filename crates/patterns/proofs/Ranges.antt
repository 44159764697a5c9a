-- A command that was taken has its operands in range.
use Prim.Native.Nat.{ℕ, ◌+◌}
use mathlib.Core.Path.{◌≡◌, refl, subst}
use mathlib.Core.List.{List}
use mathlib.Core.Bool.{Bool, true, false, cond}
use lib.ListN.{length}
use lib.Dec.{ltb}
use Rattle.verdicts.specs.declared.Form.TheVariants.{Ended, NotAllowed, OutOfRange}
use Rattle.commands.specs.declared.Context.{Context}
use Rattle.commands.specs.declared.Decoded.TheVariants.{Moved, Refused}
use Rattle.commands.specs.Commands.{byte, allowed, operands_of, operand_bytes, all_in_range, command}
use Rattle.commands.specs.Reading.{Read, on_decoded, on_command}
use Rattle.agreement.proofs.Readings.{Gives, refuses}

pub record Ranged (x : Context) (s : List ℕ) (at code : ℕ) : Type 0 where
  pub is : code ≡ byte s at
  pub may : allowed x code ≡ true
  pub ranges : all_in_range (operands_of code) s (at + 1) ≡ true

-- The same for a command that is known.
pub ranges_of : {x : Context} {s : List ℕ} {at code : ℕ} → Ranged x s at code → (c : ℕ) → code ≡ c → all_in_range (operands_of c) s (at + 1) ≡ true
ranges_of {s = s} {at = at} t c e = subst (λ (k : ℕ). all_in_range (operands_of k) s (at + 1) ≡ true) e t.ranges

module _ {A : Type 0} {U : Type 0} {P : A → ℕ → Type 0} where
  pub gives_ranged : {k : ℕ → ℕ → Read A} (x : Context) (s : List ℕ) (at : ℕ)
      → ((code next : ℕ) → Ranged x s at code → Gives U P (k code next)) → Gives U P (on_command x s at k)
  unfolding command
  gives_ranged {k} x s at h =
      after (ltb at (length s)) (allowed x (byte s at)) (ltb (at + operand_bytes (byte s at)) (length s))
      (all_in_range (operands_of (byte s at)) s (at + 1)) refl refl
    where
      code : ℕ
      code = byte s at

      after : (there stands fits ranges : Bool) → allowed x code ≡ stands → all_in_range (operands_of code) s (at + 1) ≡ ranges
          → Gives U P (on_decoded (cond there (cond stands (cond fits (cond ranges (Moved code (record { at = at + 1 + operand_bytes code }))
          (Refused OutOfRange at)) (Refused Ended at)) (Refused NotAllowed at)) (Refused Ended (length s))) k)
      after false stands fits ranges p q = refuses
      after true false fits ranges p q = refuses
      after true true false ranges p q = refuses
      after true true true false p q = refuses
      after true true true true p q = h _ _ (record { is = refl; may = p; ranges = q })
