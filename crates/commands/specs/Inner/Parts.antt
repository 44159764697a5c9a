-- What it means that code that reads a part agrees with the definition that reads it: the same end, or the same refusal.
use Rattle.std.specs.Prelude.{ℕ, ◌+◌, ◌-◌, ◌<◌, ◌≡◌, List, [], ◌∷◌, true, cond, length, leb, ltb, eqb, Option, Some, None, Result, Ok, Err}
use Rattle.verdicts.specs.declared.Form.TheVariants.{Ended}
use Rattle.commands.specs.declared.Context.{Context}
use Rattle.commands.specs.declared.Decoded.{Decoded}
use Rattle.commands.specs.declared.Decoded.TheVariants.{Moved, Refused}
use Rattle.commands.specs.declared.Position.{Position}
use Rattle.commands.specs.declared.ReadError.{ReadError}
use Rattle.commands.specs.Commands.{Operand, width, operands_of, operand_bytes, byte, in_range, allowed}
use Rattle.commands.specs.Reading.{Read, whole, refused, unfinished}

-- Where both are whole, P says what else the part's tree and its end are to be.
abbrev pub AgreesAs : {A : Type 0} → (A → ℕ → Type 0) → Read A → Result Position ReadError → Type 0
AgreesAs P (whole a end) (Ok p) = (p.at ≡ end) × P a end
AgreesAs P (whole a end) (Err e) = ⊥
AgreesAs P (refused f at) (Ok p) = ⊥
AgreesAs P (refused f at) (Err e) = (f ≡ e.form) × (at ≡ e.at)
AgreesAs P unfinished r = ⊥

abbrev pub Agrees : {A : Type 0} → Read A → Result Position ReadError → Type 0
Agrees r p = AgreesAs (λ a end. Unit {0}) r p

-- Where the code gives a value with the position after the part, P says what the value is to be for the part's tree.
abbrev pub AgreesWith : {A B : Type 0} → (A → B → Type 0) → Read A → Result (B × Position) ReadError → Type 0
AgreesWith P (whole a end) (Ok (b, p)) = (p.at ≡ end) × P a b
AgreesWith P (whole a end) (Err e) = ⊥
AgreesWith P (refused f at) (Ok (b, p)) = ⊥
AgreesWith P (refused f at) (Err e) = (f ≡ e.form) × (at ≡ e.at)
AgreesWith P unfinished r = ⊥

-- A fuel that is enough for reading from an offset on.
abbrev pub Enough : List ℕ → ℕ → ℕ → Type 0
Enough s at f = (length s - at) + (length s - at) + 1 < f

-- A command of one operand, a byte of at most `most`, that may stand at a place.
pub record Single (x : Context) (c most : ℕ) : Type 0 where
  pub may_stand : allowed x c ≡ true
  pub operand : Operand
  pub alone : operands_of c ≡ operand ∷ []
  pub is_byte : width operand ≡ 1
  pub range : (s : List ℕ) (i : ℕ) → in_range operand s i ≡ leb (byte s i) most

-- The command at an offset of bytes that were read: what was tested then is not tested again.
unfoldable pub stepped : List ℕ → ℕ → Decoded
unfolding operand_bytes
stepped s at = cond (ltb at (length s)) (Moved (byte s at) (record { at = at + 1 + operand_bytes (byte s at) })) (Refused Ended (length s))

-- A command alone as a part.
abbrev pub part_of : Decoded → Result Position ReadError
part_of (Moved code next) = Ok next
part_of (Refused f at) = Err (record { form = f; at = at })

-- The position after a byte, if it stands at an offset.
unfoldable pub past : List ℕ → ℕ → ℕ → Option Position
past s at code = cond (ltb at (length s)) (cond (eqb (byte s at) code) (Some (record { at = at + 1 })) None) None
