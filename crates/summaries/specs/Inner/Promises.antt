-- What the code that reads proposals promises, in terms of the definitions that read them.
use Rattle.std.specs.Prelude.{ℕ, ◌+◌, ◌*◌, ◌^◌, ◌≤◌, ◌<◌, ◌≡◌, List, [], cond, get_or, leb, ltb, eqb, Result}
use Rattle.verdicts.specs.declared.Form.TheVariants.{NotRising, Missing}
use Rattle.commands.specs.declared.Context.{Context}
use Rattle.commands.specs.declared.Context.TheVariants.{Heads}
use Rattle.commands.specs.declared.Decoded.{Decoded}
use Rattle.commands.specs.declared.Decoded.TheVariants.{Moved, Refused}
use Rattle.commands.specs.declared.Position.{Position}
use Rattle.commands.specs.declared.ReadError.{ReadError}
use Rattle.commands.specs.Commands.{byte, command}
use Rattle.commands.specs.Reading.{whole}
use Rattle.commands.specs.Inner.Parts.{AgreesAs, Enough}
use Rattle.summaries.specs.Proposal.{Head}
use Rattle.summaries.specs.ProposalReading.{rank, holdings, variable_of, holding_context, proposal}
use Rattle.summaries.specs.Summaries.{under}

-- The items under the head of a variable at a point stand at an offset; 0: it has no head.
pub record Stand (count : ℕ) (s : List ℕ) (hs : List Head) (p v offset : ℕ) : Type 0 where
  pub none : offset ≡ 0 → under hs p (variable_of v) ≡ []
  pub some : (offset ≡ 0 → ⊥) → (f : ℕ) → Enough s offset f
      → (end : ℕ) × (holdings f (holding_context (variable_of v)) count s 0 offset ≡ whole (under hs p (variable_of v)) end)

-- The heads that are at least `least`, as p * 8 + v, stand where they are kept; there are no others.
pub record Kept (count : ℕ) (s : List ℕ) (least : ℕ) (heads : List ℕ) (hs : List Head) : Type 0 where
  pub stand : (p v : ℕ) → p < 32 → v < 8 → least ≤ p * 8 + v → Stand count s hs p v (get_or heads (p * 8 + v) 0)
  pub others : (p v : ℕ) → v < 8 → p * 8 + v < least → under hs p (variable_of v) ≡ []

-- At every fuel that is enough.
abbrev pub ProposalReads : ℕ → ℕ → List ℕ → ℕ → ℕ → List ℕ → Result Position ReadError → Type 0
ProposalReads count points s least at heads r =
    (f : ℕ) → Enough s at f → AgreesAs (λ hs end. Kept count s least heads hs) (proposal f count points s least at) r

-- The steps on the way. An operand of a command that has n of them:
abbrev pub present_at : List ℕ → ℕ → ℕ → ℕ → ℕ
present_at s at n i = cond (leb i n) (byte s (at + i)) 0

pub record Ranked (s : List ℕ) (at code r : ℕ) : Type 0 where
  pub is : r ≡ rank s at code
  pub low : r < 2 ^ 32

abbrev pub HoldingsRead : Context → ℕ → List ℕ → ℕ → ℕ → Result Position ReadError → Type 0
HoldingsRead x count s least at r = (f : ℕ) → Enough s at f → AgreesAs (λ φs end. at ≤ end) (holdings f x count s least at) r

-- A head, or `4F`, with what is tested on it alone, in document 01's order: 8 before 5.
abbrev pub tested_head : ℕ → List ℕ → ℕ → ℕ → Decoded → Decoded
tested_head points s least at (Moved code next) =
    cond (eqb code 0x4F)
    (Moved code next)
    (cond (ltb (byte s (at + 1)) points)
    (cond (leb least (byte s (at + 1) * 8 + byte s (at + 2))) (Moved code next) (Refused NotRising at))
    (Refused Missing at))
tested_head points s least at (Refused form n) = Refused form n

abbrev pub head_here : ℕ → List ℕ → ℕ → ℕ → Decoded
head_here points s least at = tested_head points s least at (command Heads s at)
