-- The items under a head, where they stand in the bytes of a job. Nothing here is a definition of document 01: it is what reading a
-- proposal leaves for code that walks over the items again.
use Rattle.std.specs.Prelude.{ℕ, ◌+◌, ◌%◌, ◌<◌, ◌≡◌, List, [], ◌∷◌, true, false, cond, length, eqb, Option, Some, None}
use Rattle.commands.specs.declared.Context.{Context}
use Rattle.commands.specs.declared.Position.{Position}
use Rattle.commands.specs.Commands.{strings, byte, allowed, operand_bytes}
use Rattle.summaries.specs.Proposal.{Claim, root, edge, string, gap_from, attribute_gap_from, Holding, claim, any_at, one_string, any_string}
use Rattle.summaries.specs.ProposalReading.{holding_at}
use Rattle.summaries.specs.declared.Claim as Declared
use Rattle.summaries.specs.declared.Claim.TheVariants.{Root, Edge, String, AnyString, GapFrom, AttributeGapFrom}
use Rattle.summaries.specs.declared.StringClaim.{StringClaim}
use Rattle.summaries.specs.declared.StringClaim.TheVariants.{One, Any}

-- The ranges of an item's numbers: templates below 32, gaps below 8, strings among the named ones.
abbrev pub ClaimFits : Claim → Type 0
ClaimFits (root n) = n < 32
ClaimFits (edge n g m) = (n < 32) × (g < 8) × (m < 32)
ClaimFits (string n h s) = (n < 32) × (h < 8) × (s < strings)
ClaimFits (gap_from g n) = (g < 8) × (n < 32)
ClaimFits (attribute_gap_from h n) = (h < 8) × (n < 32)

abbrev pub HoldingFits : Holding → Type 0
HoldingFits (claim c) = ClaimFits c
HoldingFits (any_at n h) = (n < 32) × (h < 8)
HoldingFits (one_string s) = s < strings
HoldingFits any_string = Unit {0}

pub record ItemAt (x : Context) (s : List ℕ) (at : ℕ) (y : Holding) : Type 0 where
  pub permitted : allowed x (byte s at) ≡ true
  pub is : y ≡ holding_at s at (byte s at)
  pub fits : HoldingFits y

-- The offset after the command at an offset.
abbrev pub over : List ℕ → ℕ → ℕ
over s at = at + 1 + operand_bytes (byte s at)

-- The items from an offset on, up to the first command that is none of them.
unfoldable pub Listed : Context → List ℕ → ℕ → List Holding → Type 0
Listed x s at [] = allowed x (byte s at) ≡ false
Listed x s at (y ∷ ys) = ItemAt x s at y × Listed x s (over s at) ys

-- What an item says, as the code takes it apart.
abbrev pub meaning_of : Declared.Claim → Holding
meaning_of (Root n) = claim (root n)
meaning_of (Edge n g m) = claim (edge n g m)
meaning_of (String n h s) = claim (string n h s)
meaning_of (AnyString n h) = any_at n h
meaning_of (GapFrom g n) = claim (gap_from g n)
meaning_of (AttributeGapFrom h n) = claim (attribute_gap_from h n)

abbrev pub string_meaning_of : StringClaim → Holding
string_meaning_of (One s) = one_string s
string_meaning_of Any = any_string

-- The item of a command whose operands are o 1, o 2 and so on, and the position after it, by how many bytes it takes. Numbers that are
-- out of range, which no item that was read has, are brought into it.
abbrev pub claim_of : ℕ → (ℕ → ℕ) → (ℕ → Position) → Option (Declared.Claim × Position)
claim_of code o onto =
    cond (eqb code 0x41) (Some (Root (o 1 % 32), onto 2))
    (cond (eqb code 0x42) (Some (Edge (o 1 % 32) (o 2 % 8) (o 3 % 32), onto 4))
    (cond (eqb code 0x43) (Some (String (o 1 % 32) (o 2 % 8) (o 3 % 64), onto 4))
    (cond (eqb code 0x44) (Some (AnyString (o 1 % 32) (o 2 % 8), onto 3))
    (cond (eqb code 0x45) (Some (GapFrom (o 1 % 8) (o 2 % 32), onto 3))
    (cond (eqb code 0x46) (Some (AttributeGapFrom (o 1 % 8) (o 2 % 32), onto 3))
    None)))))

abbrev pub string_of : ℕ → (ℕ → ℕ) → (ℕ → Position) → Option (StringClaim × Position)
string_of code o onto =
    cond (eqb code 0x47) (Some (One (o 1 % 64), onto 2))
    (cond (eqb code 0x48) (Some (Any, onto 1))
    None)

abbrev pub on_from : ℕ → ℕ → Position
on_from at n = record { at = at + n }

-- The item that stands at an offset.
abbrev pub claim_here : List ℕ → ℕ → Option (Declared.Claim × Position)
claim_here s at = claim_of (byte s at) (λ i. byte s (at + i)) (on_from at)

abbrev pub string_here : List ℕ → ℕ → Option (StringClaim × Position)
string_here s at = string_of (byte s at) (λ i. byte s (at + i)) (on_from at)

-- It stands inside the bytes, the position moves on, and its numbers are in range.
pub record Moves (s : List ℕ) (at : ℕ) (y : Holding) (next : Position) : Type 0 where
  pub inside : at < length s
  pub forward : at < next.at
  pub fits : HoldingFits y

abbrev pub ClaimMoves : List ℕ → ℕ → Option (Declared.Claim × Position) → Type 0
ClaimMoves s at (Some (c, next)) = Moves s at (meaning_of c) next
ClaimMoves s at None = Unit {0}

abbrev pub StringMoves : List ℕ → ℕ → Option (StringClaim × Position) → Type 0
StringMoves s at (Some (y, next)) = Moves s at (string_meaning_of y) next
StringMoves s at None = Unit {0}
