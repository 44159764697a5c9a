-- Reading a proposal (document 01, "A job, command by command", Proposal). Heads rise strictly by (p, v), the items under one by
-- command, then operands; each is compared as one number.
use Rattle.std.specs.Prelude.{ℕ, zero, suc, ◌+◌, ◌*◌, ◌-◌, List, [], ◌∷◌, Bool, true, cond, ◌&&◌, leb, ltb, eqb}
use Rattle.verdicts.specs.declared.Form.TheVariants.{NotRising, Missing}
use Rattle.commands.specs.declared.Context.{Context}
use Rattle.commands.specs.declared.Context.TheVariants.{Heads, TemplateHoldings, StringHoldings}
use Rattle.commands.specs.Commands.{byte, operand_bytes, allowed}
use Rattle.commands.specs.Reading.{Read, whole, refused, unfinished, and_then, on_command, when}
use Rattle.programs.specs.Program.{Variable, template_variable, string_variable}
use Rattle.summaries.specs.Proposal.{Claim, root, edge, string, gap_from, attribute_gap_from, Holding, claim, any_at, one_string, any_string, Head}

abbrev pub holding_of : ℕ → (ℕ → ℕ) → Holding
holding_of code o =
    cond (eqb code 0x41) (claim (root (o 1)))
    (cond (eqb code 0x42) (claim (edge (o 1) (o 2) (o 3)))
    (cond (eqb code 0x43) (claim (string (o 1) (o 2) (o 3)))
    (cond (eqb code 0x44) (any_at (o 1) (o 2))
    (cond (eqb code 0x45) (claim (gap_from (o 1) (o 2)))
    (cond (eqb code 0x46) (claim (attribute_gap_from (o 1) (o 2)))
    (cond (eqb code 0x47) (one_string (o 1))
    any_string))))))

abbrev pub holding_at : List ℕ → ℕ → ℕ → Holding
holding_at s at code = holding_of code (λ i. byte s (at + i))

-- Whether the templates that an item names are there; `count` are, besides template 0.
abbrev pub claim_there : ℕ → Claim → Bool
claim_there count (root t) = leb t count
claim_there count (edge n g t) = leb n count && leb t count
claim_there count (string n h s) = leb n count
claim_there count (gap_from g n) = leb n count
claim_there count (attribute_gap_from h n) = leb n count

abbrev pub holding_there : ℕ → Holding → Bool
holding_there count (claim c) = claim_there count c
holding_there count (any_at n h) = leb n count
holding_there count (one_string s) = true
holding_there count any_string = true

-- The place of an item in the order: the command, then its operands, as one number with a byte for each, so that numbers compare as
-- the lists do. Two items of one command have as many operands; absent ones are 0.
unfoldable pub rank : List ℕ → ℕ → ℕ → ℕ
unfolding operand_bytes
rank s at code = ((code * 256 + present 1) * 256 + present 2) * 256 + present 3
  where
    present : ℕ → ℕ
    present i = cond (leb i (operand_bytes code)) (byte s (at + i)) 0

-- The items under a head, each of a rank that is at least `least`, up to the first command that is none of them.
unfoldable pub holdings : ℕ → Context → ℕ → List ℕ → ℕ → ℕ → Read (List Holding)
unfolding allowed rank
holdings zero x count s least at = unfinished
holdings (suc f) x count s least at = when (allowed x (byte s at))
    (λ _. on_command x s at λ code next. when (holding_there count (holding_at s at code))
    (λ _. when (leb least (rank s at code))
    (λ _. and_then (holdings f x count s (rank s at code + 1) next) λ φs end. whole (holding_at s at code ∷ φs) end)
    (λ _. refused NotRising at))
    (λ _. refused Missing at))
    (λ _. whole [] at)

-- 0 to 3 are the template variables, 4 to 7 the string variables 0 to 3.
abbrev pub variable_of : ℕ → Variable
variable_of v = cond (ltb v 4) (template_variable v) (string_variable (v - 4))

abbrev pub holding_context : Variable → Context
holding_context (template_variable x) = TemplateHoldings
holding_context (string_variable y) = StringHoldings

-- The heads from an offset on, each at least `least` as the number p * 8 + v, which compares as (p, v) does, since v is below 8, up to `4F`, of a job with these numbers of templates and points.
unfoldable pub proposal : ℕ → ℕ → ℕ → List ℕ → ℕ → ℕ → Read (List Head)
unfolding holdings
proposal zero count points s least at = unfinished
proposal (suc f) count points s least at = on_command Heads s at λ code next. when (eqb code 0x4F)
    (λ _. whole [] next)
    (λ _. when (ltb (byte s (at + 1)) points)
    (λ _. when (leb least (byte s (at + 1) * 8 + byte s (at + 2)))
    (λ _. and_then (holdings f (holding_context (variable_of (byte s (at + 2)))) count s 0 next) λ φs after.
    and_then (proposal f count points s (byte s (at + 1) * 8 + byte s (at + 2) + 1) after) λ heads end.
    whole (record { point = byte s (at + 1); variable = variable_of (byte s (at + 2)); holdings = φs } ∷ heads) end)
    (λ _. refused NotRising at))
    (λ _. refused Missing at))
