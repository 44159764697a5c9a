-- The commands of document 01, "A job, command by command", and of document 02's F-2 (`29`) and F-3 (`39`): which operands each has, the
-- operands' ranges, where it may stand, and what is read at an offset. A command's first byte is written as there, in hexadecimal. `04`,
-- `26` and `27` have no operand and one place each; they are told where clauses and items are read.
use Rattle.std.specs.Prelude.{ℕ, zero, suc, ◌+◌, ◌*◌, List, [], ◌∷◌, Bool, true, cond, ◌&&◌, ◌||◌, not, length, get_or, leb, ltb, eqb}
pub use Rattle.strings.specs.Strings.{strings, empty_string}
use Rattle.verdicts.specs.declared.Form.TheVariants.{Ended, NotAllowed, OutOfRange}
use Rattle.commands.specs.declared.Context.{Context}
use Rattle.commands.specs.declared.Context.TheVariants.{Rules, Attributes, Contents, Formulas, Templates, TemplateItems, TemplateAttributes, PageItems, PageAttributes, FirstStatement, Statements, Heads, TemplateHoldings, StringHoldings}
use Rattle.commands.specs.declared.Decoded.{Decoded}
use Rattle.commands.specs.declared.Decoded.TheVariants.{Moved, Refused}

-- What an operand names. A set of strings is eight bytes, highest first; every other operand is one byte.
pub data Operand : Type 0 where
  element attribute content gap string variable entry template point strings_set : Operand

abbrev pub width : Operand → ℕ
width element = 1
width attribute = 1
width content = 1
width gap = 1
width string = 1
width variable = 1
width entry = 1
width template = 1
width point = 1
width strings_set = 8

-- A format: a command's first byte, and its operands.
pub record Format : Type 0 where
  pub code : ℕ
  pub operands : List Operand

abbrev pub ◌▸◌ : ℕ → List Operand → Format
◌▸◌ c os = record { code = c; operands = os }

infixr 20 ◌▸◌
-- The commands that have operands, part by part: vocabulary and formulas, templates and pages, program, proposal. Any other has none.
abbrev pub formats : List Format
formats =
    (0x01 ▸ element ∷ [])
    ∷ (0x02 ▸ attribute ∷ [])
    ∷ (0x03 ▸ content ∷ [])
    ∷ (0x05 ▸ element ∷ [])
    ∷ (0x14 ▸ attribute ∷ [])
    ∷ (0x15 ▸ content ∷ [])
    ∷ (0x16 ▸ content ∷ content ∷ [])
    ∷ (0x17 ▸ attribute ∷ strings_set ∷ [])
    ∷ (0x22 ▸ gap ∷ [])
    ∷ (0x23 ▸ element ∷ [])
    ∷ (0x24 ▸ attribute ∷ string ∷ [])
    ∷ (0x25 ▸ attribute ∷ gap ∷ [])
    ∷ (0x28 ▸ attribute ∷ [])
    ∷ (0x30 ▸ variable ∷ variable ∷ point ∷ point ∷ [])
    ∷ (0x31 ▸ variable ∷ template ∷ point ∷ point ∷ [])
    ∷ (0x32 ▸ variable ∷ variable ∷ point ∷ point ∷ [])
    ∷ (0x33 ▸ variable ∷ string ∷ point ∷ point ∷ [])
    ∷ (0x34 ▸ variable ∷ point ∷ point ∷ [])
    ∷ (0x35 ▸ variable ∷ variable ∷ gap ∷ variable ∷ point ∷ point ∷ [])
    ∷ (0x36 ▸ variable ∷ variable ∷ gap ∷ variable ∷ point ∷ point ∷ [])
    ∷ (0x37 ▸ variable ∷ point ∷ point ∷ [])
    ∷ (0x39 ▸ variable ∷ template ∷ gap ∷ point ∷ point ∷ [])
    ∷ (0x40 ▸ point ∷ entry ∷ [])
    ∷ (0x41 ▸ template ∷ [])
    ∷ (0x42 ▸ template ∷ gap ∷ template ∷ [])
    ∷ (0x43 ▸ template ∷ gap ∷ string ∷ [])
    ∷ (0x44 ▸ template ∷ gap ∷ [])
    ∷ (0x45 ▸ gap ∷ template ∷ [])
    ∷ (0x46 ▸ gap ∷ template ∷ [])
    ∷ (0x47 ▸ string ∷ [])
    ∷ []

abbrev pub lookup : ℕ → List Format → List Operand
lookup c [] = []
lookup c (f ∷ fs) = cond (eqb c f.code) f.operands (lookup c fs)

unfoldable pub operands_of : ℕ → List Operand
operands_of c = lookup c formats

abbrev pub widths : List Operand → ℕ
widths [] = 0
widths (o ∷ os) = width o + widths os

-- How many bytes follow a command's first byte.
unfoldable pub operand_bytes : ℕ → ℕ
unfolding operands_of
operand_bytes c = widths (operands_of c)

-- The byte at an offset; 0, which no command begins with, past the end.
abbrev pub byte : List ℕ → ℕ → ℕ
byte s i = get_or s i 0

-- The number that the n bytes from an offset spell, highest first.
unfoldable pub spelt : ℕ → List ℕ → ℕ → ℕ → ℕ
spelt zero s i m = m
spelt (suc n) s i m = spelt n s (suc i) (m * 256 + byte s i)

-- The set of strings that stands at an offset: bit i of the number, counted from the lowest, stands for string i.
abbrev pub set_at : List ℕ → ℕ → ℕ
set_at s i = spelt 8 s i 0

-- Templates and points have no range here: one that is not there gives another refusal (8).
unfoldable pub in_range : Operand → List ℕ → ℕ → Bool
unfolding spelt
in_range element s i = leb 1 (byte s i) && leb (byte s i) 63
in_range attribute s i = leb (byte s i) 31
in_range content s i = leb (byte s i) 63
in_range gap s i = leb (byte s i) 7
in_range string s i = ltb (byte s i) strings
in_range variable s i = leb (byte s i) 3
in_range entry s i = leb (byte s i) 7
in_range template s i = true
in_range point s i = true
in_range strings_set s i = not (eqb (set_at s i) 0)

-- Whether the operands that stand from an offset on are all in range.
unfoldable pub all_in_range : List Operand → List ℕ → ℕ → Bool
unfolding in_range
all_in_range [] s i = true
all_in_range (o ∷ os) s i = in_range o s i && all_in_range os s (i + width o)

abbrev pub between : ℕ → ℕ → ℕ → Bool
between low high c = leb low c && leb c high

abbrev pub either : ℕ → ℕ → ℕ → Bool
either a b c = eqb c a || eqb c b

-- Which commands may stand at a place. An item may follow in an element as outside it; what ends a list of items is told apart
-- where lists are read. `28` stands in pages alone, `22` and `25` in templates alone; `29`, blank text (document 02, F-2), where `21` does.
unfoldable pub allowed : Context → ℕ → Bool
allowed Rules c = either 0x01 0x05 c
allowed Attributes c = eqb c 0x02
allowed Contents c = eqb c 0x03
allowed Formulas c = between 0x10 0x17 c
allowed Templates c = either 0x20 0x2F c
allowed TemplateItems c = between 0x21 0x23 c || eqb c 0x29
allowed TemplateAttributes c = either 0x24 0x25 c
allowed PageItems c = either 0x21 0x23 c || eqb c 0x29
allowed PageAttributes c = either 0x24 0x28 c
allowed FirstStatement c = between 0x30 0x39 c
allowed Statements c = between 0x30 0x39 c || eqb c 0x3F
allowed Heads c = either 0x40 0x4F c
allowed TemplateHoldings c = between 0x41 0x46 c
allowed StringHoldings c = either 0x47 0x48 c

-- What is read at an offset, in the order in which document 01 tests one command: the bytes end before it (2, at the length);
-- it may not stand there (3); the bytes end in it (2); an operand is out of range (4).
unfoldable pub command : Context → List ℕ → ℕ → Decoded
unfolding allowed operand_bytes operands_of all_in_range
command x s at =
    cond (ltb at (length s))
    (cond (allowed x (byte s at))
    (cond (ltb (at + operand_bytes (byte s at)) (length s))
    (cond (all_in_range (operands_of (byte s at)) s (at + 1))
    (Moved (byte s at) (record { at = at + 1 + operand_bytes (byte s at) }))
    (Refused OutOfRange at))
    (Refused Ended at))
    (Refused NotAllowed at))
    (Refused Ended (length s))
