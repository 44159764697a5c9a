-- One step of the walks over items and attributes that were read: what stands at an offset, and the position after it. Bytes that were
-- read have their operands in range, so the remainders change nothing there.
use Rattle.std.specs.Prelude.{ℕ, ◌+◌, ◌%◌, ◌<◌, ◌≤◌, ◌≡◌, List, cond, length, ltb, eqb}
use Rattle.commands.specs.declared.Position.{Position}
use Rattle.commands.specs.Commands.{byte, strings}
use Rattle.commands.specs.Reading.{whole}
use Rattle.pages.specs.declared.Kind.{Kind}
use Rattle.pages.specs.declared.ItemHere.{ItemHere}
use Rattle.pages.specs.declared.ItemHere.TheVariants.{Text, Gap, Element, Blank, End}
use Rattle.pages.specs.declared.AttributeHere.{AttributeHere}
use Rattle.pages.specs.declared.AttributeHere.TheVariants.{Fixed, Open, Done}
use Rattle.pages.specs.Items.{Attribute}
use Rattle.pages.specs.ItemReading.{attributes}

-- `21`, `22 g`, `23 e`, `29`; anything else ends a list of items.
abbrev pub item_of : List ℕ → ℕ → ℕ → ItemHere
item_of s at code =
    cond (eqb code 0x21) (Text (record { at = at + 1 }))
    (cond (eqb code 0x22) (Gap (byte s (at + 1) % 8) (record { at = at + 2 }))
    (cond (eqb code 0x23) (Element (byte s (at + 1) % 64) (record { at = at + 2 }))
    (cond (eqb code 0x29) (Blank (record { at = at + 1 }))
    (End (record { at = at + 1 })))))

unfoldable pub item_here : List ℕ → ℕ → ItemHere
item_here s at = cond (ltb at (length s)) (item_of s at (byte s at)) (End (record { at = at }))

-- `24 a s`, `25 a h`, `28 a`; anything else is no attribute.
abbrev pub attribute_of : List ℕ → ℕ → ℕ → AttributeHere
attribute_of s at code =
    cond (eqb code 0x24) (Fixed (byte s (at + 1) % 32) (byte s (at + 2) % 64) (record { at = at + 3 }))
    (cond (eqb code 0x25) (Open (byte s (at + 1) % 32) (byte s (at + 2) % 8) (record { at = at + 3 }))
    (cond (eqb code 0x28) (Fixed (byte s (at + 1) % 32) strings (record { at = at + 2 }))
    Done))

unfoldable pub attribute_here : List ℕ → ℕ → AttributeHere
attribute_here s at = cond (ltb at (length s)) (attribute_of s at (byte s at)) Done

-- A step inside the bytes, onward.
pub record Steps (s : List ℕ) (at next : ℕ) : Type 0 where
  pub inside : at < length s
  pub forward : at < next

unfoldable pub ItemMoves : List ℕ → ℕ → ItemHere → Type 0
ItemMoves s at (Text next) = Steps s at next.at
ItemMoves s at (Gap g next) = Steps s at next.at × (g < 8)
ItemMoves s at (Element e next) = Steps s at next.at × (e < 64)
ItemMoves s at (Blank next) = Steps s at next.at
ItemMoves s at (End next) = at ≤ next.at

unfoldable pub AttributeMoves : List ℕ → ℕ → AttributeHere → Type 0
AttributeMoves s at (Fixed name string next) = Steps s at next.at × (name < 32) × (string ≤ strings)
AttributeMoves s at (Open name gap next) = Steps s at next.at × (name < 32) × (gap < 8)
AttributeMoves s at Done = Unit {0}

-- The position after attributes.
abbrev pub AfterAttributes : List ℕ → ℕ → Position → Type 0
AfterAttributes s at r = (k : Kind) (before : List ℕ) (f end : ℕ) (δ : List Attribute) → attributes f k s before at ≡ whole δ end → attribute_here s end ≡ Done → r.at ≡ end
