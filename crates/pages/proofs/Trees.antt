-- What was read, as trees: where the code's part is whole, the definition reads one tree at every fuel that is enough, and ends where
-- the part ends.
use Prim.Native.Nat.{ℕ, ◌+◌, ◌-◌, ◌≤◌}
use mathlib.Core.Path.{◌≡◌, ◌∙◌}
use mathlib.Core.List.{List}
use mathlib.Core.Bool.{Bool}
use native.Mathlib.Omega.{arith}
use lib.ListN.{length}
use Rattle.std.specs.Prelude.{Result, Ok}
use Rattle.commands.specs.declared.Position.{Position}
use Rattle.commands.specs.declared.ReadError.{ReadError}
use Rattle.commands.specs.Reading.{whole}
use Rattle.commands.specs.Inner.Parts.{Enough}
use Rattle.pages.specs.declared.Kind.{Kind}
use Rattle.pages.specs.Items.{Items}
use Rattle.pages.specs.ItemReading.{attributes, items, item}
use Rattle.pages.specs.Inner.Promises.{AttributesRead, ItemsRead, ItemRead}
use Rattle.pages.proofs.Laws.{Onward, attributes_move, items_move, item_move, items_settle}
use Rattle.pages.proofs.Parts.{agrees_whole}

-- A fuel that is enough.
abbrev plenty : List ℕ → ℕ → ℕ
plenty s at = (length s - at) + (length s - at) + 2

pub attributes_onward : (k : Kind) (s before : List ℕ) (at : ℕ) (r : Result Position ReadError) (p : Position) → r ≡ Ok p → AttributesRead k s before at r
    → at ≤ length s → (at ≤ p.at) × (p.at ≤ length s)
attributes_onward k s before at r p e h inside =
    let w = agrees_whole _ (attributes (plenty s at) k s before at) r p e (h (plenty s at) (omega arith)) in
    attributes_move (plenty s at) k s before at w.0 p.at inside w.1

pub item_onward : (k : Kind) (ruled : ℕ → Bool) (s : List ℕ) (depth at : ℕ) (r : Result Position ReadError) (p : Position) → r ≡ Ok p
    → ItemRead k ruled s depth at r → Onward s at p.at
item_onward k ruled s depth at r p e h =
    let w = agrees_whole _ (item (plenty s at) k ruled s depth at) r p e (h (plenty s at) (omega arith)) in
    item_move (plenty s at) k ruled s depth at w.0 p.at w.1

pub record TreeRead (k : Kind) (ruled : ℕ → Bool) (s : List ℕ) (depth at end : ℕ) : Type 0 where
  pub tree : Items
  pub reads : (f : ℕ) → Enough s at f → items f k ruled s depth at ≡ whole tree end
  pub onward : Onward s at end

pub tree_read : (k : Kind) (ruled : ℕ → Bool) (s : List ℕ) (depth at : ℕ) (r : Result Position ReadError) (p : Position) → r ≡ Ok p
    → ItemsRead k ruled s depth at r → TreeRead k ruled s depth at p.at
tree_read k ruled s depth at r p e h =
    let w = agrees_whole _ (items (plenty s at) k ruled s depth at) r p e (h (plenty s at) (omega arith)) in
    record {
      tree = w.0;
      reads = λ f enough. (items_settle f (plenty s at) k ruled s depth at enough (omega arith)).same ∙ w.1;
      onward = items_move (plenty s at) k ruled s depth at w.0 p.at w.1;
    }
