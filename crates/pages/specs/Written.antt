-- Items written out as bytes, with what ends them (document 01, "A job, command by command", Templates; "Verdicts", Judge a
-- page; document 02, F-2, for `29`). Marks are not written, and all strings outside the named ones are written alike.
use Rattle.std.specs.Prelude.{ℕ, ◌+◌, List, [], ◌∷◌, ◌++◌, cond, length, ltb}
use Rattle.commands.specs.Commands.{strings}
use Rattle.pages.specs.Items.{Value, string, open_gap, Attribute, Item, text, blank, gap, element, Items, none, more}

-- `24 a s`, or in pages `28 a` for a string outside the named ones; an attribute gap, `25 a h`, stands in templates alone.
abbrev pub written_value : ℕ → Value → List ℕ
written_value a (string s) = cond (ltb s strings) (0x24 ∷ a ∷ s ∷ []) (0x28 ∷ a ∷ [])
written_value a (open_gap h) = 0x25 ∷ a ∷ h ∷ []

unfoldable pub written_attributes : List Attribute → List ℕ
written_attributes [] = []
written_attributes (a ∷ δ) = written_value a.name a.value ++ written_attributes δ

-- `21`, `29`, `22 g` (in templates alone), and `23 e` with its attributes and items, up to `26`.
unfoldable mutual
  unfolding written_attributes

  pub written_items : Items → List ℕ
  written_items none = []
  written_items (more i φ) = written_item i ++ written_items φ

  pub written_item : Item → List ℕ
  written_item text = 0x21 ∷ []
  written_item blank = 0x29 ∷ []
  written_item (gap g) = 0x22 ∷ g ∷ []
  written_item (element e mark δ φ) = 0x23 ∷ e ∷ written_attributes δ ++ written_items φ ++ 0x26 ∷ []

unfoldable pub written_page : Items → List ℕ
unfolding written_items
written_page φ = written_items φ ++ 0x27 ∷ []

-- Items that are written from an offset on, with each element's mark where its `23` stands.
unfoldable mutual
  unfolding written_items

  pub marked : ℕ → Items → Items
  marked at none = none
  marked at (more i φ) = more (marked_item at i) (marked (at + length (written_item i)) φ)

  pub marked_item : ℕ → Item → Item
  marked_item at text = text
  marked_item at blank = blank
  marked_item at (gap g) = gap g
  marked_item at (element e mark δ φ) = element e at δ (marked (at + 2 + length (written_attributes δ)) φ)

-- Items with other marks.
unfoldable mutual
  pub remarked : (ℕ → ℕ) → Items → Items
  remarked m none = none
  remarked m (more i φ) = more (remarked_item m i) (remarked m φ)

  pub remarked_item : (ℕ → ℕ) → Item → Item
  remarked_item m text = text
  remarked_item m blank = blank
  remarked_item m (gap g) = gap g
  remarked_item m (element e mark δ φ) = element e (m mark) δ (remarked m φ)
