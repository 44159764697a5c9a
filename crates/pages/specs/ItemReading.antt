-- Reading items: the templates of a job, and a page (document 01, "A job, command by command", Templates; "Verdicts",
-- Judge a page; document 02, F-2, for `29`). The two differ in which commands may stand, in how deep elements may nest, and in what ends
-- them; one definition reads both.
use Rattle.std.specs.Prelude.{ℕ, zero, suc, ◌+◌, List, [], ◌∷◌, Bool, cond, ltb, eqb}
use Rattle.verdicts.specs.declared.Form.TheVariants.{NotRising, TooMany, Missing}
use Rattle.commands.specs.declared.Context.{Context}
use Rattle.commands.specs.declared.Context.TheVariants.{Templates, TemplateItems, TemplateAttributes, PageItems, PageAttributes}
use Rattle.commands.specs.Commands.{byte, allowed, strings}
use Rattle.commands.specs.Reading.{Read, whole, refused, unfinished, and_then, on_command, when, enough}
use Rattle.vocabularies.specs.Vocabulary.{Vocabulary, declared, is_in}
use Rattle.vocabularies.specs.VocabularyReading.{alone}
use Rattle.pages.specs.declared.Kind.{Kind}
use Rattle.pages.specs.declared.Kind.TheVariants.{Template, Page}
use Rattle.pages.specs.Items.{Value, string, open_gap, Attribute, Item, text, blank, gap, element, Items, none, more}

abbrev pub item_context : Kind → Context
item_context Template = TemplateItems
item_context Page = PageItems

abbrev pub attribute_context : Kind → Context
attribute_context Template = TemplateAttributes
attribute_context Page = PageAttributes

-- How many elements may stand open above one another.
abbrev pub nesting : Kind → ℕ
nesting Template = 16
nesting Page = 1024

-- `24 a s` and `25 a h`. `28 a` is an attribute with a string outside 0 to 63: the least such number stands for all of them, since
-- no set of a clause that is read from bytes holds any.
abbrev pub value_at : List ℕ → ℕ → ℕ → Value
value_at s at code =
    cond (eqb code 0x24) (string (byte s (at + 2)))
    (cond (eqb code 0x25) (open_gap (byte s (at + 2)))
    (string strings))

-- The attributes straight after `23 e`, none of which was named before.
unfoldable pub attributes : ℕ → Kind → List ℕ → List ℕ → ℕ → Read (List Attribute)
unfolding allowed is_in
attributes zero k s before at = unfinished
attributes (suc f) k s before at = when (allowed (attribute_context k) (byte s at))
    (λ _. on_command (attribute_context k) s at λ code next. when (is_in (byte s (at + 1)) before)
    (λ _. refused NotRising at)
    (λ _. and_then (attributes f k s (byte s (at + 1) ∷ before) next) λ δ end.
    whole (record { name = byte s (at + 1); value = value_at s at code } ∷ δ) end))
    (λ _. whole [] at)

-- `27` ends a template or a page, `26` an element.
abbrev pub end_of : ℕ → ℕ
end_of depth = cond (eqb depth 0) 0x27 0x26

-- `21`, `29` and `22 g`.
abbrev pub leaf_at : List ℕ → ℕ → ℕ → Item
leaf_at s at code = cond (eqb code 0x21) text (cond (eqb code 0x29) blank (gap (byte s (at + 1))))

-- A list of items below `depth` open elements, up to and with what ends it; `ruled` says which elements have a rule.
unfoldable mutual
  unfolding attributes

  pub items : ℕ → Kind → (ℕ → Bool) → List ℕ → ℕ → ℕ → Read Items
  items zero k ruled s depth at = unfinished
  items (suc f) k ruled s depth at = when (eqb (byte s at) (end_of depth))
      (λ _. whole none (at + 1))
      (λ _. and_then (item f k ruled s depth at) λ i next. and_then (items f k ruled s depth next) λ φ end. whole (more i φ) end)

  pub item : ℕ → Kind → (ℕ → Bool) → List ℕ → ℕ → ℕ → Read Item
  item zero k ruled s depth at = unfinished
  item (suc f) k ruled s depth at = on_command (item_context k) s at λ code next. when (eqb code 0x23)
      (λ _. when (ruled (byte s (at + 1)))
      (λ _. when (ltb depth (nesting k))
      (λ _. and_then (attributes f k s [] next) λ δ inside. and_then (items f k ruled s (depth + 1) inside) λ φ end.
      whole (element (byte s (at + 1)) at δ φ) end)
      (λ _. refused TooMany at))
      (λ _. refused Missing at))
      (λ _. whole (leaf_at s at code) next)

-- A page that is a slice of its own.
unfoldable pub page_slice : Vocabulary → List ℕ → Read Items
unfolding items
page_slice D s = alone s (items (enough s) Page (declared D.rules) s 0 0)

abbrev pub most_templates : ℕ
most_templates = 31

-- The templates from an offset on, after `count` others, up to `2F`.
unfoldable pub templates : ℕ → (ℕ → Bool) → List ℕ → ℕ → ℕ → Read (List Items)
unfolding items
templates zero ruled s count at = unfinished
templates (suc f) ruled s count at = on_command Templates s at λ code next. when (eqb code 0x2F)
    (λ _. whole [] next)
    (λ _. when (ltb count most_templates)
    (λ _. and_then (items f Template ruled s 0 next) λ φ after. and_then (templates f ruled s (count + 1) after) λ φs end. whole (φ ∷ φs) end)
    (λ _. refused TooMany at))
