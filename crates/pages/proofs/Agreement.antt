-- How the code that reads items agrees with the definitions: a law for each way that a turn of it goes.
use Prim.Native.Nat.{ℕ, zero, suc, ◌+◌, ◌≤◌, ◌<◌}
use mathlib.Core.Path.{◌≡◌, refl, sym, ◌∙◌}
use mathlib.Core.List.{List, [], ◌∷◌}
use mathlib.Core.Bool.{Bool, true, false}
use native.Mathlib.Omega.{arith}
use lib.Dec.{eqb}
use borrow.Author.Tests.{eq-eqb, ne_eqb, lt-ltb, le-ltb}
use Rattle.std.specs.Prelude.{Option, Some, None, Result, Ok, Err}
use Rattle.verdicts.specs.declared.Form.TheVariants.{NotRising, TooMany, Missing}
use Rattle.sets.specs.Sets.{member}
use Rattle.commands.specs.declared.Context.{Context}
use Rattle.commands.specs.declared.Position.{Position}
use Rattle.commands.specs.declared.ReadError.{ReadError}
use Rattle.commands.specs.declared.Decoded.{Decoded}
use Rattle.commands.specs.declared.Decoded.TheVariants.{Moved}
use Rattle.commands.specs.Commands.{byte, allowed, command}
use Rattle.commands.specs.Reading.{Read, whole, and_then}
use Rattle.commands.specs.Inner.Parts.{Agrees, part_of, past}
use Rattle.commands.proofs.Laws.{moved, refused_with, past_over, past_other}
use Rattle.vocabularies.specs.Vocabulary.{is_in}
use Rattle.pages.specs.declared.Kind.{Kind}
use Rattle.pages.specs.declared.Kind.TheVariants.{Template, Page}
use Rattle.pages.specs.ItemReading.{item_context, attribute_context, nesting, end_of, attributes, items, item}
use Rattle.pages.specs.Inner.Promises.{AttributesRead, ItemsRead, ItemRead}
use Rattle.pages.proofs.Laws.{some_end, item_move, attributes_move}
use Rattle.pages.proofs.Parts.{agrees_made, refused_first, whole_first}

-- What a part is made into does not change where it ends.
made : {A B : Type 0} (g : A → B) (x : Read A) (r : Result Position ReadError) → Agrees x r → Agrees (and_then x (λ a end. whole (g a) end)) r
made g x r h = agrees_made _ _ g (λ a end u. u) x r h

-- The attributes; `x` is where they stand, `seen` what was named before, and `may` whether one stands here.
module _ (k : Kind) (x : Context) (is : x ≡ attribute_context k) (s before : List ℕ) (at seen : ℕ) (seen_is : (a : ℕ) → member seen a ≡ is_in a before)
    (c : ℕ) (c_is : c ≡ byte s at) (may : Bool) (may_is : may ≡ allowed x c) where
  told : (b : Bool) → may ≡ b → allowed x (byte s at) ≡ b
  told b h = rw (← c_is) (sym may_is ∙ h)

  pub attributes_end : may ≡ false → (p : Position) → p.at ≡ at → AttributesRead k s before at (Ok p)
  unfolding attributes
  attributes_end h p e zero enough = absurd (omega arith)
  attributes_end h p e (suc f) enough = rw (← is, told false h) (e, tt)

  module _ (h : may ≡ true) (d : Decoded) (d_is : d ≡ command x s at) where
    pub attributes_refused : (e : ReadError) → part_of d ≡ Err e → AttributesRead k s before at (Err e)
    unfolding attributes
    attributes_refused e refuses zero enough = absurd (omega arith)
    attributes_refused e refuses (suc g) enough = rw (← is, told true h, ← d_is, refused_with d e refuses) (refl, refl)

    module _ (code : ℕ) (next : Position) (moves : d ≡ Moved code next) (name : ℕ) (name_is : name ≡ byte s (at + 1)) (has : Bool) (has_is : has ≡ member seen name) where
      named : (b : Bool) → has ≡ b → is_in (byte s (at + 1)) before ≡ b
      named b e = rw (← name_is) (sym (seen_is name) ∙ (sym has_is ∙ e))

      pub attributes_twice : has ≡ true → AttributesRead k s before at (Err (record { form = NotRising; at = at }))
      unfolding attributes
      attributes_twice twice zero enough = absurd (omega arith)
      attributes_twice twice (suc f) enough = rw (← is, told true h, ← d_is, moves, named true twice) (refl, refl)

      pub attributes_next : has ≡ false → (r : Result Position ReadError) → AttributesRead k s (byte s (at + 1) ∷ before) next.at r → AttributesRead k s before at r
      unfolding attributes
      attributes_next fresh r goes zero enough = absurd (omega arith)
      attributes_next fresh r goes (suc f) enough =
          let m = moved x s at code next (sym d_is ∙ moves) in
          rw (← is, told true h, ← d_is, moves, named false fresh) (made _ (attributes f k s (byte s (at + 1) ∷ before) next.at) r (goes f (omega arith)))

-- A list of items.
module _ (k : Kind) (ruled : ℕ → Bool) (s : List ℕ) (depth at : ℕ) where
  pub items_end : (p : Position) → byte s at ≡ end_of depth → p.at ≡ at + 1 → ItemsRead k ruled s depth at (Ok p)
  unfolding items
  items_end p ended e zero enough = absurd (omega arith)
  items_end p ended e (suc f) enough = rw (eq-eqb _ _ ended) (e, tt)

  module _ (goes_on : byte s at ≡ end_of depth → ⊥) (first : Result Position ReadError) (reads : ItemRead k ruled s depth at first) where
    pub items_refused : (e : ReadError) → first ≡ Err e → ItemsRead k ruled s depth at (Err e)
    unfolding items
    items_refused e is zero enough = absurd (omega arith)
    items_refused e is (suc g) enough = rw (ne_eqb _ _ goes_on) (refused_first (item g k ruled s depth at) first (reads g (omega arith)) _ _ e is)

    pub items_next : (next : Position) (r : Result Position ReadError) → first ≡ Ok next → ItemsRead k ruled s depth next.at r → ItemsRead k ruled s depth at r
    unfolding items
    items_next next r e goes zero enough = absurd (omega arith)
    items_next next r e goes (suc f) enough = rw (ne_eqb _ _ goes_on)
        (whole_first (item f k ruled s depth at) first (reads f (omega arith)) _ _ next r e λ i e.
        let m = item_move f k ruled s depth at i next.at e in
        made _ (items f k ruled s depth next.at) r (goes f (omega arith)))

-- What ends a list is passed over, or the list goes on.
module _ (s : List ℕ) (depth at end : ℕ) (is : end ≡ end_of depth) (r : Option Position) (here : r ≡ past s at end) where
  pub list_ended : (next : Position) → r ≡ Some next → (byte s at ≡ end_of depth) × (next.at ≡ at + 1)
  list_ended next e = let o = past_over s at end r next here e in (o.1 ∙ is, o.2)

  pub list_goes_on : r ≡ None → byte s at ≡ end_of depth → ⊥
  list_goes_on e ended = past_other s at end r here e (λ z. some_end (eqb depth 0) (sym is ∙ z)) (ended ∙ sym is)

-- An item; `x` is where it stands, and `d` the command there.
module _ (k : Kind) (x : Context) (is : x ≡ item_context k) (ruled : ℕ → Bool) (s : List ℕ) (depth at : ℕ) (d : Decoded) (d_is : d ≡ command x s at) where
  pub item_refused : (e : ReadError) → part_of d ≡ Err e → ItemRead k ruled s depth at (Err e)
  unfolding items
  item_refused e refuses zero enough = absurd (omega arith)
  item_refused e refuses (suc g) enough = rw (← is, ← d_is, refused_with d e refuses) (refl, refl)

  module _ (code : ℕ) (next : Position) (moves : d ≡ Moved code next) where
    pub item_leaf : (code ≡ 0x23 → ⊥) → ItemRead k ruled s depth at (Ok next)
    unfolding items
    item_leaf leaf zero enough = absurd (omega arith)
    item_leaf leaf (suc f) enough = rw (← is, ← d_is, moves, ne_eqb _ _ leaf) (refl, tt)

    stands : command x s at ≡ Moved code next
    stands = sym d_is ∙ moves

    -- Where `23` opens an element: its name, whether that has a rule, and how many may stand open.
    module _ (opens : code ≡ 0x23) (e : ℕ) (e_is : e ≡ byte s (at + 1)) (has : Bool) (has_is : has ≡ ruled e) (most : ℕ) (most_is : most ≡ nesting k) where
      rule_is : (b : Bool) → has ≡ b → ruled (byte s (at + 1)) ≡ b
      rule_is b h = rw (← e_is) (sym has_is ∙ h)

      pub item_missing : has ≡ false → ItemRead k ruled s depth at (Err (record { form = Missing; at = at }))
      unfolding items
      item_missing lacks zero enough = absurd (omega arith)
      item_missing lacks (suc f) enough = rw (← is, ← d_is, moves, eq-eqb _ _ opens, rule_is false lacks) (refl, refl)

      module _ (declared : has ≡ true) where
        pub item_deep : most ≤ depth → ItemRead k ruled s depth at (Err (record { form = TooMany; at = at }))
        unfolding items
        item_deep deep zero enough = absurd (omega arith)
        item_deep deep (suc f) enough = rw (← is, ← d_is, moves, eq-eqb _ _ opens, rule_is true declared, ← most_is, le-ltb _ _ deep) (refl, refl)

        module _ (nests : depth < most) (named : Result Position ReadError) (reads : AttributesRead k s [] next.at named) where
          pub item_attributes_refused : (e : ReadError) → named ≡ Err e → ItemRead k ruled s depth at (Err e)
          unfolding items
          item_attributes_refused e refuses zero enough = absurd (omega arith)
          item_attributes_refused e refuses (suc g) enough =
              let m = moved x s at code next stands in
              rw (← is, ← d_is, moves, eq-eqb _ _ opens, rule_is true declared, ← most_is, lt-ltb _ _ nests)
              (refused_first (attributes g k s [] next.at) named (reads g (omega arith)) _ _ e refuses)

          pub item_element : (inside : Position) (r : Result Position ReadError) → named ≡ Ok inside → ItemsRead k ruled s (depth + 1) inside.at r
              → ItemRead k ruled s depth at r
          unfolding items
          item_element inside r e goes zero enough = absurd (omega arith)
          item_element inside r e goes (suc f) enough =
              let m = moved x s at code next stands in
              rw (← is, ← d_is, moves, eq-eqb _ _ opens, rule_is true declared, ← most_is, lt-ltb _ _ nests)
              (whole_first (attributes f k s [] next.at) named (reads f (omega arith)) _ _ inside r e λ δ e.
              let n = attributes_move f k s [] next.at δ inside.at m.inside e in
              made _ (items f k ruled s (depth + 1) inside.at) r (goes f (omega arith)))

pub item_permitted : (k : Kind) → (allowed (item_context k) 0x21 ≡ true) × (allowed (item_context k) 0x29 ≡ true) × (allowed (item_context k) 0x23 ≡ true)
unfolding allowed
item_permitted Template = (refl, refl, refl)
item_permitted Page = (refl, refl, refl)

pub string_permitted : (k : Kind) → allowed (attribute_context k) 0x24 ≡ true
unfolding allowed
string_permitted Template = refl
string_permitted Page = refl
