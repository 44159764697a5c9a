-- What attributes, items and templates that were read whole tell: what stands at their offset, and where their parts are.
use Prim.Native.Nat.{ℕ, suc, ◌+◌, ◌<◌}
use mathlib.Core.Path.{◌≡◌, refl, sym, ap}
use mathlib.Core.Logic.{◌⊎◌, inl, inr}
use mathlib.Core.List.{List, [], ◌∷◌}
use mathlib.Core.Bool.{Bool, true, false}
use native.Mathlib.Omega.{arith}
use lib.Dec.{eqb, ltb}
use borrow.Author.Tests.{eqb-true, eqb-false, ltb-true}
use Rattle.verdicts.specs.declared.Form.{Form}
use Rattle.verdicts.specs.declared.Form.TheVariants.{NotRising, TooMany, Missing}
use Rattle.commands.specs.declared.Context.{Context}
use Rattle.commands.specs.declared.Context.TheVariants.{Templates}
use Rattle.commands.specs.declared.Position.{Position}
use Rattle.commands.specs.declared.Decoded.TheVariants.{Moved}
use Rattle.commands.specs.Commands.{byte, allowed, command}
use Rattle.commands.specs.Reading.{Read, whole, refused, unfinished, and_then, on_command, when}
use Rattle.commands.proofs.Laws.{moved, and_then_whole, on_command_whole, when_whole}
use Rattle.vocabularies.specs.Vocabulary.{is_in}
use Rattle.pages.specs.declared.Kind.{Kind}
use Rattle.pages.specs.declared.Kind.TheVariants.{Template}
use Rattle.pages.specs.Items.{Attribute, Item, element, Items, none, more}
use Rattle.pages.specs.ItemReading.{item_context, attribute_context, nesting, value_at, end_of, leaf_at, attributes, items, item, most_templates, templates}

module _ {A : Type 0} where
  -- Reading that ran out of fuel is not whole.
  pub never_unfinished : {B : Type 0} {a : A} {end : ℕ} → unfinished ≡ whole a end → B
  never_unfinished {a = a} {end = end} e = absurd (let z : ◌≡◌ {A = ℕ} 0 1 = cc in omega arith)

  whole_tree : {a b : A} {m n : ℕ} → whole a m ≡ whole b n → b ≡ a
  whole_tree {a} {b} {m} {n} e = cc

  whole_end : {a b : A} {m n : ℕ} → whole a m ≡ whole b n → n ≡ m
  whole_end {a} {b} {m} {n} e = cc

  when_cases : (t : Bool) (yes' no' : Unit {0} → Read A) (b : A) (end : ℕ) → when t yes' no' ≡ whole b end
      → ((t ≡ true) × (yes' tt ≡ whole b end)) ⊎ ((t ≡ false) × (no' tt ≡ whole b end))
  when_cases true yes' no' b end e = inl (refl, e)
  when_cases false yes' no' b end e = inr (refl, e)

  when_not_refused : (t : Bool) (no' : Unit {0} → Read A) (f : Form) (at : ℕ) (b : A) (end : ℕ) → when t (λ _. refused f at) no' ≡ whole b end
      → (t ≡ false) × (no' tt ≡ whole b end)
  when_not_refused true no' f at b end e = absurd (let z : ◌≡◌ {A = ℕ} 0 1 = cc in omega arith)
  when_not_refused false no' f at b end e = (refl, e)

  -- The command that a whole reading begins with, by the byte that stands there.
  pub begun : (x : Context) (s : List ℕ) (at : ℕ) (k : ℕ → ℕ → Read A) (b : A) (end : ℕ) → on_command x s at k ≡ whole b end
      → (next : Position) × (command x s at ≡ Moved (byte s at) next) × (k (byte s at) next.at ≡ whole b end)
  begun x s at k b end e = go (on_command_whole x s at k b end e)
    where
      named : (code : ℕ) (next : Position) → code ≡ byte s at → command x s at ≡ Moved code next → k code next.at ≡ whole b end
          → (next : Position) × (command x s at ≡ Moved (byte s at) next) × (k (byte s at) next.at ≡ whole b end)
      named code next first stands goes = (next, rw (← first) stands, rw (← first) goes)

      go : (code : ℕ) × (next : Position) × (command x s at ≡ Moved code next) × (k code next.at ≡ whole b end)
          → (next : Position) × (command x s at ≡ Moved (byte s at) next) × (k (byte s at) next.at ≡ whole b end)
      go h = named h.0 h.1 (moved x s at h.0 h.1 h.2).first h.2 h.3

module _ {A B : Type 0} where
  -- A whole that is made of one part ends where the part ends.
  pub made : (g : A → B) (r : Read A) (b : B) (end : ℕ) → and_then r (λ a end. whole (g a) end) ≡ whole b end
      → (a : A) × (r ≡ whole a end) × (b ≡ g a)
  made g (whole a n) b end e = (a, ap (whole a) (sym (whole_end e)), whole_tree e)
  made g (refused f at) b end e = absurd (let z : ◌≡◌ {A = ℕ} 0 1 = cc in omega arith)
  made g unfinished b end e = never_unfinished e

-- Attributes: none, or one with those after it.
pub record AttributesEnd (k : Kind) (s : List ℕ) (at : ℕ) (δ : List Attribute) (end : ℕ) : Type 0 where
  pub not_attribute : allowed (attribute_context k) (byte s at) ≡ false
  pub no_more : δ ≡ []
  pub here : end ≡ at

pub record AttributeMore (f : ℕ) (k : Kind) (s before : List ℕ) (at : ℕ) (δ : List Attribute) (end : ℕ) : Type 0 where
  pub next : Position
  pub rest : List Attribute
  pub permitted : allowed (attribute_context k) (byte s at) ≡ true
  pub stands : command (attribute_context k) s at ≡ Moved (byte s at) next
  pub fresh : is_in (byte s (at + 1)) before ≡ false
  pub reads_rest : attributes f k s (byte s (at + 1) ∷ before) next.at ≡ whole rest end
  pub is_more : δ ≡ record { name = byte s (at + 1); value = value_at s at (byte s at) } ∷ rest

pub attributes_whole : (f : ℕ) (k : Kind) (s before : List ℕ) (at : ℕ) (δ : List Attribute) (end : ℕ)
    → attributes (suc f) k s before at ≡ whole δ end → AttributesEnd k s at δ end ⊎ AttributeMore f k s before at δ end
unfolding attributes
attributes_whole f k s before at δ end e = elim (when_cases (allowed (attribute_context k) (byte s at)) _ _ δ end e) [
  | inl h ↦
      let (next, stands, e₁) = begun (attribute_context k) s at _ δ end h.1 in
      let (fresh, e₂) = when_not_refused (is_in (byte s (at + 1)) before) _ NotRising at δ end e₁ in
      let (rest, reads, made_of) = made _ (attributes f k s (byte s (at + 1) ∷ before) next.at) δ end e₂ in
      inr (record {
        next = next;
        rest = rest;
        permitted = h.0;
        stands = stands;
        fresh = fresh;
        reads_rest = reads;
        is_more = made_of;
      })
  | inr h ↦ inl (record { not_attribute = h.0; no_more = whole_tree h.1; here = whole_end h.1 })
]

-- A list of items: its end, or an item with the list after it.
pub record ItemsEnd (s : List ℕ) (depth at : ℕ) (φ : Items) (end : ℕ) : Type 0 where
  pub ended : byte s at ≡ end_of depth
  pub no_more : φ ≡ none
  pub after : end ≡ at + 1

pub record ItemsMore (f : ℕ) (k : Kind) (ruled : ℕ → Bool) (s : List ℕ) (depth at : ℕ) (φ : Items) (end : ℕ) : Type 0 where
  pub first : Item
  pub next : ℕ
  pub rest : Items
  pub not_ended : byte s at ≡ end_of depth → ⊥
  pub reads_first : item f k ruled s depth at ≡ whole first next
  pub reads_rest : items f k ruled s depth next ≡ whole rest end
  pub is_more : φ ≡ more first rest

pub items_whole : (f : ℕ) (k : Kind) (ruled : ℕ → Bool) (s : List ℕ) (depth at : ℕ) (φ : Items) (end : ℕ)
    → items (suc f) k ruled s depth at ≡ whole φ end → ItemsEnd s depth at φ end ⊎ ItemsMore f k ruled s depth at φ end
unfolding items
items_whole f k ruled s depth at φ end e = elim (when_cases (eqb (byte s at) (end_of depth)) _ _ φ end e) [
  | inl h ↦ inl (record { ended = eqb-true _ _ h.0; no_more = whole_tree h.1; after = whole_end h.1 })
  | inr h ↦
      let (first, next, reads_first, e₁) = and_then_whole (item f k ruled s depth at) _ φ end h.1 in
      let (rest, reads_rest, made_of) = made (more first) (items f k ruled s depth next) φ end e₁ in
      inr (record {
        first = first;
        next = next;
        rest = rest;
        not_ended = eqb-false _ _ h.0;
        reads_first = reads_first;
        reads_rest = reads_rest;
        is_more = made_of;
      })
]

-- An item: text, blank text or a gap, or an element.
pub record LeafRead (k : Kind) (s : List ℕ) (at : ℕ) (i : Item) (end : ℕ) : Type 0 where
  pub next : Position
  pub stands : command (item_context k) s at ≡ Moved (byte s at) next
  pub no_element : byte s at ≡ 0x23 → ⊥
  pub is_leaf : i ≡ leaf_at s at (byte s at)
  pub after : end ≡ next.at

pub record ElementRead (f : ℕ) (k : Kind) (ruled : ℕ → Bool) (s : List ℕ) (depth at : ℕ) (i : Item) (end : ℕ) : Type 0 where
  pub next : Position
  pub named : List Attribute
  pub inside : ℕ
  pub contents : Items
  pub stands : command (item_context k) s at ≡ Moved (byte s at) next
  pub opens : byte s at ≡ 0x23
  pub has_rule : ruled (byte s (at + 1)) ≡ true
  pub nests : depth < nesting k
  pub reads_attributes : attributes f k s [] next.at ≡ whole named inside
  pub reads_contents : items f k ruled s (depth + 1) inside ≡ whole contents end
  pub is_element_lem : i ≡ element (byte s (at + 1)) at named contents

pub item_whole : (f : ℕ) (k : Kind) (ruled : ℕ → Bool) (s : List ℕ) (depth at : ℕ) (i : Item) (end : ℕ)
    → item (suc f) k ruled s depth at ≡ whole i end → LeafRead k s at i end ⊎ ElementRead f k ruled s depth at i end
unfolding items
item_whole f k ruled s depth at i end e =
    let (next, stands, e₁) = begun (item_context k) s at _ i end e in
    elim (when_cases (eqb (byte s at) 0x23) _ _ i end e₁) [
      | inl h ↦
          let (has_rule, e₂) = when_whole (ruled (byte s (at + 1))) _ Missing at i end h.1 in
          let (nests, e₃) = when_whole (ltb depth (nesting k)) _ TooMany at i end e₂ in
          let (named, inside, reads_attributes, e₄) = and_then_whole (attributes f k s [] next.at) _ i end e₃ in
          let (contents, reads_contents, made_of) = made (element (byte s (at + 1)) at named) (items f k ruled s (depth + 1) inside) i end e₄ in
          inr (record {
            next = next;
            named = named;
            inside = inside;
            contents = contents;
            stands = stands;
            opens = eqb-true _ _ h.0;
            has_rule = has_rule;
            nests = ltb-true _ _ nests;
            reads_attributes = reads_attributes;
            reads_contents = reads_contents;
            is_element_lem = made_of;
          })
      | inr h ↦ inl (record {
        next = next;
        stands = stands;
        no_element = eqb-false _ _ h.0;
        is_leaf = whole_tree h.1;
        after = whole_end h.1;
      })
    ]

-- Templates: `2F`, or `20` with the items of a template and the templates after it.
pub record TemplatesEnd (s : List ℕ) (at : ℕ) (φs : List Items) (end : ℕ) : Type 0 where
  pub next : Position
  pub stands : command Templates s at ≡ Moved (byte s at) next
  pub ended : byte s at ≡ 0x2F
  pub no_more : φs ≡ []
  pub after : end ≡ next.at

pub record TemplateMore (f : ℕ) (ruled : ℕ → Bool) (s : List ℕ) (count at : ℕ) (φs : List Items) (end : ℕ) : Type 0 where
  pub next : Position
  pub first : Items
  pub past : ℕ
  pub rest : List Items
  pub stands : command Templates s at ≡ Moved (byte s at) next
  pub not_ended : byte s at ≡ 0x2F → ⊥
  pub few : count < most_templates
  pub reads_first : items f Template ruled s 0 next.at ≡ whole first past
  pub reads_rest : templates f ruled s (count + 1) past ≡ whole rest end
  pub is_more : φs ≡ first ∷ rest

pub templates_whole : (f : ℕ) (ruled : ℕ → Bool) (s : List ℕ) (count at : ℕ) (φs : List Items) (end : ℕ)
    → templates (suc f) ruled s count at ≡ whole φs end → TemplatesEnd s at φs end ⊎ TemplateMore f ruled s count at φs end
unfolding templates
templates_whole f ruled s count at φs end e =
    let (next, stands, e₁) = begun Templates s at _ φs end e in
    elim (when_cases (eqb (byte s at) 0x2F) _ _ φs end e₁) [
      | inl h ↦ inl (record {
        next = next;
        stands = stands;
        ended = eqb-true _ _ h.0;
        no_more = whole_tree h.1;
        after = whole_end h.1;
      })
      | inr h ↦
          let (few, e₂) = when_whole (ltb count most_templates) _ TooMany at φs end h.1 in
          let (first, past, reads_first, e₃) = and_then_whole (items f Template ruled s 0 next.at) _ φs end e₂ in
          let (rest, reads_rest, made_of) = made (λ φs. first ∷ φs) (templates f ruled s (count + 1) past) φs end e₃ in
          inr (record {
            next = next;
            first = first;
            past = past;
            rest = rest;
            stands = stands;
            not_ended = eqb-false _ _ h.0;
            few = ltb-true _ _ few;
            reads_first = reads_first;
            reads_rest = reads_rest;
            is_more = made_of;
          })
    ]
