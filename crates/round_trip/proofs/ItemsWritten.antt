-- Items that are read are those whose bytes stand there, in range, with each element's mark where its `23` stands; so are a page and
-- the templates of a job.
use Prim.Native.Nat.{ℕ, zero, suc, ◌+◌, ◌≤◌, ◌<◌}
use native.Mathlib.Omega.{arith}
use mathlib.Core.Path.{◌≡◌, refl}
use mathlib.Core.Logic.{inl, inr}
use mathlib.Core.List.{List, [], ◌∷◌, ◌++◌, append_assoc}
use mathlib.Core.Bool.{Bool, true, false, cond}
use lib.ListN.{length}
use lib.Dec.{ltb, eqb}
use borrow.Author.Tests.{ltb-true, lt-ltb, eqb-true, eqb-false}
use Rattle.commands.specs.declared.Context.TheVariants.{Templates, TemplateItems}
use Rattle.commands.specs.Commands.{byte, allowed, operands_of, operand_bytes}
use Rattle.commands.specs.Reading.{whole, enough}
use Rattle.vocabularies.specs.Vocabulary.{Vocabulary, is_in, declared}
use Rattle.pages.specs.declared.Kind.{Kind}
use Rattle.pages.specs.declared.Kind.TheVariants.{Template, Page}
use Rattle.pages.specs.Items.{Value, string, open_gap, Attribute, Item, text, blank, gap, element, Items}
use Rattle.pages.specs.ItemReading.{item_context, attribute_context, nesting, value_at, attributes, end_of, leaf_at, items, item, page_slice, most_templates, templates}
use Rattle.pages.proofs.Steps.{leaf_code}
use Rattle.agreement.proofs.Readings.{Gives, gives, refuses, runs_out, gives_command, gives_when, gives_then, gives_map, Taken, byte_there, is_first, is_second}
use Rattle.round_trip.specs.Written.{written_value, written_attributes, written_items, written_item, written_page, marked, marked_item}
use Rattle.round_trip.specs.InRange.{Distinct, ValueInRange, AttributesInRange, element_depth, element_depth_of, deepest, ItemsInRange, ItemInRange}
use Rattle.round_trip.specs.WrittenJob.{written_templates, marked_templates}
use Rattle.round_trip.specs.JobInRange.{AllInRange}
use Rattle.round_trip.specs.Exact.{Span, Exactly, MarkedPage}
use Rattle.round_trip.proofs.Once.{NoneOf, none_before, not_among, names}
use Rattle.round_trip.proofs.Spans.{nothing, then, at_byte, alone_written, taken_span, taken_fits}
use Rattle.round_trip.proofs.Pages.{closes}

-- An attribute that was read.
record ValueRead (k : Kind) (s : List ℕ) (at name : ℕ) (v : Value) (next : ℕ) : Type 0 where
  span : Span s at (written_value name v) next
  name_range : name ≤ 31
  value_range : ValueInRange k v

named_in_range : (k : Kind) (t : ℕ) → t < 64 → ValueInRange k (string t)
named_in_range Template t h = h
named_in_range Page t h = omega arith

module _ (s : List ℕ) (at next : ℕ) where
  named_string : (k : Kind) → Taken (attribute_context k) s at 0x24 next → ValueRead k s at (byte s (at + 1)) (string (byte s (at + 2))) next
  unfolding operands_of operand_bytes
  named_string k t =
      let small : byte s (at + 2) < 64 = (taken_fits t).1.0 in
      record { span = rw (lt-ltb (byte s (at + 2)) 64 small) (taken_span t); name_range = (taken_fits t).0; value_range = named_in_range k (byte s (at + 2)) small }

  attribute_gap : Taken (attribute_context Template) s at 0x25 next → ValueRead Template s at (byte s (at + 1)) (open_gap (byte s (at + 2))) next
  unfolding operands_of operand_bytes
  attribute_gap t = record { span = taken_span t; name_range = (taken_fits t).0; value_range = (taken_fits t).1.0 }

  other_string : Taken (attribute_context Page) s at 0x28 next → ValueRead Page s at (byte s (at + 1)) (string 64) next
  unfolding operands_of operand_bytes
  other_string t = record { span = taken_span t; name_range = (taken_fits t).0; value_range = omega arith }

  value_read : (k : Kind) (code : ℕ) → Taken (attribute_context k) s at code next → ValueRead k s at (byte s (at + 1)) (value_at s at code) next
  unfolding allowed
  value_read k code t = by_test (eqb code 0x24) refl k t
    where
      by_test : (b : Bool) → eqb code 0x24 ≡ b → (k : Kind) → Taken (attribute_context k) s at code next
          → ValueRead k s at (byte s (at + 1)) (value_at s at code) next
      by_test true e k t = let c : code ≡ 0x24 = eqb-true code 0x24 e in rw c (named_string k (rw c at t))
      by_test false e Template t = let c : code ≡ 0x25 = is_second 0x24 0x25 code t.may e in rw c (attribute_gap (rw c at t))
      by_test false e Page t = let c : code ≡ 0x28 = is_second 0x24 0x28 code t.may e in rw c (other_string (rw c at t))

record AttributesRead (k : Kind) (s before : List ℕ) (at : ℕ) (δ : List Attribute) (end : ℕ) : Type 0 where
  span : Span s at (written_attributes δ) end
  is_in_range : AttributesInRange k δ
  once : Distinct (names δ)
  new : NoneOf (λ n. is_in n before) (names δ)

module _ (k : Kind) (s : List ℕ) where
  attributes_written : (f : ℕ) (before : List ℕ) (at : ℕ) → Gives (Unit {0}) (AttributesRead k s before at) (attributes f k s before at)
  unfolding attributes written_attributes AttributesInRange Distinct
  attributes_written zero before at = runs_out tt
  attributes_written (suc f) before at = gives_when (allowed (attribute_context k) (byte s at))
      (λ _ _. gives_command (attribute_context k) s at λ code next t. gives_when (is_in (byte s (at + 1)) before)
      (λ _ _. refuses)
      (λ _ new. gives_then (attributes_written f (byte s (at + 1) ∷ before) next) λ δ end m.
      let v = value_read s at next k code t in
      let name : ℕ = byte s (at + 1) in
      let others = none_before (λ n. is_in n before) (λ n. is_in n (name ∷ before)) name (λ n e. not_among name n before e) (names δ) m.new in
      gives (record {
        span = then v.span m.span;
        is_in_range = (v.name_range, v.value_range, m.is_in_range);
        once = (others.0, m.once);
        new = (new, others.1);
      })))
      (λ _ _. gives (record { span = nothing at; is_in_range = tt; once = tt; new = tt }))

-- Reading lets elements nest no deeper than document 01 does.
no_deeper : (k : Kind) → nesting k ≤ deepest k
no_deeper Template = omega arith
no_deeper Page = omega arith

-- Items that were read below `depth` open elements, with what ends them, and one that was.
record ItemsRead (k : Kind) (ruled : ℕ → Bool) (s : List ℕ) (depth at : ℕ) (φ : Items) (end : ℕ) : Type 0 where
  span : Span s at (written_items φ ++ end_of depth ∷ []) end
  is_in_range : ItemsInRange k ruled φ
  nested : depth + element_depth φ ≤ deepest k
  marks : marked at φ ≡ φ

record ItemRead (k : Kind) (ruled : ℕ → Bool) (s : List ℕ) (depth at : ℕ) (i : Item) (end : ℕ) : Type 0 where
  span : Span s at (written_item i) end
  is_in_range : ItemInRange k ruled i
  nested : depth + element_depth_of i ≤ deepest k
  marks : marked_item at i ≡ i

module _ (ruled : ℕ → Bool) (s : List ℕ) (depth at next : ℕ) where
  text_read : (k : Kind) → depth ≤ deepest k → Taken (item_context k) s at 0x21 next → ItemRead k ruled s depth at text next
  unfolding operands_of operand_bytes written_items ItemsInRange element_depth marked
  text_read k d t = record { span = taken_span t; is_in_range = tt; nested = omega arith; marks = refl }

  blank_read : (k : Kind) → depth ≤ deepest k → Taken (item_context k) s at 0x29 next → ItemRead k ruled s depth at blank next
  unfolding operands_of operand_bytes written_items ItemsInRange element_depth marked
  blank_read k d t = record { span = taken_span t; is_in_range = tt; nested = omega arith; marks = refl }

  gap_read : depth ≤ 16 → Taken TemplateItems s at 0x22 next → ItemRead Template ruled s depth at (gap (byte s (at + 1))) next
  unfolding operands_of operand_bytes written_items ItemsInRange element_depth marked
  gap_read d t = record { span = taken_span t; is_in_range = omega (arith, taken_fits t); nested = omega arith; marks = refl }

  -- `22` is allowed in templates alone.
  leaf_read : (k : Kind) (code : ℕ) → depth ≤ deepest k → Taken (item_context k) s at code next → eqb code 0x23 ≡ false → ItemRead k ruled s depth at (leaf_at s at code) next
  leaf_read k code d t n = elim (leaf_code k code t.may (eqb-false code 0x23 n)) [
    | inl c ↦ rw c (text_read k d (rw c at t))
    | inr (inl c) ↦ rw c (blank_read k d (rw c at t))
    | inr (inr (c, in_template)) ↦ rw (c, in_template) (gap_read (rw in_template at d) (rw (c, in_template) at t))
  ]

module _ (k : Kind) (ruled : ℕ → Bool) (s : List ℕ) where
  element_read : (depth at next inside end : ℕ) {δ : List Attribute} {φ : Items} → Taken (item_context k) s at 0x23 next → ruled (byte s (at + 1)) ≡ true
      → AttributesRead k s [] next δ inside → ItemsRead k ruled s (depth + 1) inside φ end → ItemRead k ruled s depth at (element (byte s (at + 1)) at δ φ) end
  unfolding operands_of operand_bytes written_items ItemsInRange element_depth marked
  element_read depth at next inside end {δ} {φ} t r a m =
      let first : inside ≡ at + 2 + length (written_attributes δ) = omega (arith, (taken_span t).ends, a.span.ends) in
      record {
        span = rw append_assoc (then (taken_span t) (then a.span (rw (closes depth) at m.span)));
        is_in_range = ((taken_fits t).0, r, a.is_in_range, a.once, m.is_in_range);
        nested = omega (arith, m.nested);
        marks = rw (← first, m.marks);
      }

  end_read : (depth at : ℕ) → byte s at ≡ end_of depth → Span s at (end_of depth ∷ []) (at + 1)
  end_read depth at e = by_test (eqb depth 0) e
    where
      by_test : (b : Bool) → byte s at ≡ cond b 0x27 0x26 → Span s at (cond b 0x27 0x26 ∷ []) (at + 1)
      by_test true e = at_byte at 0x27 (byte_there s at 0x26 e) e
      by_test false e = at_byte at 0x26 (byte_there s at 0x25 e) e

  mutual
    unfolding items written_items ItemsInRange element_depth marked

    items_written : (f depth at : ℕ) → depth ≤ deepest k → Gives (Unit {0}) (ItemsRead k ruled s depth at) (items f k ruled s depth at)
    items_written zero depth at d = runs_out tt
    items_written (suc f) depth at d = gives_when (eqb (byte s at) (end_of depth))
        (λ _ e. gives (record { span = end_read depth at (eqb-true (byte s at) (end_of depth) e); is_in_range = tt; nested = omega arith; marks = refl }))
        (λ _ _. gives_then (item_written f depth at d) λ i next m. gives_then (items_written f depth next d) λ φ end n.
        gives (record {
          span = rw append_assoc (then m.span n.span);
          is_in_range = (m.is_in_range, n.is_in_range);
          nested = omega (arith, m.nested, n.nested);
          marks = rw (m.marks, ← m.span.ends, n.marks);
        }))

    item_written : (f depth at : ℕ) → depth ≤ deepest k → Gives (Unit {0}) (ItemRead k ruled s depth at) (item f k ruled s depth at)
    item_written zero depth at d = runs_out tt
    item_written (suc f) depth at d = gives_command (item_context k) s at λ code next t. gives_when (eqb code 0x23)
        (λ _ c. gives_when (ruled (byte s (at + 1)))
        (λ _ r. gives_when (ltb depth (nesting k))
        (λ _ l. gives_then (attributes_written k s f [] next) λ δ inside a.
        gives_then (items_written f (depth + 1) inside (omega (arith, ltb-true depth (nesting k) l, no_deeper k))) λ φ end m.
        gives (element_read depth at next inside end (rw (eqb-true code 0x23 c) at t) r a m))
        (λ _ _. refuses))
        (λ _ _. refuses))
        (λ _ c. gives (leaf_read ruled s depth at next k code d t c))

-- Bytes that are read as a page are those of it.
pub page_written : (D : Vocabulary) (s : List ℕ) (φ : Items) (end : ℕ) → page_slice D s ≡ whole φ end → Exactly written_page (MarkedPage D) s φ end
unfolding page_slice written_page
page_written D s φ end = alone_written s (gives_map
    (λ φ end m. (m.span, record { page = record { items = m.is_in_range; nesting = omega (arith, m.nested) }; marks = m.marks }))
    (items_written Page (declared D.rules) s (enough s) 0 0 (omega arith)))

-- Templates that were read after `count` others, up to `2F`.
pub record TemplatesRead (D : Vocabulary) (s : List ℕ) (count at : ℕ) (φs : List Items) (end : ℕ) : Type 0 where
  pub span : Span s at (written_templates φs) end
  pub all : AllInRange D φs
  pub few : count + length φs ≤ 31
  pub marks : marked_templates at φs ≡ φs

module _ (D : Vocabulary) (s : List ℕ) where
  template_read : {count at next middle end : ℕ} {φ : Items} {φs : List Items} → Taken Templates s at 0x20 next
      → ItemsRead Template (declared D.rules) s 0 next φ middle → TemplatesRead D s (count + 1) middle φs end → TemplatesRead D s count at (φ ∷ φs) end
  unfolding operands_of operand_bytes written_templates AllInRange marked_templates
  template_read {at} {next} {middle} {φ} t m n =
      let first = then (taken_span t) m.span in
      let inside : next ≡ at + 1 = (taken_span t).ends in
      record {
        span = then first n.span;
        all = (record { items = m.is_in_range; nesting = omega (arith, m.nested) }, n.all);
        few = omega (arith, n.few);
        marks = rw (← inside, m.marks, ← first.ends, n.marks);
      }

  pub templates_written : (f count at : ℕ) → count ≤ 31 → Gives (Unit {0}) (TemplatesRead D s count at) (templates f (declared D.rules) s count at)
  unfolding templates written_templates AllInRange marked_templates allowed operands_of operand_bytes
  templates_written zero count at h = runs_out tt
  templates_written (suc f) count at h = gives_command Templates s at λ code next t. gives_when (eqb code 0x2F)
      (λ _ c. gives (record { span = taken_span (rw (eqb-true code 0x2F c) at t); all = tt; few = omega arith; marks = refl }))
      (λ _ c. gives_when (ltb count most_templates)
      (λ _ l. gives_then (items_written Template (declared D.rules) s f 0 next (omega arith)) λ φ middle m.
      gives_then (templates_written f (count + 1) middle (omega (arith, ltb-true count 31 l))) λ φs end n.
      gives (template_read (rw (is_first 0x20 0x2F code t.may c) at t) m n))
      (λ _ _. refuses))
