-- Reading goes by the bytes and not by where they stand: the same bytes n further on are read as the same items, with marks n higher,
-- and end n further on.
use Prim.Native.Nat.{ℕ, zero, suc, ◌+◌, ◌*◌, ◌≤◌, ◌<◌}
use mathlib.Core.Path.{◌≡◌, refl, sym, ◌∙◌}
use mathlib.Core.Logic.{inl, inr}
use mathlib.Core.List.{List, [], ◌∷◌}
use mathlib.Core.Bool.{Bool}
use native.Mathlib.Omega.{arith}
use lib.ListN.{length}
use borrow.Author.Tests.{eq-eqb, ne_eqb, lt-ltb}
use Rattle.commands.specs.declared.Context.{Context}
use Rattle.commands.specs.declared.Position.{Position}
use Rattle.commands.specs.declared.Decoded.TheVariants.{Moved}
use Rattle.commands.specs.Commands.{Operand, element, attribute, content, gap, string, variable, entry, template, point, strings_set, width, widths, byte, spelt, operands_of, operand_bytes, in_range, all_in_range, command}
use Rattle.commands.specs.Reading.{whole}
use Rattle.commands.proofs.Laws.{MovedOver, moved, moves}
use Rattle.pages.specs.declared.Kind.{Kind}
use Rattle.pages.specs.Items.{Attribute, Item, Items}
use Rattle.pages.specs.ItemReading.{item_context, attribute_context, leaf_at, end_of, attributes, items, item}
use Rattle.pages.specs.Written.{remarked, remarked_item}
use Rattle.pages.proofs.Whole.{never_unfinished, LeafRead, attributes_whole, items_whole, item_whole}
use Rattle.pages.proofs.Laws.{attributes_move, items_move, item_move}
use Rattle.pages.proofs.Steps.{leaf_code, attribute_code}

-- The bytes of s from an offset up to another stand in t, n further on.
pub record Shifted (s t : List ℕ) (n low high : ℕ) : Type 0 where
  pub fits : high + n ≤ length t
  pub same : (i : ℕ) → low ≤ i → i < high → byte t (i + n) ≡ byte s i

module _ (s t : List ℕ) (n low high : ℕ) (shifted : Shifted s t n low high) where
  same_at : (i j : ℕ) → j ≡ i + n → low ≤ i → i < high → byte t j ≡ byte s i
  same_at i j e l h = rw e (shifted.same i l h)

  spelt_shift : (w i j m : ℕ) → j ≡ i + n → low ≤ i → i + w ≤ high → spelt w t j m ≡ spelt w s i m
  unfolding spelt
  spelt_shift zero i j m e l h = refl
  spelt_shift (suc w) i j m e l h = rw (same_at i j e l (omega arith)) (spelt_shift w (suc i) (suc j) (m * 256 + byte s i) (omega (arith, e)) (omega arith) (omega arith))

  range_shift : (o : Operand) (i j : ℕ) → j ≡ i + n → low ≤ i → i + width o ≤ high → in_range o t j ≡ in_range o s i
  unfolding in_range
  range_shift element i j e l h = rw (same_at i j e l (omega arith))
  range_shift attribute i j e l h = rw (same_at i j e l (omega arith))
  range_shift content i j e l h = rw (same_at i j e l (omega arith))
  range_shift gap i j e l h = rw (same_at i j e l (omega arith))
  range_shift string i j e l h = rw (same_at i j e l (omega arith))
  range_shift variable i j e l h = rw (same_at i j e l (omega arith))
  range_shift entry i j e l h = rw (same_at i j e l (omega arith))
  range_shift template i j e l h = refl
  range_shift point i j e l h = refl
  range_shift strings_set i j e l h = rw (spelt_shift 8 i j 0 e l h)

  ranges_shift : (os : List Operand) (i j : ℕ) → j ≡ i + n → low ≤ i → i + widths os ≤ high → all_in_range os t j ≡ all_in_range os s i
  unfolding all_in_range
  ranges_shift [] i j e l h = refl
  ranges_shift (o ∷ os) i j e l h =
      rw (range_shift o i j e l (omega arith), ranges_shift os (i + width o) (j + width o) (omega (arith, e)) (omega arith) (omega arith))

  command_shift : (x : Context) (at : ℕ) (next : Position) → command x s at ≡ Moved (byte s at) next → low ≤ at → next.at ≤ high
      → command x t (at + n) ≡ Moved (byte s at) (record { at = next.at + n })
  unfolding operand_bytes
  command_shift x at next d l h =
      let m : MovedOver x s at (byte s at) next = moved x s at (byte s at) next d in
      let b : byte t (at + n) ≡ byte s at = shifted.same at l (omega (arith, m.forward)) in
      let fits : high + n ≤ length t = shifted.fits in
      let after : at + n + 1 + operand_bytes (byte s at) ≡ next.at + n = omega (arith, m.after) in
      let ranges : all_in_range (operands_of (byte s at)) t (at + n + 1) ≡ all_in_range (operands_of (byte s at)) s (at + 1) =
      ranges_shift (operands_of (byte s at)) (at + 1) (at + n + 1) (omega arith) (omega arith) (omega (arith, m.after)) in
      let go = moves x t (at + n) (omega (arith, m.forward)) (rw b m.permitted) (rw b (omega (arith, m.after))) (rw b (ranges ∙ m.ranges)) in
      sym (rw (b, after) at go)

  attribute_long : (k : Kind) (at : ℕ) (next : Position) → command (attribute_context k) s at ≡ Moved (byte s at) next → at + 2 ≤ next.at
  unfolding operand_bytes operands_of
  attribute_long k at next d =
      let m : MovedOver (attribute_context k) s at (byte s at) next = moved _ s at (byte s at) next d in
      elim (attribute_code k (byte s at) m.permitted) [
        | inl q ↦ let w : operand_bytes (byte s at) ≡ 2 = rw q in omega (arith, m.after, w)
        | inr (inl q) ↦ let w : operand_bytes (byte s at) ≡ 2 = rw q.0 in omega (arith, m.after, w)
        | inr (inr q) ↦ let w : operand_bytes (byte s at) ≡ 1 = rw q.0 in omega (arith, m.after, w)
      ]

  pub attributes_shift : (f : ℕ) (k : Kind) (before : List ℕ) (at : ℕ) (δ : List Attribute) (end : ℕ) → attributes f k s before at ≡ whole δ end → low ≤ at → end < high
      → attributes f k t before (at + n) ≡ whole δ (end + n)
  unfolding attributes
  attributes_shift zero k before at δ end e l h = never_unfinished e
  attributes_shift (suc f) k before at δ end e l h = elim (attributes_whole f k s before at δ end e) [
    | inl r ↦
        let b : byte t (at + n) ≡ byte s at = shifted.same at l (omega (arith, r.here)) in
        rw (b, r.not_attribute, r.no_more, r.here)
    | inr r ↦
        let m : MovedOver (attribute_context k) s at (byte s at) r.next = moved _ s at _ r.next r.stands in
        let long = attribute_long k at r.next r.stands in
        let on = attributes_move f k s (byte s (at + 1) ∷ before) r.next.at r.rest end m.inside r.reads_rest in
        let b : byte t (at + n) ≡ byte s at = shifted.same at l (omega arith) in
        let b₁ : byte t (at + n + 1) ≡ byte s (at + 1) = same_at (at + 1) (at + n + 1) (omega arith) (omega arith) (omega arith) in
        let b₂ : byte t (at + n + 2) ≡ byte s (at + 2) = same_at (at + 2) (at + n + 2) (omega arith) (omega arith) (omega arith) in
        rw (
          b,
          r.permitted,
          command_shift (attribute_context k) at r.next r.stands l (omega arith),
          b₁,
          b₂,
          r.fresh,
          attributes_shift f k (byte s (at + 1) ∷ before) r.next.at r.rest end r.reads_rest (omega (arith, m.forward)) h,
          r.is_more,
        )
  ]

  leaf_shift : (k : Kind) (at : ℕ) (i : Item) (end : ℕ) (r : LeafRead k s at i end) → low ≤ at → end ≤ high
      → whole (leaf_at t (at + n) (byte s at)) (r.next.at + n) ≡ whole (remarked_item (λ m. m + n) i) (end + n)
  unfolding remarked operand_bytes operands_of
  leaf_shift k at i end r l h =
      let m : MovedOver (item_context k) s at (byte s at) r.next = moved _ s at _ r.next r.stands in
      elim (leaf_code k (byte s at) m.permitted r.no_element) [
        | inl q ↦ rw (r.is_leaf, q, r.after)
        | inr (inl q) ↦ rw (r.is_leaf, q, r.after)
        | inr (inr q) ↦
            let w : operand_bytes (byte s at) ≡ 1 = rw q.0 in
            let b₁ : byte t (at + n + 1) ≡ byte s (at + 1) = same_at (at + 1) (at + n + 1) (omega arith) (omega arith) (omega (arith, m.after, w, r.after)) in
            rw (r.is_leaf, q.0, b₁, r.after)
      ]

  mutual
    unfolding items remarked

    pub items_shift : (f : ℕ) (k : Kind) (ruled : ℕ → Bool) (depth at : ℕ) (φ : Items) (end : ℕ) → items f k ruled s depth at ≡ whole φ end → low ≤ at → end ≤ high
        → items f k ruled t depth (at + n) ≡ whole (remarked (λ m. m + n) φ) (end + n)
    items_shift zero k ruled depth at φ end e l h = never_unfinished e
    items_shift (suc f) k ruled depth at φ end e l h = elim (items_whole f k ruled s depth at φ end e) [
      | inl r ↦
          let b : byte t (at + n) ≡ byte s at = shifted.same at l (omega (arith, r.after)) in
          let z : at + n + 1 ≡ end + n = omega (arith, r.after) in
          rw (b, eq-eqb (byte s at) (end_of depth) r.ended, z, r.no_more)
      | inr r ↦
          let first = item_move f k ruled s depth at r.first r.next r.reads_first in
          let rest = items_move f k ruled s depth r.next r.rest end r.reads_rest in
          let b : byte t (at + n) ≡ byte s at = shifted.same at l (omega (arith, first.forward, rest.forward)) in
          rw (
            b,
            ne_eqb (byte s at) (end_of depth) r.not_ended,
            item_shift f k ruled depth at r.first r.next r.reads_first l (omega (arith, rest.forward)),
            items_shift f k ruled depth r.next r.rest end r.reads_rest (omega (arith, first.forward)) h,
            r.is_more,
          )
    ]

    pub item_shift : (f : ℕ) (k : Kind) (ruled : ℕ → Bool) (depth at : ℕ) (i : Item) (end : ℕ) → item f k ruled s depth at ≡ whole i end → low ≤ at → end ≤ high
        → item f k ruled t depth (at + n) ≡ whole (remarked_item (λ m. m + n) i) (end + n)
    item_shift zero k ruled depth at i end e l h = never_unfinished e
    item_shift (suc f) k ruled depth at i end e l h = elim (item_whole f k ruled s depth at i end e) [
      | inl r ↦ rw (command_shift (item_context k) at r.next r.stands l (omega (arith, r.after)), ne_eqb (byte s at) 0x23 r.no_element) (leaf_shift k at i end r l h)
      | inr r ↦
          let m : MovedOver (item_context k) s at (byte s at) r.next = moved _ s at _ r.next r.stands in
          let named = attributes_move f k s [] r.next.at r.named r.inside m.inside r.reads_attributes in
          let contents = items_move f k ruled s (depth + 1) r.inside r.contents end r.reads_contents in
          let b₁ : byte t (at + n + 1) ≡ byte s (at + 1) = same_at (at + 1) (at + n + 1) (omega arith) (omega arith) (omega (arith, m.forward, contents.forward)) in
          rw (
            command_shift (item_context k) at r.next r.stands l (omega (arith, contents.forward)),
            eq-eqb (byte s at) 0x23 r.opens,
            b₁,
            r.has_rule,
            lt-ltb _ _ r.nests,
            attributes_shift f k [] r.next.at r.named r.inside r.reads_attributes (omega (arith, m.forward)) (omega (arith, contents.forward)),
            items_shift f k ruled (depth + 1) r.inside r.contents end r.reads_contents (omega (arith, m.forward)) h,
            r.is_element_lem,
          )
    ]
