-- Items in range, written out as bytes, are read back as themselves, with each element's mark where it was written; so is a page.
use Prim.Native.Nat.{ℕ, zero, suc, ◌+◌, ◌≤◌, ◌<◌}
use native.Mathlib.Omega.{arith}
use mathlib.Core.Path.{◌≡◌, refl, ap, ◌∙◌}
use mathlib.Core.List.{List, [], ◌∷◌, ◌++◌}
use mathlib.Core.Bool.{Bool, true, false, cond}
use lib.ListN.{length, length-append}
use lib.Dec.{ltb, eqb}
use borrow.Author.Tests.{ltb-true, ltb-false, le-leb, lt-ltb, eq-eqb, ne_eqb}
use Rattle.commands.specs.declared.Context.TheVariants.{TemplateItems, TemplateAttributes, PageItems, PageAttributes}
use Rattle.commands.specs.declared.Decoded.TheVariants.{Moved}
use Rattle.commands.specs.Commands.{byte, all_in_range, allowed, operands_of, operand_bytes, command}
use Rattle.commands.specs.Reading.{whole, enough}
use Rattle.vocabularies.specs.Vocabulary.{Vocabulary, is_in, declared}
use Rattle.pages.specs.declared.Kind.{Kind}
use Rattle.pages.specs.declared.Kind.TheVariants.{Template, Page}
use Rattle.pages.specs.Items.{Value, string, open_gap, Attribute, Item, text, blank, gap, element, Items, none, more}
use Rattle.pages.specs.ItemReading.{item_context, attribute_context, nesting, value_at, attributes, end_of, items, item, page_slice}
use Rattle.round_trip.specs.Written.{written_value, written_attributes, written_items, written_item, written_page, marked, marked_item}
use Rattle.round_trip.specs.InRange.{Distinct, ValueInRange, AttributesInRange, GapInRange, element_depth, element_depth_of, deepest, ItemsInRange, ItemInRange, PageInRange}
use Rattle.round_trip.proofs.Once.{NoneOf, none_of_none, none_after, eqb_turned, names}
use Rattle.round_trip.proofs.Rests.{Rest, all, head, byte_at, first, behind, grouped, taken, bare_goes, element_goes, ends_at, reads_alone}

-- A command that may stand among the attributes of templates and of pages, or of neither.
either_kind : (k : Kind) (c : ℕ) {b : Bool} → allowed TemplateAttributes c ≡ b → allowed PageAttributes c ≡ b → allowed (attribute_context k) c ≡ b
either_kind Template c p q = p
either_kind Page c p q = q

-- A command that may stand among the items of both.
both_kinds : (k : Kind) (c : ℕ) → allowed TemplateItems c ≡ true → allowed PageItems c ≡ true → allowed (item_context k) c ≡ true
both_kinds Template c p q = p
both_kinds Page c p q = q

-- What is read where an attribute was written.
record Attributed (k : Kind) (s : List ℕ) (at name : ℕ) (v : Value) (bytes : ℕ) : Type 0 where
  code : ℕ
  stands : allowed (attribute_context k) (byte s at) ≡ true
  goes : command (attribute_context k) s at ≡ Moved code (record { at = at + bytes })
  onward : 0 < bytes
  named : byte s (at + 1) ≡ name
  valued : value_at s at code ≡ v

module _ (s : List ℕ) (at a : ℕ) (h : a ≤ 31) (w : List ℕ) where
  named_string : (k : Kind) (t : ℕ) → t < 64 → Rest s at (0x24 ∷ a ∷ t ∷ w) → Attributed k s at a (string t) 3
  unfolding allowed operand_bytes operands_of all_in_range
  named_string k t l r = record {
    code = 0x24;
    stands = rw (first r) (either_kind k 0x24 refl refl);
    goes = taken (attribute_context k) 0x24 _ r (either_kind k 0x24 refl refl) (omega arith) (rw (le-leb a 31 h, lt-ltb t 64 l));
    onward = omega arith;
    named = byte_at 1 r;
    valued = ap string (byte_at 2 r);
  }

  attribute_gap : (g : ℕ) → g ≤ 7 → Rest s at (0x25 ∷ a ∷ g ∷ w) → Attributed Template s at a (open_gap g) 3
  unfolding allowed operand_bytes operands_of all_in_range
  attribute_gap g l r = record {
    code = 0x25;
    stands = rw (first r);
    goes = taken TemplateAttributes 0x25 _ r refl (omega arith) (rw (le-leb a 31 h, le-leb g 7 l));
    onward = omega arith;
    named = byte_at 1 r;
    valued = ap open_gap (byte_at 2 r);
  }

  other_string : Rest s at (0x28 ∷ a ∷ w) → Attributed Page s at a (string 64) 2
  unfolding allowed operand_bytes operands_of all_in_range
  other_string r = record {
    code = 0x28;
    stands = rw (first r);
    goes = taken PageAttributes 0x28 _ r refl (omega arith) (rw (le-leb a 31 h));
    onward = omega arith;
    named = byte_at 1 r;
    valued = refl;
  }

  attributed : (k : Kind) (v : Value) → ValueInRange k v → Rest s at (written_value a v ++ w) → Attributed k s at a v (length (written_value a v))
  attributed Template (string t) i r = rw (lt-ltb t 64 i) (named_string Template t i (rw (lt-ltb t 64 i) at r))
  attributed Template (open_gap g) i r = attribute_gap g i r
  attributed Page (string t) i r = by_test (ltb t 64) refl r
    where
      by_test : (b : Bool) → ltb t 64 ≡ b → Rest s at (cond b (0x24 ∷ a ∷ t ∷ []) (0x28 ∷ a ∷ []) ++ w)
          → Attributed Page s at a (string t) (length (cond b (0x24 ∷ a ∷ t ∷ []) (0x28 ∷ a ∷ [])))
      by_test true e r = named_string Page t (ltb-true t 64 e) r
      by_test false e r = let same : 64 ≡ t = omega (arith, ltb-false t 64 e) in rw same at (other_string r)
  attributed Page (open_gap g) i r = absurd i

-- The attributes of an element are read back, if what stands behind is none.
reads_attributes : (f : ℕ) (k : Kind) (before : List ℕ) (δ : List Attribute) → AttributesInRange k δ → Distinct (names δ) → NoneOf (λ n. is_in n before) (names δ)
    → (s : List ℕ) (at : ℕ) (w : List ℕ) → allowed (attribute_context k) (head w) ≡ false → Rest s at (written_attributes δ ++ w) → length s < at + f
    → attributes f k s before at ≡ whole δ (at + length (written_attributes δ))
unfolding attributes written_attributes AttributesInRange Distinct
reads_attributes zero k before δ i o n s at w e r h = absurd (omega arith)
reads_attributes (suc f) k before [] i o n s at w e r h = rw (first r, e) (ends_at refl (omega arith))
reads_attributes (suc f) k before (a ∷ δ) i o n s at w e r h =
    let u = written_value a.name a.value in
    let r₁ = grouped u (written_attributes δ) w r in
    let t = attributed s at a.name i.0 (written_attributes δ ++ w) k a.value i.1 r₁ in
    let n' : NoneOf (λ m. is_in m (a.name ∷ before)) (names δ) = none_after (λ m. is_in m before) _ a.name (λ m p q. rw (eqb_turned a.name m q, p)) (names δ) o.0 n.1 in
    rw (t.stands, t.goes, t.valued, t.named, n.0, reads_attributes f k (a.name ∷ before) δ i.2 o.1 n' s (at + length u) w e (behind u r₁) (omega (arith, t.onward)))
    (ends_at refl (omega (arith, length-append u (written_attributes δ))))

-- A command that is neither `26` nor `27` ends no list of items.
not_end : (c depth : ℕ) → eqb c 0x27 ≡ false → eqb c 0x26 ≡ false → eqb c (end_of depth) ≡ false
not_end c depth p q = by_test (eqb depth 0)
  where
    by_test : (b : Bool) → eqb c (cond b 0x27 0x26) ≡ false
    by_test true = p
    by_test false = q

item_no_end : (i : Item) (depth : ℕ) (w : List ℕ) → eqb (head (written_item i ++ w)) (end_of depth) ≡ false
unfolding written_items
item_no_end text depth w = not_end 0x21 depth refl refl
item_no_end blank depth w = not_end 0x29 depth refl refl
item_no_end (gap g) depth w = not_end 0x22 depth refl refl
item_no_end (element e mark δ φ) depth w = not_end 0x23 depth refl refl

item_onward : (i : Item) → 0 < length (written_item i)
unfolding written_items
item_onward text = omega arith
item_onward blank = omega arith
item_onward (gap g) = omega arith
item_onward (element e mark δ φ) = omega arith

-- Items, and the `26` behind them, begin with no attribute.
items_no_attribute : (k : Kind) (φ : Items) (w : List ℕ) → allowed (attribute_context k) (head (written_items φ ++ 0x26 ∷ w)) ≡ false
unfolding written_items allowed
items_no_attribute k none w = either_kind k 0x26 refl refl
items_no_attribute k (more text φ) w = either_kind k 0x21 refl refl
items_no_attribute k (more blank φ) w = either_kind k 0x29 refl refl
items_no_attribute k (more (gap g) φ) w = either_kind k 0x22 refl refl
items_no_attribute k (more (element e mark δ φ') φ) w = either_kind k 0x23 refl refl

gap_goes : (k : Kind) (s : List ℕ) (at g : ℕ) (w : List ℕ) → GapInRange k g → Rest s at (0x22 ∷ g ∷ w)
    → command (item_context k) s at ≡ Moved 0x22 (record { at = at + 2 })
unfolding allowed operand_bytes operands_of all_in_range
gap_goes Template s at g w h r = taken TemplateItems 0x22 _ r refl (omega arith) (rw (le-leb g 7 (omega arith)))
gap_goes Page s at g w h r = absurd h

-- What ends an element's items.
pub closes : (depth : ℕ) → end_of (depth + 1) ≡ 0x26
closes depth = rw (ne_eqb (depth + 1) 0 (λ p. omega arith))

-- Reading lets elements nest as deep as document 01 does.
as_deep : (k : Kind) → deepest k ≤ nesting k
as_deep Template = omega arith
as_deep Page = omega arith

-- Items are read back, up to and with what ends them; an item at the same offset takes one fuel less.
module _ (k : Kind) (ruled : ℕ → Bool) where
  mutual
    unfolding items written_items marked element_depth ItemsInRange allowed operands_of

    pub reads_items : (f depth : ℕ) (φ : Items) → ItemsInRange k ruled φ → depth + element_depth φ ≤ deepest k → (s : List ℕ) (at : ℕ) (w : List ℕ)
        → Rest s at (written_items φ ++ end_of depth ∷ w) → length s + length s + 1 < at + at + f
        → items f k ruled s depth at ≡ whole (marked at φ) (at + length (written_items φ) + 1)
    reads_items zero depth φ i d s at w r h = absurd (omega arith)
    reads_items (suc f) depth none i d s at w r h = rw (first r, eq-eqb (end_of depth) (end_of depth) refl) (ends_at refl (omega arith))
    reads_items (suc f) depth (more j φ) i d s at w r h =
        let u = written_item j in
        let v : List ℕ = written_items φ ++ end_of depth ∷ w in
        let r₁ = grouped u (written_items φ) (end_of depth ∷ w) r in
        rw (
          first r₁,
          item_no_end j depth v,
          reads_item f depth j i.0 (omega arith) s at v r₁ (omega arith),
          reads_items f depth φ i.1 (omega arith) s (at + length u) w (behind u r₁) (omega (arith, item_onward j)),
        )
        (ends_at refl (omega (arith, length-append u (written_items φ))))

    reads_item : (f depth : ℕ) (j : Item) → ItemInRange k ruled j → depth + element_depth_of j ≤ deepest k → (s : List ℕ) (at : ℕ) (w : List ℕ)
        → Rest s at (written_item j ++ w) → length s + length s < at + at + f
        → item f k ruled s depth at ≡ whole (marked_item at j) (at + length (written_item j))
    reads_item zero depth j i d s at w r h = absurd (omega arith)
    reads_item (suc f) depth text i d s at w r h = rw (bare_goes (item_context k) 0x21 (both_kinds k 0x21 refl refl) refl s at w r)
    reads_item (suc f) depth blank i d s at w r h = rw (bare_goes (item_context k) 0x29 (both_kinds k 0x29 refl refl) refl s at w r)
    reads_item (suc f) depth (gap g) i d s at w r h = rw (gap_goes k s at g w i r, byte_at 1 r)
    reads_item (suc f) depth (element e mark δ φ) i d s at w r h =
        let u = written_attributes δ in
        let v = written_items φ in
        let r₁ = grouped u v (0x26 ∷ w) (grouped (u ++ v) (0x26 ∷ []) w (behind (0x23 ∷ e ∷ []) r)) in
        let r₂ : Rest s (at + 2 + length u) (v ++ end_of (depth + 1) ∷ w) = rw (closes depth) (behind u r₁) in
        rw (
          element_goes (item_context k) 0x23 (both_kinds k 0x23 refl refl) refl s at e _ i.0 r,
          byte_at 1 r,
          i.1,
          lt-ltb depth (nesting k) (omega (arith, as_deep k)),
          reads_attributes f k [] δ i.2 i.3 (none_of_none (names δ)) s (at + 2) (v ++ 0x26 ∷ w) (items_no_attribute k φ w) r₁ (omega arith),
          reads_items f (depth + 1) φ i.4 (omega arith) s (at + 2 + length u) w r₂ (omega arith),
        )
        (ends_at refl (omega (arith, length-append (u ++ v) (0x26 ∷ []), length-append u v)))

pub page_back : (D : Vocabulary) (φ : Items) → PageInRange D φ → length (written_page φ) ≤ 65535
    → page_slice D (written_page φ) ≡ whole (marked 0 φ) (length (written_page φ))
unfolding page_slice written_page
page_back D φ i h =
    let s = written_page φ in
    reads_alone s h
    (ends_at (reads_items Page (declared D.rules) (enough s) 0 φ i.items (omega (arith, i.nesting)) s 0 [] (all s) (omega arith))
    (omega (arith, length-append (written_items φ) (0x27 ∷ []))))

-- A page whose marks are where its elements are written is read back as itself.
pub marked_back : (D : Vocabulary) (φ : Items) → PageInRange D φ → marked 0 φ ≡ φ → length (written_page φ) ≤ 65535
    → page_slice D (written_page φ) ≡ whole φ (length (written_page φ))
marked_back D φ i m h = page_back D φ i h ∙ ap (λ φ'. whole φ' (length (written_page φ))) m

-- Marks are not written,
mutual
  unfolding written_items marked

  pub same_items : (φ : Items) (at : ℕ) → written_items (marked at φ) ≡ written_items φ
  same_items none at = refl
  same_items (more j φ) at = rw (same_item j at, same_items φ (at + length (written_item j)))

  same_item : (j : Item) (at : ℕ) → written_item (marked_item at j) ≡ written_item j
  same_item text at = refl
  same_item blank at = refl
  same_item (gap g) at = refl
  same_item (element e mark δ φ) at = rw (same_items φ (at + 2 + length (written_attributes δ)))

-- so a page that was marked has its marks where its elements are written.
mutual
  unfolding written_items marked

  pub marked_once : (φ : Items) (at : ℕ) → marked at (marked at φ) ≡ marked at φ
  marked_once none at = refl
  marked_once (more j φ) at = rw (same_item j at, marked_item_once j at, marked_once φ (at + length (written_item j)))

  marked_item_once : (j : Item) (at : ℕ) → marked_item at (marked_item at j) ≡ marked_item at j
  marked_item_once text at = refl
  marked_item_once blank at = refl
  marked_item_once (gap g) at = refl
  marked_item_once (element e mark δ φ) at = rw (marked_once φ (at + 2 + length (written_attributes δ)))
