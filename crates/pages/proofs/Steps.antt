-- The steps of walks over items and attributes that were read: what stands at an offset, and from a reading that came out whole, what
-- the step there tells of it and how the rest reads.
use Prim.Native.Nat.{ℕ, zero, suc, ◌+◌, ◌%◌, ◌≤◌, ◌<◌}
use mathlib.Core.Path.{◌≡◌, refl, sym, ◌∙◌}
use mathlib.Core.Logic.{◌⊎◌, inl, inr}
use mathlib.Core.List.{List, [], ◌∷◌}
use mathlib.Core.Bool.{Bool, true, false, cond, ◌&&◌}
use native.Mathlib.Nat.{mod-eq_of_lt, mod-lt}
use native.Mathlib.Omega.{arith}
use lib.ListN.{length}
use lib.Dec.{eqb, leb, lit<}
use borrow.Author.Tests.{leb-true, ltb-true, lt-ltb, le-ltb, eqb-true, eqb-false, ne_eqb}
use Rattle.commands.specs.declared.Position.{Position}
use Rattle.commands.specs.Commands.{byte, strings, operands_of, operand_bytes, all_in_range, in_range, between, either, allowed}
use Rattle.commands.specs.Reading.{whole}
use Rattle.commands.proofs.Laws.{MovedOver, moved}
use Rattle.vocabularies.specs.Vocabulary.{is_in}
use Rattle.pages.specs.declared.Kind.{Kind}
use Rattle.pages.specs.declared.Kind.TheVariants.{Template, Page}
use Rattle.pages.specs.declared.ItemHere.{ItemHere}
use Rattle.pages.specs.declared.ItemHere.TheVariants.{Text, Gap, Element, Blank, End}
use Rattle.pages.specs.declared.AttributeHere.{AttributeHere}
use Rattle.pages.specs.declared.AttributeHere.TheVariants.{Fixed, Open, Done}
use Rattle.pages.specs.Items.{string, open_gap, Attribute, Item, text, blank, gap, element, Items, none, more}
use Rattle.pages.specs.ItemReading.{item_context, attribute_context, nesting, value_at, attributes, items, item}
use Rattle.pages.specs.Inner.Steps.{item_here, Steps, ItemMoves, attribute_here, AttributeMoves}
use Rattle.pages.proofs.Whole.{never_unfinished, LeafRead, ElementRead, AttributeMore, ItemsEnd, ItemsMore, attributes_whole, items_whole, item_whole}
use Rattle.pages.proofs.Laws.{ended_inside, attribute_range, element_range}
use Rattle.sets.proofs.Booleans.{or_cases, and_left, and_right}

-- ---- what stands at an offset

module _ (s : List ℕ) (at : ℕ) where
  pub past_items : length s ≤ at → item_here s at ≡ End (record { at = at })
  unfolding item_here
  past_items h = rw (le-ltb at (length s) h)

  pub past_attributes : length s ≤ at → attribute_here s at ≡ Done
  unfolding attribute_here
  past_attributes h = rw (le-ltb at (length s) h)

  module _ (here : at < length s) where
    pub is_text : byte s at ≡ 0x21 → item_here s at ≡ Text (record { at = at + 1 })
    unfolding item_here
    is_text e = rw (lt-ltb at (length s) here, e)

    pub is_gap_lem : byte s at ≡ 0x22 → item_here s at ≡ Gap (byte s (at + 1) % 8) (record { at = at + 2 })
    unfolding item_here
    is_gap_lem e = rw (lt-ltb at (length s) here, e)

    pub is_element_lem : byte s at ≡ 0x23 → item_here s at ≡ Element (byte s (at + 1) % 64) (record { at = at + 2 })
    unfolding item_here
    is_element_lem e = rw (lt-ltb at (length s) here, e)

    pub is_blank : byte s at ≡ 0x29 → item_here s at ≡ Blank (record { at = at + 1 })
    unfolding item_here
    is_blank e = rw (lt-ltb at (length s) here, e)

    pub is_end : (byte s at ≡ 0x21 → ⊥) → (byte s at ≡ 0x22 → ⊥) → (byte s at ≡ 0x23 → ⊥) → (byte s at ≡ 0x29 → ⊥) → item_here s at ≡ End (record { at = at + 1 })
    unfolding item_here
    is_end a b c d = rw (lt-ltb at (length s) here, ne_eqb (byte s at) 0x21 a, ne_eqb (byte s at) 0x22 b, ne_eqb (byte s at) 0x23 c, ne_eqb (byte s at) 0x29 d)

    pub is_named : byte s at ≡ 0x24 → attribute_here s at ≡ Fixed (byte s (at + 1) % 32) (byte s (at + 2) % 64) (record { at = at + 3 })
    unfolding attribute_here
    is_named e = rw (lt-ltb at (length s) here, e)

    pub is_open : byte s at ≡ 0x25 → attribute_here s at ≡ Open (byte s (at + 1) % 32) (byte s (at + 2) % 8) (record { at = at + 3 })
    unfolding attribute_here
    is_open e = rw (lt-ltb at (length s) here, e)

    pub is_outside : byte s at ≡ 0x28 → attribute_here s at ≡ Fixed (byte s (at + 1) % 32) strings (record { at = at + 2 })
    unfolding attribute_here
    is_outside e = rw (lt-ltb at (length s) here, e)

    pub is_done : (byte s at ≡ 0x24 → ⊥) → (byte s at ≡ 0x25 → ⊥) → (byte s at ≡ 0x28 → ⊥) → attribute_here s at ≡ Done
    unfolding attribute_here
    is_done a b c = rw (lt-ltb at (length s) here, ne_eqb (byte s at) 0x24 a, ne_eqb (byte s at) 0x25 b, ne_eqb (byte s at) 0x28 c)

-- ---- the steps, from the bytes that stand there

module _ (s : List ℕ) (at : ℕ) where
  pub no_attribute_step : length s ≤ at → (Done ≡ attribute_here s at) × AttributeMoves s at Done
  unfolding AttributeMoves
  no_attribute_step h = (sym (past_attributes s at h), tt)

  pub no_step : length s ≤ at → (p : Position) → p.at ≡ at → (End p ≡ item_here s at) × ItemMoves s at (End p)
  unfolding ItemMoves
  no_step h p e = (sym (rw e (past_items s at h)), omega (arith, e))

  module _ (here : at < length s) (code : ℕ) (is : code ≡ byte s (at + 0)) where
    first : byte s at ≡ code
    first = let z : at + 0 ≡ at = omega arith in sym (rw z at is)

    stepped : (n : ℕ) (p : Position) → 0 < n → p ≡ record { at = at + n } → Steps s at p.at
    stepped n p some e = record { inside = here; forward = rw e (omega arith) }

    pub text_step : code ≡ 0x21 → (p : Position) → p ≡ record { at = at + 1 } → (Text p ≡ item_here s at) × ItemMoves s at (Text p)
    unfolding ItemMoves
    text_step e p q = (rw q (sym (is_text s at here (first ∙ e))), stepped 1 p (lit< tt) q)

    pub blank_step : code ≡ 0x29 → (p : Position) → p ≡ record { at = at + 1 } → (Blank p ≡ item_here s at) × ItemMoves s at (Blank p)
    unfolding ItemMoves
    blank_step e p q = (rw q (sym (is_blank s at here (first ∙ e))), stepped 1 p (lit< tt) q)

    pub end_step : (code ≡ 0x21 → ⊥) → (code ≡ 0x22 → ⊥) → (code ≡ 0x23 → ⊥) → (code ≡ 0x29 → ⊥) → (p : Position) → p ≡ record { at = at + 1 } → (End p ≡ item_here s at) × ItemMoves s at (End p)
    unfolding ItemMoves
    end_step a b c d p q =
        (rw q (sym (is_end s at here (λ e. a (sym first ∙ e)) (λ e. b (sym first ∙ e)) (λ e. c (sym first ∙ e)) (λ e. d (sym first ∙ e)))), rw q (omega arith))

    pub done_step : (code ≡ 0x24 → ⊥) → (code ≡ 0x25 → ⊥) → (code ≡ 0x28 → ⊥) → (Done ≡ attribute_here s at) × AttributeMoves s at Done
    unfolding AttributeMoves
    done_step a b c = (sym (is_done s at here (λ e. a (sym first ∙ e)) (λ e. b (sym first ∙ e)) (λ e. c (sym first ∙ e))), tt)

    module _ (x : ℕ) (is_x : x ≡ byte s (at + 1)) where
      pub gap_step : code ≡ 0x22 → (p : Position) → p ≡ record { at = at + 2 } → (Gap (x % 8) p ≡ item_here s at) × ItemMoves s at (Gap (x % 8) p)
      unfolding ItemMoves
      gap_step e p q = (rw (q, is_x) (sym (is_gap_lem s at here (first ∙ e))), (stepped 2 p (lit< tt) q, mod-lt x (lit< tt)))

      pub element_step : code ≡ 0x23 → (p : Position) → p ≡ record { at = at + 2 } → (Element (x % 64) p ≡ item_here s at) × ItemMoves s at (Element (x % 64) p)
      unfolding ItemMoves
      element_step e p q = (rw (q, is_x) (sym (is_element_lem s at here (first ∙ e))), (stepped 2 p (lit< tt) q, mod-lt x (lit< tt)))

      pub outside_step : code ≡ 0x28 → (p : Position) → p ≡ record { at = at + 2 }
          → (Fixed (x % 32) strings p ≡ attribute_here s at) × AttributeMoves s at (Fixed (x % 32) strings p)
      unfolding AttributeMoves
      outside_step e p q = (rw (q, is_x) (sym (is_outside s at here (first ∙ e))), (stepped 2 p (lit< tt) q, mod-lt x (lit< tt), omega arith))

      module _ (y : ℕ) (is_y : y ≡ byte s (at + 2)) where
        pub named_step : code ≡ 0x24 → (p : Position) → p ≡ record { at = at + 3 }
            → (Fixed (x % 32) (y % 64) p ≡ attribute_here s at) × AttributeMoves s at (Fixed (x % 32) (y % 64) p)
        unfolding AttributeMoves
        named_step e p q =
            let l : y % 64 < 64 = mod-lt y (lit< tt) in
            (rw (q, is_x, is_y) (sym (is_named s at here (first ∙ e))), (stepped 3 p (lit< tt) q, mod-lt x (lit< tt), omega arith))

        pub open_step : code ≡ 0x25 → (p : Position) → p ≡ record { at = at + 3 }
            → (Open (x % 32) (y % 8) p ≡ attribute_here s at) × AttributeMoves s at (Open (x % 32) (y % 8) p)
        unfolding AttributeMoves
        open_step e p q = (rw (q, is_x, is_y) (sym (is_open s at here (first ∙ e))), (stepped 3 p (lit< tt) q, mod-lt x (lit< tt), mod-lt y (lit< tt)))

-- ---- an item that was read

pub record ElementAt (k : Kind) (ruled : ℕ → Bool) (s : List ℕ) (depth at e : ℕ) (next : Position) (i : Item) (end : ℕ) : Type 0 where
  pub fuel : ℕ
  pub named : List Attribute
  pub inside : ℕ
  pub contents : Items
  pub is_it : i ≡ element e at named contents
  pub has_rule : ruled e ≡ true
  pub least : 1 ≤ e
  pub most : e ≤ 63
  pub nests : depth < nesting k
  pub reads_attributes : attributes fuel k s [] next.at ≡ whole named inside
  pub reads_contents : items fuel k ruled s (depth + 1) inside ≡ whole contents end

pub record GapAt (k : Kind) (g : ℕ) (next : Position) (i : Item) (end : ℕ) : Type 0 where
  pub in_template : k ≡ Template
  pub small : g < 8
  pub is_it : i ≡ gap g
  pub after : next.at ≡ end

-- By what stands there.
abbrev pub ItemFrom : Kind → (ℕ → Bool) → List ℕ → ℕ → ℕ → Item → ℕ → ItemHere → Type 0
ItemFrom k ruled s depth at i end (Text next) = (i ≡ text) × (next.at ≡ end)
ItemFrom k ruled s depth at i end (Gap g next) = GapAt k g next i end
ItemFrom k ruled s depth at i end (Element e next) = ElementAt k ruled s depth at e next i end
ItemFrom k ruled s depth at i end (Blank next) = (i ≡ blank) × (next.at ≡ end)
ItemFrom k ruled s depth at i end (End next) = ⊥

between_of : (c : ℕ) → (leb 0x21 c && leb c 0x23) ≡ true → (c ≡ 0x23 → ⊥) → (c ≡ 0x21) ⊎ (c ≡ 0x22)
between_of c e n =
    let low : 0x21 ≤ c = leb-true _ _ (and_left (leb 0x21 c) (leb c 0x23) e) in
    let high : c ≤ 0x23 = leb-true _ _ (and_right (leb 0x21 c) (leb c 0x23) e) in
    go (eqb c 0x21) refl low high
  where
    go : (t : Bool) → eqb c 0x21 ≡ t → 0x21 ≤ c → c ≤ 0x23 → (c ≡ 0x21) ⊎ (c ≡ 0x22)
    go true q low high = inl (eqb-true c 0x21 q)
    go false q low high =
        let m : c ≡ 0x21 → ⊥ = eqb-false c 0x21 q in
        inr (omega (arith, m, n))

-- What is allowed among items and opens no element: `21`, `29`, and in templates `22`.
pub leaf_code : (k : Kind) (c : ℕ) → allowed (item_context k) c ≡ true → (c ≡ 0x23 → ⊥) → (c ≡ 0x21) ⊎ (c ≡ 0x29) ⊎ ((c ≡ 0x22) × (k ≡ Template))
unfolding allowed
leaf_code Template c e n = elim (or_cases (between 0x21 0x23 c) (eqb c 0x29) e) [
  | inl p ↦ elim (between_of c p n) [ inl q ↦ inl q | inr q ↦ inr (inr (q, refl)) ]
  | inr q ↦ inr (inl (eqb-true c 0x29 q))
]
leaf_code Page c e n = elim (or_cases (either 0x21 0x23 c) (eqb c 0x29) e) [
  | inl p ↦ elim (or_cases (eqb c 0x21) (eqb c 0x23) p) [ inl q ↦ inl (eqb-true c 0x21 q) | inr q ↦ absurd (n (eqb-true c 0x23 q)) ]
  | inr q ↦ inr (inl (eqb-true c 0x29 q))
]

module _ (f : ℕ) (k : Kind) (ruled : ℕ → Bool) (s : List ℕ) (depth at : ℕ) (i : Item) (end : ℕ) where
  leaf_from : LeafRead k s at i end → ItemFrom k ruled s depth at i end (item_here s at)
  unfolding operand_bytes operands_of all_in_range in_range
  leaf_from r =
      let m : MovedOver (item_context k) s at (byte s at) r.next = moved _ s at _ r.next r.stands in
      let here : at < length s = omega (arith, m.forward, m.inside) in
      elim (leaf_code k (byte s at) m.permitted r.no_element) [
        | inl q ↦
            let w : operand_bytes (byte s at) ≡ 0 = rw q in
            rw (is_text s at here q) (rw q at r.is_leaf, omega (arith, r.after, m.after, w))
        | inr (inl q) ↦
            let w : operand_bytes (byte s at) ≡ 0 = rw q in
            rw (is_blank s at here q) (rw q at r.is_leaf, omega (arith, r.after, m.after, w))
        | inr (inr q) ↦
            let w : operand_bytes (byte s at) ≡ 1 = rw q.0 in
            let g : byte s (at + 1) ≤ 7 = leb-true _ _ (and_left _ _ (rw q.0 at m.ranges)) in
            let l : byte s (at + 1) % 8 ≡ byte s (at + 1) = mod-eq_of_lt (omega arith) in
            rw (is_gap_lem s at here q.0, l) (record {
              in_template = q.1;
              small = omega arith;
              is_it = rw q.0 at r.is_leaf;
              after = omega (arith, r.after, m.after, w);
            })
      ]

  element_from : ElementRead f k ruled s depth at i end → ItemFrom k ruled s depth at i end (item_here s at)
  unfolding operand_bytes operands_of
  element_from r =
      let m : MovedOver (item_context k) s at (byte s at) r.next = moved _ s at _ r.next r.stands in
      let here : at < length s = omega (arith, m.forward, m.inside) in
      let w : operand_bytes (byte s at) ≡ 1 = rw r.opens in
      let range = element_range (item_context k) s at (byte s at) r.next r.stands r.opens in
      let l : byte s (at + 1) % 64 ≡ byte s (at + 1) = mod-eq_of_lt (omega arith) in
      let p : r.next.at ≡ at + 2 = omega (arith, m.after, w) in
      rw (is_element_lem s at here r.opens, l) (record {
        fuel = f;
        named = r.named;
        inside = r.inside;
        contents = r.contents;
        is_it = r.is_element_lem;
        has_rule = r.has_rule;
        least = range.0;
        most = range.1;
        nests = r.nests;
        reads_attributes = rw p at r.reads_attributes;
        reads_contents = r.reads_contents;
      })

pub item_here_lem : (f : ℕ) (k : Kind) (ruled : ℕ → Bool) (s : List ℕ) (depth at : ℕ) (i : Item) (end : ℕ) → item f k ruled s depth at ≡ whole i end
    → (h : ItemHere) → h ≡ item_here s at → ItemFrom k ruled s depth at i end h
unfolding items
item_here_lem zero k ruled s depth at i end e h is = never_unfinished e
item_here_lem (suc f) k ruled s depth at i end e h is = elim (item_whole f k ruled s depth at i end e) [
  | inl r ↦ rw is (leaf_from f k ruled s depth at i end r)
  | inr r ↦ rw is (element_from f k ruled s depth at i end r)
]

-- ---- a list of items that was read

pub record EndFirst (φ : Items) (end : ℕ) (next : Position) : Type 0 where
  pub no_more : φ ≡ none
  pub after : next.at ≡ end

-- Text, blank text or a gap, and the list after it.
pub record LeafFirst (k : Kind) (ruled : ℕ → Bool) (s : List ℕ) (depth at : ℕ) (i : Item) (next : Position) (φ : Items) (end : ℕ) : Type 0 where
  pub fuel : ℕ
  pub rest : Items
  pub is_more : φ ≡ more i rest
  pub reads_first : item fuel k ruled s depth at ≡ whole i next.at
  pub reads_rest : items fuel k ruled s depth next.at ≡ whole rest end

pub record GapFirst (k : Kind) (ruled : ℕ → Bool) (s : List ℕ) (depth at g : ℕ) (next : Position) (φ : Items) (end : ℕ) : Type 0 where
  pub in_template : k ≡ Template
  pub small : g < 8
  pub leaf : LeafFirst k ruled s depth at (gap g) next φ end

-- An element, and the list after it. No attribute stands where its attributes end.
pub record ElementFirst (k : Kind) (ruled : ℕ → Bool) (s : List ℕ) (depth at e : ℕ) (next : Position) (φ : Items) (end : ℕ) : Type 0 where
  pub fuel : ℕ
  pub fuel_inside : ℕ
  pub named : List Attribute
  pub inside : ℕ
  pub contents : Items
  pub middle : ℕ
  pub rest : Items
  pub is_more : φ ≡ more (element e at named contents) rest
  pub has_rule : ruled e ≡ true
  pub least : 1 ≤ e
  pub most : e ≤ 63
  pub nests : depth < nesting k
  pub reads_first : item fuel k ruled s depth at ≡ whole (element e at named contents) middle
  pub reads_attributes : attributes fuel_inside k s [] next.at ≡ whole named inside
  pub done : attribute_here s inside ≡ Done
  pub reads_contents : items fuel_inside k ruled s (depth + 1) inside ≡ whole contents middle
  pub reads_rest : items fuel k ruled s depth middle ≡ whole rest end

-- By what stands there.
abbrev pub ItemsFrom : Kind → (ℕ → Bool) → List ℕ → ℕ → ℕ → Items → ℕ → ItemHere → Type 0
ItemsFrom k ruled s depth at φ end (Text next) = LeafFirst k ruled s depth at text next φ end
ItemsFrom k ruled s depth at φ end (Gap g next) = GapFirst k ruled s depth at g next φ end
ItemsFrom k ruled s depth at φ end (Element e next) = ElementFirst k ruled s depth at e next φ end
ItemsFrom k ruled s depth at φ end (Blank next) = LeafFirst k ruled s depth at blank next φ end
ItemsFrom k ruled s depth at φ end (End next) = EndFirst φ end next

-- Where items stand, no attribute does: an item begins with a lower byte or with `29`, and an end is another.
item_byte : (f : ℕ) (k : Kind) (ruled : ℕ → Bool) (s : List ℕ) (depth at : ℕ) (i : Item) (end : ℕ) → item f k ruled s depth at ≡ whole i end
    → (at < length s) × ((byte s at ≤ 0x23) ⊎ (byte s at ≡ 0x29))
unfolding items
item_byte zero k ruled s depth at i end e = never_unfinished e
item_byte (suc f) k ruled s depth at i end e = elim (item_whole f k ruled s depth at i end e) [
  | inl r ↦
      let m : MovedOver (item_context k) s at (byte s at) r.next = moved _ s at _ r.next r.stands in
      (omega (arith, m.forward, m.inside), elim (leaf_code k (byte s at) m.permitted r.no_element) [ inl q ↦ inl (omega (arith, q)) | inr (inl q) ↦ inr q | inr (inr q) ↦ inl (omega (arith, q.0)) ])
  | inr r ↦
      let m : MovedOver (item_context k) s at (byte s at) r.next = moved _ s at _ r.next r.stands in
      (omega (arith, m.forward, m.inside), inl (omega (arith, r.opens)))
]

no_item_byte : (c n : ℕ) → (c ≤ 0x23) ⊎ (c ≡ 0x29) → 0x24 ≤ n → n ≤ 0x28 → c ≡ n → ⊥
no_item_byte c n (inl l) least most e = omega arith
no_item_byte c n (inr q) least most e = omega arith

ends_item : (t : Bool) (c n : ℕ) → c ≡ cond t 0x27 0x26 → (n ≡ 0x26 → ⊥) → (n ≡ 0x27 → ⊥) → c ≡ n → ⊥
ends_item true c n e l m q = m (sym q ∙ e)
ends_item false c n e l m q = l (sym q ∙ e)

module _ (f : ℕ) (k : Kind) (ruled : ℕ → Bool) (s : List ℕ) (depth at : ℕ) (φ : Items) (end : ℕ) where
  -- What ends a list is no other command.
  ended_not : ItemsEnd s depth at φ end → (n : ℕ) → (n ≡ 0x26 → ⊥) → (n ≡ 0x27 → ⊥) → byte s at ≡ n → ⊥
  ended_not r n l m = ends_item (eqb depth 0) (byte s at) n r.ended l m

  none_at_items : ItemsEnd s depth at φ end ⊎ ItemsMore f k ruled s depth at φ end → attribute_here s at ≡ Done
  none_at_items (inl r) =
      is_done s at (ended_inside s depth at r.ended) (ended_not r 0x24 (λ q. omega arith) (λ q. omega arith))
      (ended_not r 0x25 (λ q. omega arith) (λ q. omega arith)) (ended_not r 0x28 (λ q. omega arith) (λ q. omega arith))
  none_at_items (inr r) =
      let l = item_byte f k ruled s depth at r.first r.next r.reads_first in
      is_done s at l.0 (no_item_byte (byte s at) 0x24 l.1 (omega arith) (omega arith)) (no_item_byte (byte s at) 0x25 l.1 (omega arith) (omega arith))
      (no_item_byte (byte s at) 0x28 l.1 (omega arith) (omega arith))

pub no_attribute : (f : ℕ) (k : Kind) (ruled : ℕ → Bool) (s : List ℕ) (depth at : ℕ) (φ : Items) (end : ℕ) → items f k ruled s depth at ≡ whole φ end
    → attribute_here s at ≡ Done
unfolding items
no_attribute zero k ruled s depth at φ end e = never_unfinished e
no_attribute (suc f) k ruled s depth at φ end e = none_at_items f k ruled s depth at φ end (items_whole f k ruled s depth at φ end e)

module _ (f : ℕ) (k : Kind) (ruled : ℕ → Bool) (s : List ℕ) (depth at : ℕ) (φ : Items) (end : ℕ) where
  -- The list, by its first item.
  leaf_first : (r : ItemsMore f k ruled s depth at φ end) (i : Item) (next : Position) → r.first ≡ i → next.at ≡ r.next → LeafFirst k ruled s depth at i next φ end
  leaf_first r i next is after = record {
    fuel = f;
    rest = r.rest;
    is_more = rw (← is) r.is_more;
    reads_first = rw (← is, after) r.reads_first;
    reads_rest = rw after r.reads_rest;
  }

  first_from : (r : ItemsMore f k ruled s depth at φ end) (h : ItemHere) → ItemFrom k ruled s depth at r.first r.next h → ItemsFrom k ruled s depth at φ end h
  first_from r (Text next) w = leaf_first r text next w.0 w.1
  first_from r (Gap g next) w = record { in_template = w.in_template; small = w.small; leaf = leaf_first r (gap g) next w.is_it w.after }
  first_from r (Element e next) w = record {
    fuel = f;
    fuel_inside = w.fuel;
    named = w.named;
    inside = w.inside;
    contents = w.contents;
    middle = r.next;
    rest = r.rest;
    is_more = rw (← w.is_it) r.is_more;
    has_rule = w.has_rule;
    least = w.least;
    most = w.most;
    nests = w.nests;
    reads_first = rw (← w.is_it) r.reads_first;
    reads_attributes = w.reads_attributes;
    done = no_attribute w.fuel k ruled s (depth + 1) w.inside w.contents r.next w.reads_contents;
    reads_contents = w.reads_contents;
    reads_rest = r.reads_rest;
  }
  first_from r (Blank next) w = leaf_first r blank next w.0 w.1
  first_from r (End next) w = absurd w

  ended_from : ItemsEnd s depth at φ end → ItemsFrom k ruled s depth at φ end (item_here s at)
  ended_from r =
      rw (is_end s at (ended_inside s depth at r.ended) (ended_not f k ruled s depth at φ end r 0x21 (λ q. omega arith) (λ q. omega arith))
      (ended_not f k ruled s depth at φ end r 0x22 (λ q. omega arith) (λ q. omega arith)) (ended_not f k ruled s depth at φ end r 0x23 (λ q. omega arith) (λ q. omega arith))
      (ended_not f k ruled s depth at φ end r 0x29 (λ q. omega arith) (λ q. omega arith)))
      (record { no_more = r.no_more; after = sym r.after })

pub items_here : (f : ℕ) (k : Kind) (ruled : ℕ → Bool) (s : List ℕ) (depth at : ℕ) (φ : Items) (end : ℕ) → items f k ruled s depth at ≡ whole φ end
    → (h : ItemHere) → h ≡ item_here s at → ItemsFrom k ruled s depth at φ end h
unfolding items
items_here zero k ruled s depth at φ end e h is = never_unfinished e
items_here (suc f) k ruled s depth at φ end e h is = elim (items_whole f k ruled s depth at φ end e) [
  | inl r ↦ rw is (ended_from f k ruled s depth at φ end r)
  | inr r ↦ first_from f k ruled s depth at φ end r h (item_here_lem f k ruled s depth at r.first r.next r.reads_first h is)
]

-- ---- attributes that were read, up to where none stands

pub record NoneFirst (at : ℕ) (δ : List Attribute) (end : ℕ) : Type 0 where
  pub no_more : δ ≡ []
  pub here : at ≡ end

pub record AttributeFirst (k : Kind) (s before : List ℕ) (a : Attribute) (next : Position) (δ : List Attribute) (end : ℕ) : Type 0 where
  pub fuel : ℕ
  pub rest : List Attribute
  pub is_more : δ ≡ a ∷ rest
  pub fresh : is_in a.name before ≡ false
  pub small : a.name ≤ 31
  pub reads_rest : attributes fuel k s (a.name ∷ before) next.at ≡ whole rest end

abbrev pub fixed : ℕ → ℕ → Attribute
fixed a v = record { name = a; value = string v }

abbrev pub opened : ℕ → ℕ → Attribute
opened a h = record { name = a; value = open_gap h }

-- By what stands there. A string outside 0 to 63 stands in a page, an attribute gap in a template.
abbrev pub AttributesFrom : Kind → List ℕ → List ℕ → ℕ → List Attribute → ℕ → AttributeHere → Type 0
AttributesFrom k s before at δ end (Fixed a v next) = AttributeFirst k s before (fixed a v) next δ end × ((v < strings) ⊎ ((v ≡ strings) × (k ≡ Page)))
AttributesFrom k s before at δ end (Open a h next) = AttributeFirst k s before (opened a h) next δ end × (h < 8) × (k ≡ Template)
AttributesFrom k s before at δ end Done = NoneFirst at δ end

pub attribute_code : (k : Kind) (c : ℕ) → allowed (attribute_context k) c ≡ true → (c ≡ 0x24) ⊎ (((c ≡ 0x25) × (k ≡ Template)) ⊎ ((c ≡ 0x28) × (k ≡ Page)))
unfolding allowed
attribute_code Template c e = elim (or_cases (eqb c 0x24) (eqb c 0x25) e) [ inl q ↦ inl (eqb-true c 0x24 q) | inr q ↦ inr (inl (eqb-true c 0x25 q, refl)) ]
attribute_code Page c e = elim (or_cases (eqb c 0x24) (eqb c 0x28) e) [ inl q ↦ inl (eqb-true c 0x24 q) | inr q ↦ inr (inr (eqb-true c 0x28 q, refl)) ]

module _ (f : ℕ) (k : Kind) (s before : List ℕ) (at : ℕ) (δ : List Attribute) (end : ℕ) where
  attribute_first : (r : AttributeMore f k s before at δ end) (a : Attribute) (next : Position) → a ≡ record { name = byte s (at + 1); value = value_at s at (byte s at) }
      → r.next.at ≡ next.at → AttributeFirst k s before a next δ end
  attribute_first r a next is after = rw is (record {
    fuel = f;
    rest = r.rest;
    is_more = r.is_more;
    fresh = r.fresh;
    small = attribute_range k s at (byte s at) r.next r.stands;
    reads_rest = rw after at r.reads_rest;
  })

  attribute_from : AttributeMore f k s before at δ end → AttributesFrom k s before at δ end (attribute_here s at)
  unfolding operand_bytes operands_of all_in_range in_range
  attribute_from r =
      let m : MovedOver (attribute_context k) s at (byte s at) r.next = moved _ s at _ r.next r.stands in
      let here : at < length s = omega (arith, m.forward, m.inside) in
      let a : byte s (at + 1) ≤ 31 = attribute_range k s at (byte s at) r.next r.stands in
      let n : byte s (at + 1) % 32 ≡ byte s (at + 1) = mod-eq_of_lt (omega arith) in
      let z : at + 1 + 1 ≡ at + 2 = omega arith in
      elim (attribute_code k (byte s at) m.permitted) [
        | inl q ↦
            let w : operand_bytes (byte s at) ≡ 2 = rw q in
            let v : byte s (at + 2) < 64 = ltb-true _ _ (and_left _ _ (and_right (leb (byte s (at + 1)) 31) _ (rw (q, z) at m.ranges))) in
            let l : byte s (at + 2) % 64 ≡ byte s (at + 2) = mod-eq_of_lt v in
            rw (is_named s at here q, n, l) (attribute_first r _ _ (rw q) (omega (arith, m.after, w)), inl v)
        | inr (inl q) ↦
            let w : operand_bytes (byte s at) ≡ 2 = rw q.0 in
            let v : byte s (at + 2) ≤ 7 = leb-true _ _ (and_left _ _ (and_right (leb (byte s (at + 1)) 31) _ (rw (q.0, z) at m.ranges))) in
            let l : byte s (at + 2) % 8 ≡ byte s (at + 2) = mod-eq_of_lt (omega arith) in
            rw (is_open s at here q.0, n, l) (attribute_first r _ _ (rw q.0) (omega (arith, m.after, w)), omega arith, q.1)
        | inr (inr q) ↦
            let w : operand_bytes (byte s at) ≡ 1 = rw q.0 in
            rw (is_outside s at here q.0, n) (attribute_first r _ _ (rw q.0) (omega (arith, m.after, w)), inr (refl, q.1))
      ]

pub attributes_here : (f : ℕ) (k : Kind) (s before : List ℕ) (at : ℕ) (δ : List Attribute) (end : ℕ) → attributes f k s before at ≡ whole δ end
    → attribute_here s end ≡ Done → (h : AttributeHere) → h ≡ attribute_here s at → AttributesFrom k s before at δ end h
unfolding attributes
attributes_here zero k s before at δ end e done h is = never_unfinished e
attributes_here (suc f) k s before at δ end e done h is = elim (attributes_whole f k s before at δ end e) [
  | inl r ↦
      let here : attribute_here s at ≡ Done = rw (← r.here) done in
      rw (is, here) (record { no_more = r.no_more; here = sym r.here })
  | inr r ↦ rw is (attribute_from f k s before at δ end r)
]

-- ---- by the case in which a walk is

module _ (f : ℕ) (k : Kind) (ruled : ℕ → Bool) (s : List ℕ) (depth at : ℕ) (φ : Items) (end : ℕ) (reads : items f k ruled s depth at ≡ whole φ end)
    (h : ItemHere) (is : h ≡ item_here s at) where
  pub text_first : (next : Position) → h ≡ Text next → LeafFirst k ruled s depth at text next φ end
  text_first next e = rw e at (items_here f k ruled s depth at φ end reads h is)

  pub blank_first : (next : Position) → h ≡ Blank next → LeafFirst k ruled s depth at blank next φ end
  blank_first next e = rw e at (items_here f k ruled s depth at φ end reads h is)

  pub gap_first : (g : ℕ) (next : Position) → h ≡ Gap g next → GapFirst k ruled s depth at g next φ end
  gap_first g next e = rw e at (items_here f k ruled s depth at φ end reads h is)

  pub element_first : (e : ℕ) (next : Position) → h ≡ Element e next → ElementFirst k ruled s depth at e next φ end
  element_first e next q = rw q at (items_here f k ruled s depth at φ end reads h is)

  pub end_first : (next : Position) → h ≡ End next → EndFirst φ end next
  end_first next e = rw e at (items_here f k ruled s depth at φ end reads h is)

module _ (f : ℕ) (k : Kind) (ruled : ℕ → Bool) (s : List ℕ) (depth at : ℕ) (i : Item) (end : ℕ) (reads : item f k ruled s depth at ≡ whole i end)
    (h : ItemHere) (is : h ≡ item_here s at) where
  pub text_item : (next : Position) → h ≡ Text next → (i ≡ text) × (next.at ≡ end)
  text_item next e = rw e at (item_here_lem f k ruled s depth at i end reads h is)

  pub blank_item : (next : Position) → h ≡ Blank next → (i ≡ blank) × (next.at ≡ end)
  blank_item next e = rw e at (item_here_lem f k ruled s depth at i end reads h is)

  pub gap_item : (g : ℕ) (next : Position) → h ≡ Gap g next → GapAt k g next i end
  gap_item g next e = rw e at (item_here_lem f k ruled s depth at i end reads h is)

  pub element_item : (e : ℕ) (next : Position) → h ≡ Element e next → ElementAt k ruled s depth at e next i end
  element_item e next q = rw q at (item_here_lem f k ruled s depth at i end reads h is)

  pub no_item : {A : Type 0} (next : Position) → h ≡ End next → A
  no_item next e = absurd (rw e at (item_here_lem f k ruled s depth at i end reads h is))

module _ (f : ℕ) (k : Kind) (s before : List ℕ) (at : ℕ) (δ : List Attribute) (end : ℕ) (reads : attributes f k s before at ≡ whole δ end)
    (done : attribute_here s end ≡ Done) (h : AttributeHere) (is : h ≡ attribute_here s at) where
  pub fixed_first : (a v : ℕ) (next : Position) → h ≡ Fixed a v next
      → AttributeFirst k s before (fixed a v) next δ end × ((v < strings) ⊎ ((v ≡ strings) × (k ≡ Page)))
  fixed_first a v next e = rw e at (attributes_here f k s before at δ end reads done h is)

  pub open_first : (a g : ℕ) (next : Position) → h ≡ Open a g next → AttributeFirst k s before (opened a g) next δ end × (g < 8) × (k ≡ Template)
  open_first a g next e = rw e at (attributes_here f k s before at δ end reads done h is)

  pub none_first : h ≡ Done → NoneFirst at δ end
  none_first e = rw e at (attributes_here f k s before at δ end reads done h is)

-- A step is inside the bytes and onward.
module _ (s : List ℕ) (at : ℕ) (h : ItemHere) (moves : ItemMoves s at h) where
  pub text_moves : (next : Position) → h ≡ Text next → Steps s at next.at
  unfolding ItemMoves
  text_moves next e = rw e at moves

  pub blank_moves : (next : Position) → h ≡ Blank next → Steps s at next.at
  unfolding ItemMoves
  blank_moves next e = rw e at moves

  pub gap_moves : (g : ℕ) (next : Position) → h ≡ Gap g next → Steps s at next.at × (g < 8)
  unfolding ItemMoves
  gap_moves g next e = rw e at moves

  pub element_moves : (e : ℕ) (next : Position) → h ≡ Element e next → Steps s at next.at × (e < 64)
  unfolding ItemMoves
  element_moves e next q = rw q at moves

  pub end_moves : (next : Position) → h ≡ End next → at ≤ next.at
  unfolding ItemMoves
  end_moves next e = rw e at moves

module _ (s : List ℕ) (at : ℕ) (h : AttributeHere) (moves : AttributeMoves s at h) where
  pub fixed_moves : (a v : ℕ) (next : Position) → h ≡ Fixed a v next → Steps s at next.at × (a < 32) × (v ≤ strings)
  unfolding AttributeMoves
  fixed_moves a v next e = rw e at moves

  pub open_moves : (a g : ℕ) (next : Position) → h ≡ Open a g next → Steps s at next.at × (a < 32) × (g < 8)
  unfolding AttributeMoves
  open_moves a g next e = rw e at moves
