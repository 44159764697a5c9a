-- What holds of reading items: names are in range, reading moves on and does not leave the bytes, no fuel that is enough runs out and
-- all of them give the same, and reading goes only by which elements have a rule.
use Prim.Native.Nat.{ℕ, zero, suc, ◌+◌, ◌≤◌, ◌<◌}
use mathlib.Core.Path.{◌≡◌, refl, sym, ap, ◌∙◌, fun_ext}
use mathlib.Core.Logic.{◌⊎◌, inl, inr}
use mathlib.Core.List.{List, [], ◌∷◌}
use mathlib.Core.Bool.{Bool, true, false, cond, ◌&&◌, ◌||◌}
use native.Mathlib.Omega.{arith}
use lib.ListN.{length}
use lib.Dec.{eqb, leb, ltb}
use borrow.Author.Tests.{leb-true, ltb-true, ltb-false, eqb-true}
use Rattle.sets.proofs.Booleans.{or_cases, and_left, and_right}
use Rattle.verdicts.specs.declared.Form.{Form}
use Rattle.verdicts.specs.declared.Form.TheVariants.{NotRising, TooMany, Missing}
use Rattle.commands.specs.declared.Context.{Context}
use Rattle.commands.specs.declared.Context.TheVariants.{Templates}
use Rattle.commands.specs.declared.Position.{Position}
use Rattle.commands.specs.declared.Decoded.{Decoded}
use Rattle.commands.specs.declared.Decoded.TheVariants.{Moved, Refused}
use Rattle.commands.specs.Commands.{byte, operands_of, all_in_range, allowed, command}
use Rattle.commands.specs.Reading.{Read, whole, refused, unfinished, and_then, on_decoded, when}
use Rattle.commands.specs.Inner.Parts.{Enough}
use Rattle.commands.proofs.Laws.{MovedOver, moved, byte_past}
use Rattle.vocabularies.specs.Vocabulary.{is_in}
use Rattle.pages.specs.declared.Kind.{Kind}
use Rattle.pages.specs.declared.Kind.TheVariants.{Template, Page}
use Rattle.pages.specs.Items.{Attribute, Item, Items}
use Rattle.pages.specs.ItemReading.{item_context, attribute_context, nesting, end_of, attributes, items, item, most_templates, templates}
use Rattle.pages.specs.Inner.Promises.{EnoughForItem}
use Rattle.pages.proofs.Whole.{never_unfinished, attributes_whole, items_whole, item_whole, templates_whole}

-- The ranges of names.
pub attribute_range : (k : Kind) (s : List ℕ) (at code : ℕ) (next : Position) → command (attribute_context k) s at ≡ Moved code next
    → byte s (at + 1) ≤ 31
unfolding allowed all_in_range operands_of
attribute_range k s at code next d = go k (moved (attribute_context k) s at code next d)
  where
    named : (c : ℕ) → (c ≡ 0x24) ⊎ ((c ≡ 0x25) ⊎ (c ≡ 0x28)) → all_in_range (operands_of c) s (at + 1) ≡ true → byte s (at + 1) ≤ 31
    named c (inl e) r = leb-true _ _ (and_left _ _ (rw e at r))
    named c (inr (inl e)) r = leb-true _ _ (and_left _ _ (rw e at r))
    named c (inr (inr e)) r = leb-true _ _ (and_left _ _ (rw e at r))

    either_of : (a b c : ℕ) → (eqb c a || eqb c b) ≡ true → (c ≡ a) ⊎ (c ≡ b)
    either_of a b c e = elim (or_cases (eqb c a) (eqb c b) e) [ inl h ↦ inl (eqb-true c a h) | inr h ↦ inr (eqb-true c b h) ]

    go : (k : Kind) → MovedOver (attribute_context k) s at code next → byte s (at + 1) ≤ 31
    go Template m = named (byte s at) (elim (either_of 0x24 0x25 (byte s at) m.permitted) [ inl h ↦ inl h | inr h ↦ inr (inl h) ]) m.ranges
    go Page m = named (byte s at) (elim (either_of 0x24 0x28 (byte s at) m.permitted) [ inl h ↦ inl h | inr h ↦ inr (inr h) ]) m.ranges

pub element_range : (x : Context) (s : List ℕ) (at code : ℕ) (next : Position) → command x s at ≡ Moved code next → code ≡ 0x23
    → (1 ≤ byte s (at + 1)) × (byte s (at + 1) ≤ 63)
unfolding all_in_range operands_of
element_range x s at code next d e =
    let m = moved x s at code next d in
    let opens : byte s at ≡ 0x23 = sym m.first ∙ e in
    let named : (leb 1 (byte s (at + 1)) && leb (byte s (at + 1)) 63) ≡ true = and_left _ _ (rw opens at m.ranges) in
    (leb-true _ _ (and_left (leb 1 (byte s (at + 1))) _ named), leb-true _ _ (and_right (leb 1 (byte s (at + 1))) _ named))

-- Where reading ends.
pub record Onward (s : List ℕ) (at end : ℕ) : Type 0 where
  pub forward : at < end
  pub within : end ≤ length s

-- A byte other than 0 is one of the bytes.
pub stands_inside : (s : List ℕ) (at : ℕ) → (byte s at ≡ 0 → ⊥) → at < length s
stands_inside s at h = go (ltb at (length s)) refl
  where
    go : (t : Bool) → ltb at (length s) ≡ t → at < length s
    go true e = ltb-true at (length s) e
    go false e = absurd (h (byte_past s at (ltb-false at (length s) e)))

pub attributes_move : (f : ℕ) (k : Kind) (s before : List ℕ) (at : ℕ) (δ : List Attribute) (end : ℕ) → at ≤ length s
    → attributes f k s before at ≡ whole δ end → (at ≤ end) × (end ≤ length s)
unfolding attributes
attributes_move zero k s before at δ end h e = never_unfinished e
attributes_move (suc f) k s before at δ end h e = elim (attributes_whole f k s before at δ end e) [
  | inl r ↦ omega (arith, r.here)
  | inr r ↦
      let m : MovedOver (attribute_context k) s at (byte s at) r.next = moved _ s at _ r.next r.stands in
      let rest = attributes_move f k s (byte s (at + 1) ∷ before) r.next.at r.rest end m.inside r.reads_rest in
      omega arith
]

pub some_end : (t : Bool) → ◌≡◌ {A = ℕ} (cond t 0x27 0x26) 0 → ⊥
some_end true e = omega arith
some_end false e = omega arith

-- What ends a list of items stands within the bytes.
pub ended_inside : (s : List ℕ) (depth at : ℕ) → byte s at ≡ end_of depth → at < length s
ended_inside s depth at ended = stands_inside s at λ past. some_end (eqb depth 0) (sym ended ∙ past)

mutual
  unfolding items

  pub items_move : (f : ℕ) (k : Kind) (ruled : ℕ → Bool) (s : List ℕ) (depth at : ℕ) (φ : Items) (end : ℕ)
      → items f k ruled s depth at ≡ whole φ end → Onward s at end
  items_move zero k ruled s depth at φ end e = never_unfinished e
  items_move (suc f) k ruled s depth at φ end e = elim (items_whole f k ruled s depth at φ end e) [
    | inl r ↦
        let inside = ended_inside s depth at r.ended in
        record { forward = omega (arith, r.after); within = omega (arith, r.after) }
    | inr r ↦
        let first = item_move f k ruled s depth at r.first r.next r.reads_first in
        let rest = items_move f k ruled s depth r.next r.rest end r.reads_rest in
        record { forward = omega arith; within = rest.within }
  ]

  pub item_move : (f : ℕ) (k : Kind) (ruled : ℕ → Bool) (s : List ℕ) (depth at : ℕ) (i : Item) (end : ℕ)
      → item f k ruled s depth at ≡ whole i end → Onward s at end
  item_move zero k ruled s depth at i end e = never_unfinished e
  item_move (suc f) k ruled s depth at i end e = elim (item_whole f k ruled s depth at i end e) [
    | inl r ↦
        let m : MovedOver (item_context k) s at (byte s at) r.next = moved _ s at _ r.next r.stands in
        record { forward = omega (arith, r.after); within = omega (arith, r.after) }
    | inr r ↦
        let m : MovedOver (item_context k) s at (byte s at) r.next = moved _ s at _ r.next r.stands in
        let named = attributes_move f k s [] r.next.at r.named r.inside m.inside r.reads_attributes in
        let rest = items_move f k ruled s (depth + 1) r.inside r.contents end r.reads_contents in
        record { forward = omega arith; within = rest.within }
  ]

-- Two readings that came to an end, and to the same one.
pub record Settled {A : Type 0} (x y : Read A) : Type 0 where
  pub same : x ≡ y
  pub finished : x ≡ unfinished → ⊥

module _ {A : Type 0} where
  settled_whole : (a : A) (end : ℕ) → Settled (whole a end) (whole a end)
  settled_whole a end = record { same = refl; finished = λ e. never_unfinished (sym e) }

  settled_refused : (f : Form) (at : ℕ) → Settled {A = A} (refused f at) (refused f at)
  settled_refused f at = record { same = refl; finished = λ e. let z : ◌≡◌ {A = ℕ} 0 1 = cc in omega arith }

  settled_when : (t : Bool) (yes' yes'' no' no'' : Unit {0} → Read A) → Settled (yes' tt) (yes'' tt) → Settled (no' tt) (no'' tt)
      → Settled (when t yes' no') (when t yes'' no'')
  settled_when true yes' yes'' no' no'' y n = y
  settled_when false yes' yes'' no' no'' y n = n

  settled_decoded : (d : Decoded) (k l : ℕ → ℕ → Read A)
      → ((code : ℕ) (next : Position) → d ≡ Moved code next → Settled (k code next.at) (l code next.at))
      → Settled (on_decoded d k) (on_decoded d l)
  settled_decoded (Moved code next) k l h = h code next refl
  settled_decoded (Refused f at) k l h = settled_refused f at

module _ {A B : Type 0} where
  settled_then : {x y : Read A} (k l : A → ℕ → Read B) → Settled x y
      → ((a : A) (next : ℕ) → x ≡ whole a next → Settled (k a next) (l a next)) → Settled (and_then x k) (and_then y l)
  settled_then {x} {y} k l h goes = rw (← h.same) (go x h.finished goes)
    where
      go : (x : Read A) → (x ≡ unfinished → ⊥) → ((a : A) (next : ℕ) → x ≡ whole a next → Settled (k a next) (l a next))
          → Settled (and_then x k) (and_then x l)
      go (whole a next) finished goes = goes a next refl
      go (refused f at) finished goes = settled_refused f at
      go unfinished finished goes = absurd (finished refl)

pub attributes_settle : (f g : ℕ) (k : Kind) (s before : List ℕ) (at : ℕ) → Enough s at f → Enough s at g
    → Settled (attributes f k s before at) (attributes g k s before at)
unfolding attributes
attributes_settle zero g k s before at hf hg = absurd (omega arith)
attributes_settle (suc f) zero k s before at hf hg = absurd (omega arith)
attributes_settle (suc f) (suc g) k s before at hf hg =
    settled_when (allowed (attribute_context k) (byte s at)) _ _ _ _
    (settled_decoded (command (attribute_context k) s at) _ _ λ code next stands.
    let m = moved _ s at code next stands in
    settled_when (is_in (byte s (at + 1)) before) _ _ _ _
    (settled_refused NotRising at)
    (settled_then _ _ (attributes_settle f g k s (byte s (at + 1) ∷ before) next.at (omega arith) (omega arith))
    λ δ end e. settled_whole _ end))
    (settled_whole [] at)

mutual
  unfolding items

  pub items_settle : (f g : ℕ) (k : Kind) (ruled : ℕ → Bool) (s : List ℕ) (depth at : ℕ) → Enough s at f → Enough s at g
      → Settled (items f k ruled s depth at) (items g k ruled s depth at)
  items_settle zero g k ruled s depth at hf hg = absurd (omega arith)
  items_settle (suc f) zero k ruled s depth at hf hg = absurd (omega arith)
  items_settle (suc f) (suc g) k ruled s depth at hf hg =
      settled_when (eqb (byte s at) (end_of depth)) _ _ _ _ (settled_whole _ (at + 1))
      (settled_then _ _ (item_settle f g k ruled s depth at (omega arith) (omega arith)) λ i next e.
      let m = item_move f k ruled s depth at i next e in
      settled_then _ _ (items_settle f g k ruled s depth next (omega arith) (omega arith)) λ φ end e. settled_whole _ end)

  pub item_settle : (f g : ℕ) (k : Kind) (ruled : ℕ → Bool) (s : List ℕ) (depth at : ℕ) → EnoughForItem s at f → EnoughForItem s at g
      → Settled (item f k ruled s depth at) (item g k ruled s depth at)
  item_settle zero g k ruled s depth at hf hg = absurd (omega arith)
  item_settle (suc f) zero k ruled s depth at hf hg = absurd (omega arith)
  item_settle (suc f) (suc g) k ruled s depth at hf hg =
      settled_decoded (command (item_context k) s at) _ _ λ code next stands.
      let m = moved _ s at code next stands in
      settled_when (eqb code 0x23) _ _ _ _
      (settled_when (ruled (byte s (at + 1))) _ _ _ _
      (settled_when (ltb depth (nesting k)) _ _ _ _
      (settled_then _ _ (attributes_settle f g k s [] next.at (omega arith) (omega arith)) λ δ inside e.
      let n = attributes_move f k s [] next.at δ inside m.inside e in
      settled_then _ _ (items_settle f g k ruled s (depth + 1) inside (omega arith) (omega arith)) λ φ end e. settled_whole _ end)
      (settled_refused TooMany at))
      (settled_refused Missing at))
      (settled_whole _ next.at)

pub templates_move : (f : ℕ) (ruled : ℕ → Bool) (s : List ℕ) (count at : ℕ) (φs : List Items) (end : ℕ)
    → templates f ruled s count at ≡ whole φs end → Onward s at end
unfolding templates
templates_move zero ruled s count at φs end e = never_unfinished e
templates_move (suc f) ruled s count at φs end e = elim (templates_whole f ruled s count at φs end e) [
  | inl r ↦
      let m = moved Templates s at _ r.next r.stands in
      record { forward = omega (arith, r.after); within = omega (arith, r.after) }
  | inr r ↦
      let m = moved Templates s at _ r.next r.stands in
      let first = items_move f Template ruled s 0 r.next.at r.first r.past r.reads_first in
      let rest = templates_move f ruled s (count + 1) r.past r.rest end r.reads_rest in
      record { forward = omega arith; within = rest.within }
]

pub templates_settle : (f g : ℕ) (ruled : ℕ → Bool) (s : List ℕ) (count at : ℕ) → Enough s at f → Enough s at g
    → Settled (templates f ruled s count at) (templates g ruled s count at)
unfolding templates
templates_settle zero g ruled s count at hf hg = absurd (omega arith)
templates_settle (suc f) zero ruled s count at hf hg = absurd (omega arith)
templates_settle (suc f) (suc g) ruled s count at hf hg =
    settled_decoded (command Templates s at) _ _ λ code next stands.
    let m = moved Templates s at code next stands in
    settled_when (eqb code 0x2F) _ _ _ _ (settled_whole [] next.at)
    (settled_when (ltb count most_templates) _ _ _ _
    (settled_then _ _ (items_settle f g Template ruled s 0 next.at (omega arith) (omega arith)) λ φ past e.
    let n = items_move f Template ruled s 0 next.at φ past e in
    settled_then _ _ (templates_settle f g ruled s (count + 1) past (omega arith) (omega arith)) λ φs end e. settled_whole _ end)
    (settled_refused TooMany at))

-- Reading goes by which elements have a rule, and by nothing else of how that is told.
module _ (ruled ruled' : ℕ → Bool) (alike : (e : ℕ) → ruled e ≡ ruled' e) where
  pub items_alike : (f : ℕ) (k : Kind) (s : List ℕ) (depth at : ℕ) → items f k ruled s depth at ≡ items f k ruled' s depth at
  items_alike f k s depth at = ap (λ (r : ℕ → Bool). items f k r s depth at) (fun_ext alike)
