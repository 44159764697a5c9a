-- The attributes of an element, one after the other: those that some string reaches can be carried.
use Prim.Native.Nat.{ℕ, ◌<◌}
use native.Mathlib.Omega.{arith}
use mathlib.Core.Path.{◌≡◌, refl, sym, ◌∙◌}
use mathlib.Core.List.{List, ◌∷◌}
use mathlib.Core.Bool.{Bool, true, false, cond, ◌&&◌, ◌||◌, or-false, and-true, and-false}
use lib.Dec.{eqb}
use Rattle.sets.specs.Sets.{member}
use Rattle.sets.proofs.Laws.{member_zero}
use Rattle.commands.specs.declared.Position.{Position}
use Rattle.commands.specs.Reading.{whole}
use Rattle.vocabularies.specs.Vocabulary.{is_in}
use Rattle.pages.specs.declared.Kind.TheVariants.{Template}
use Rattle.pages.specs.declared.AttributeHere.{AttributeHere}
use Rattle.pages.specs.declared.AttributeHere.TheVariants.{Fixed, Open, Done}
use Rattle.pages.specs.Items.{open_gap, Attribute}
use Rattle.pages.specs.ItemReading.{attributes}
use Rattle.pages.specs.Inner.Steps.{attribute_here}
use Rattle.pages.proofs.Gathering.{Onto}
use Rattle.pages.proofs.Steps.{fixed_first, open_first, none_first}
use Rattle.summaries.specs.Summaries.{Summary}
use Rattle.patterns.specs.Inner.Rounds.{string_reaches}
use Rattle.patterns.specs.Inner.Elements.{carriable_names}
use Rattle.graphs.specs.Inner.Graphs.{Keeps}
use Rattle.reach.specs.declared.Carriable.{Carriable}
use Rattle.reach.specs.Inner.Walking.{TellsCarriable}

moved_first : (x y z : Bool) → ((x || y) || z) ≡ (y || (x || z))
moved_first true true z = refl
moved_first true false z = refl
moved_first false y z = refl

-- A name more, where some string reaches its attribute.
name_if : (reached named : Bool) (ns : List ℕ) (a b : ℕ) → (((eqb b a && reached) || named) || is_in b ns) ≡ (named || is_in b (cond reached (a ∷ ns) ns))
unfolding is_in
name_if true named ns a b = rw (and-true (eqb b a)) (moved_first (eqb b a) named (is_in b ns))
name_if false named ns a b = rw (and-false (eqb b a))

module _ (s graph : List ℕ) (n : ℕ) where
  -- What the attributes from an offset on add to the names so far.
  abbrev pub CarryFrom : ℕ → ℕ → Carriable → Type 0
  CarryFrom at named r = (before : List ℕ) (f end : ℕ) (δ : List Attribute) → attributes f Template s before at ≡ whole δ end → attribute_here s end ≡ Done
      → (r.next.at ≡ end) × ((G : Summary) → Keeps graph G → (a : ℕ) → member r.names a ≡ (member named a || is_in a (carriable_names G n δ)))

  module _ (start named at : ℕ) (so_far : Onto CarryFrom start 0 at named) (h : AttributeHere) (is : h ≡ attribute_here s at) where
    pub carrying_fixed : (a v : ℕ) (next : Position) → h ≡ Fixed a v next → at < next.at → (more : ℕ) → ((k : ℕ) → member more k ≡ (eqb k a || member named k))
        → Onto CarryFrom start 0 next.at more
    unfolding carriable_names
    carrying_fixed a v next e on more is_more = record {
      forward = omega (arith, so_far.forward);
      goes = λ r go. so_far.goes r (λ before f end δ reads done.
          let q = (fixed_first f Template s before at δ end reads done h is a v next e).0 in
          let (after, told) = go (a ∷ before) q.fuel end q.rest q.reads_rest done in
          rw q.is_more (after, λ G keeps b. told G keeps b ∙ rw (is_more b) (unfold is_in in moved_first (eqb b a) (member named b) (is_in b (carriable_names G n q.rest)))));
    }

    pub carrying_open : (a g : ℕ) (next : Position) → h ≡ Open a g next → at < next.at → (u : Bool) → ((G : Summary) → Keeps graph G → g < 8 → u ≡ string_reaches G n (open_gap g))
        → (more : ℕ) → ((k : ℕ) → member more k ≡ ((eqb k a && u) || member named k)) → Onto CarryFrom start 0 next.at more
    unfolding carriable_names
    carrying_open a g next e on u is_u more is_more = record {
      forward = omega (arith, so_far.forward);
      goes = λ r go. so_far.goes r (λ before f end δ reads done.
          let (q, low, k) = open_first f Template s before at δ end reads done h is a g next e in
          let (after, told) = go (a ∷ before) q.fuel end q.rest q.reads_rest done in
          rw q.is_more (after, λ G keeps b. told G keeps b ∙ rw (is_more b, is_u G keeps low) (name_if (string_reaches G n (open_gap g)) (member named b) (carriable_names G n q.rest) a b)));
    }

    pub carrying_done : (r : Carriable) → h ≡ Done → r ≡ record { names = named; next = record { at = at } } → TellsCarriable s start graph n r
    unfolding carriable_names is_in
    carrying_done r e r-is before f end δ reads done =
        let (after, told) = so_far.goes r (λ before f end δ reads done.
        let q = none_first f Template s before at δ end reads done h is e in
        rw (r-is, q.no_more) (q.here, λ G keeps a. sym (or-false (member named a)))) before f end δ reads done in
        (after, λ G keeps a. told G keeps a ∙ rw (member_zero a))
