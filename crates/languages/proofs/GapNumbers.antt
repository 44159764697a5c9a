-- The gaps of templates that were read are 0 to 7.
use Prim.Native.Nat.{ℕ, zero, suc, ◌+◌, ◌<◌, ◌≤◌}
use mathlib.Core.Path.{◌≡◌, subst}
use mathlib.Core.List.{List, [], ◌∷◌}
use mathlib.Core.Bool.{Bool, true, false, false≢true}
use mathlib.Core.Logic.{inl, inr, ⊎_elim}
use native.Mathlib.Omega.{arith}
use lib.ListN.{length, get_or}
use lib.Dec.{leb}
use borrow.Author.Tests.{eqb-true, leb-true}
use Rattle.commands.specs.declared.Context.TheVariants.{TemplateItems}
use Rattle.commands.specs.Commands.{byte, allowed, operands_of, in_range, all_in_range}
use Rattle.commands.specs.Reading.{whole}
use Rattle.commands.proofs.Laws.{moved}
use Rattle.pages.specs.declared.Kind.TheVariants.{Template}
use Rattle.pages.specs.Items.{Item, Items, gap_in, gap_in_item}
use Rattle.pages.specs.ItemReading.{leaf_at, items, item}
use Rattle.pages.proofs.Whole.{never_unfinished, items_whole, item_whole}
use Rattle.pages.proofs.Steps.{leaf_code}
use Rattle.programs.specs.Program.{template_at}
use Rattle.sets.proofs.Booleans.{or_cases, and_left}
use Rattle.pages.specs.Inner.Gaps.{StartsAt}

gap_range : (s : List ℕ) (at : ℕ) → all_in_range (operands_of (byte s at)) s (at + 1) ≡ true → byte s at ≡ 0x22 → byte s (at + 1) < 8
unfolding operands_of all_in_range in_range
gap_range s at ranges code =
    let range = rw code at ranges in
    let l = leb-true (byte s (at + 1)) 7 (and_left (leb (byte s (at + 1)) 7) true range) in
    omega arith

module _ (s : List ℕ) (ruled : ℕ → Bool) where
  leaf_low : (at g : ℕ) → allowed TemplateItems (byte s at) ≡ true → all_in_range (operands_of (byte s at)) s (at + 1) ≡ true → (byte s at ≡ 0x23 → ⊥)
      → gap_in_item (leaf_at s at (byte s at)) g ≡ true → g < 8
  unfolding gap_in
  leaf_low at g permitted ranges no_element p = elim (leaf_code Template (byte s at) permitted no_element) [
    | inl q ↦ absurd (false≢true (rw q at p))
    | inr (inl q) ↦ absurd (false≢true (rw q at p))
    | inr (inr q) ↦ subst (λ (k : ℕ). k < 8) (eqb-true (byte s (at + 1)) g (rw q.0 at p)) (gap_range s at ranges q.0)
  ]

  mutual
    unfolding items gap_in

    items_low : (f depth at end : ℕ) (φ : Items) → items f Template ruled s depth at ≡ whole φ end → (g : ℕ) → gap_in φ g ≡ true → g < 8
    items_low zero depth at end φ e g p = never_unfinished e
    items_low (suc f) depth at end φ e g p = elim (items_whole f Template ruled s depth at φ end e) [
      | inl q ↦ absurd (false≢true (rw q.no_more at p))
      | inr q ↦ ⊎_elim
          (λ h. item_low f depth at q.next q.first q.reads_first g h)
          (λ h. items_low f depth q.next end q.rest q.reads_rest g h)
          (or_cases (gap_in_item q.first g) (gap_in q.rest g) (rw q.is_more at p))
    ]

    item_low : (f depth at end : ℕ) (i : Item) → item f Template ruled s depth at ≡ whole i end → (g : ℕ) → gap_in_item i g ≡ true → g < 8
    item_low zero depth at end i e g p = never_unfinished e
    item_low (suc f) depth at end i e g p = elim (item_whole f Template ruled s depth at i end e) [
      | inl q ↦
          let m = moved TemplateItems s at (byte s at) q.next q.stands in
          leaf_low at g m.permitted m.ranges q.no_element (rw q.is_leaf at p)
      | inr q ↦ items_low f (depth + 1) q.inside end q.contents q.reads_contents g (rw q.is_element_lem at p)
    ]

pub gaps_low : (s starts : List ℕ) (φs : List Items) → StartsAt s φs starts → (n : ℕ) → n ≤ length φs → (g : ℕ) → gap_in (template_at φs n) g ≡ true → g < 8
unfolding gap_in template_at
gaps_low s starts φs stand zero there g p = absurd (false≢true (none_here φs p))
  where
    none_here : (ψs : List Items) → gap_in (template_at ψs 0) g ≡ true → false ≡ true
    none_here [] q = q
    none_here (ψ ∷ ψs) q = q
gaps_low s starts φs stand (suc n) there g p =
    let st = stand (suc n) (omega arith) there in
    items_low s st.ruled st.fuel 0 (get_or starts (suc n) 0) st.end (template_at φs (suc n)) st.reads g p
