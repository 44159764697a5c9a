-- Blank text is passed over: what is left is read as what is left, and says as much of the root and of wrong elements.
use Prim.Native.Nat.{ℕ, ◌≤◌}
use mathlib.Core.Path.{◌≡◌, refl}
use mathlib.Core.List.{List}
use mathlib.Core.Bool.{Bool}
use native.Mathlib.Omega.{arith}
use Rattle.commands.specs.declared.Position.{Position}
use Rattle.commands.specs.Reading.{whole}
use Rattle.pages.specs.declared.Kind.TheVariants.{Page}
use Rattle.pages.specs.declared.ItemHere.{ItemHere}
use Rattle.pages.specs.declared.ItemHere.TheVariants.{Text, Gap, Element, Blank, End}
use Rattle.pages.specs.Items.{text, blank, gap, element, Items, none, more, ◌⋈◌, without_blank}
use Rattle.pages.specs.ItemReading.{items}
use Rattle.pages.specs.Inner.Steps.{item_here, ItemMoves}
use Rattle.pages.proofs.Steps.{text_first, blank_first, gap_first, element_first, end_first, blank_moves}
use Rattle.judging.specs.Inner.Judgement.{first_wrong, is_none}
use Rattle.judging.proofs.AttributeLaws.{no_template}
use Rattle.judge.specs.Inner.Answers.{AfterBlank}

-- What a walk that has come from an offset to another has still to find.
pub record Passing (p : List ℕ) (at₀ at : ℕ) : Type 0 where
  pub forward : at₀ ≤ at
  pub goes : (r : Position) → AfterBlank p at r → AfterBlank p at₀ r

module _ (p : List ℕ) (at : ℕ) (h : ItemHere) (is : h ≡ item_here p at) (moves : ItemMoves p at h) (at₀ : ℕ) (walk : Passing p at₀ at) where
  pub passes_blank : (next : Position) → h ≡ Blank next → Passing p at₀ next.at
  unfolding without_blank first_wrong ◌⋈◌
  passes_blank next e = record {
    forward = omega (arith, walk.forward, (blank_moves p at h moves next e).forward);
    goes = λ r rest. walk.goes r λ ruled f end φ reads.
        let w = blank_first f Page ruled p 0 at φ end reads h is next e in
        let s = rest ruled w.fuel end w.rest w.reads_rest in
        rw w.is_more (record { fuel = s.fuel; left = s.left; reads = s.reads; begins = s.begins; same = s.same; finds = s.finds });
  }

  -- What is no blank text begins a list that does not begin with any.
  solid : ((next : Position) → h ≡ Blank next → ⊥) → (ruled : ℕ → Bool) (f end : ℕ) (φ rest : Items) → items f Page ruled p 0 at ≡ whole φ end → φ ≡ more blank rest → ⊥
  solid other ruled f end φ rest reads q = elim h as (λ x. h ≡ x → ⊥) [
    | Text next ↦ λ e. let m = (text_first f Page ruled p 0 at φ end reads h is next e).is_more in let z : ◌≡◌ {A = ℕ} 0 1 = cc in omega arith
    | Gap g next ↦ λ e. no_template (gap_first f Page ruled p 0 at φ end reads h is g next e).in_template
    | Element x next ↦ λ e. let m = (element_first f Page ruled p 0 at φ end reads h is x next e).is_more in let z : ◌≡◌ {A = ℕ} 0 1 = cc in omega arith
    | Blank next ↦ λ e. other next e
    | End next ↦ λ e. let m = (end_first f Page ruled p 0 at φ end reads h is next e).no_more in let z : ◌≡◌ {A = ℕ} 0 1 = cc in omega arith
  ] refl

  pub passed : ((next : Position) → h ≡ Blank next → ⊥) → (r : Position) → r.at ≡ at → AfterBlank p at₀ r
  passed other r here = walk.goes r λ ruled f end φ reads. record {
    fuel = f;
    left = φ;
    reads = rw here reads;
    begins = λ rest. solid other ruled f end φ rest reads;
    same = refl;
    finds = λ D. refl;
  }

-- A list that does not begin with blank text has other items if it has any.
pub none_left : (φ : Items) → ((rest : Items) → φ ≡ more blank rest → ⊥) → is_none (without_blank φ) ≡ is_none φ
unfolding without_blank ◌⋈◌
none_left none begins = refl
none_left (more text φ) begins = refl
none_left (more blank φ) begins = absurd (begins φ refl)
none_left (more (gap g) φ) begins = refl
none_left (more (element e mark δ χ) φ) begins = refl
