-- Walks over formulas that were read, by the form that stands at an offset.
use Prim.Native.Nat.{ℕ, ◌+◌, ◌≤◌, ◌<◌}
use mathlib.Core.Path.{◌≡◌, refl, sym, subst, subst₂, ◌∙◌}
use mathlib.Core.List.{List}
use mathlib.Core.Bool.{true}
use native.Mathlib.Omega.{arith}
use lib.ListN.{length}
use lib.Dec.{leb}
use borrow.Author.Tests.{leb-true}
use Rattle.sets.proofs.Booleans.{and_left, and_right}
use Rattle.strings.specs.declared.StringSet.{StringSet}
use Rattle.strings.specs.Inner.Promises.{set_number}
use Rattle.verdicts.specs.declared.Form.{Form}
use Rattle.commands.specs.declared.Context.TheVariants.{Formulas}
use Rattle.commands.specs.declared.Position.{Position}
use Rattle.commands.specs.declared.Decoded.{Decoded}
use Rattle.commands.specs.declared.Decoded.TheVariants.{Moved, Refused}
use Rattle.commands.specs.Commands.{byte, set_at, allowed, command}
use Rattle.commands.specs.Reading.{whole}
use Rattle.commands.specs.Inner.Parts.{stepped}
use Rattle.commands.proofs.Laws.{moved, MovedOver, SteppedOver, stepped_over, stepped_refused}
use Rattle.vocabularies.specs.declared.FormulaHere.{FormulaHere}
use Rattle.vocabularies.specs.declared.FormulaHere.TheVariants.{Conj, Disj, Neg, Truth, Attr, Content, Order, Value, Nothing}
use Rattle.vocabularies.specs.Vocabulary.{Formula}
use Rattle.vocabularies.specs.VocabularyReading.{Shape, binary, unary, leaf, shape_at, formula}
use Rattle.vocabularies.specs.Inner.Promises.{Begins, Stands, Walks}
use Rattle.vocabularies.proofs.Formulas.{Formed, formed_by, not_formed}

-- What stands at an offset, once its form is told.
pub told : (s : List ℕ) (at : ℕ) {form form' : FormulaHere} → Stands s at form → form ≡ form' → Stands s at form'
told s at S is = subst (Stands s at) is S

-- A formula that was read begins with a command that may begin one.
module _ (s : List ℕ) (at : ℕ) where
  begun : (f depth end : ℕ) (ψ : Formula) → formula f s depth at ≡ whole ψ end
      → (code : ℕ) × (next : Position) × (command Formulas s at ≡ Moved code next) × MovedOver Formulas s at code next
  begun f depth end ψ e = go (command Formulas s at) refl
    where
      go : (d : Decoded) → command Formulas s at ≡ d → (code : ℕ) × (next : Position) × (command Formulas s at ≡ Moved code next) × MovedOver Formulas s at code next
      go (Moved code next) c = (code, next, c, moved Formulas s at code next c)
      go (Refused i n) c = absurd (not_formed s depth at ψ end f e i n c)

module _ {s : List ℕ} {at next : ℕ} {shape : Shape} (B : Begins s at shape next) where
  pub onward : (at < length s) × (at < next)
  onward = (B.inside, omega (arith, B.after))

  -- It is made as the shape of that command says.
  pub formed_here : (f depth : ℕ) (ψ : Formula) (end : ℕ) → formula f s depth at ≡ whole ψ end → (g : ℕ) × Formed g s depth next shape ψ end
  formed_here f depth ψ end e =
      let (code, after, c, m) = begun s at f depth end ψ e in
      let q = formed_by s depth at ψ end f e code after c in
      (q.0, subst₂ (λ (n : ℕ) (made : Shape). Formed q.0 s depth n made ψ end) (m.after ∙ sym B.after) (subst (λ (k : ℕ). shape_at s at k ≡ shape) (sym m.first) B.shaped) q.2)

module _ {s : List ℕ} {at next : ℕ} where
  pub two_walk : {two : Formula → Formula → Formula} → Begins s at (binary two) next → (P₁ P₂ P : Formula → Type 0)
      → ((ψ₁ ψ₂ : Formula) → P₁ ψ₁ → P₂ ψ₂ → P (two ψ₁ ψ₂)) → (middle end : ℕ) → Walks P₁ s next middle → Walks P₂ s middle end → Walks P s at end
  two_walk B P₁ P₂ P law middle end W₁ W₂ f depth end' ψ e =
      let (g, (ψ₁, between, ψ₂, e₁, e₂, made)) = formed_here B f depth ψ end' e in
      let h₁ = W₁ g (depth + 1) between ψ₁ e₁ in
      let h₂ = W₂ g (depth + 1) end' ψ₂ (subst (λ (n : ℕ). formula g s (depth + 1) n ≡ whole ψ₂ end') (sym h₁.0) e₂) in
      (h₂.0, subst P (sym made) (law ψ₁ ψ₂ h₁.1 h₂.1))

  pub one_walk : {one : Formula → Formula} → Begins s at (unary one) next → (P₁ P : Formula → Type 0) → ((ψ : Formula) → P₁ ψ → P (one ψ)) → (end : ℕ)
      → Walks P₁ s next end → Walks P s at end
  one_walk B P₁ P law end W f depth end' ψ e =
      let (g, (ψ₁, e₁, made)) = formed_here B f depth ψ end' e in
      let h = W g (depth + 1) end' ψ₁ e₁ in
      (h.0, subst P (sym made) (law ψ₁ h.1))

  pub leaf_walk : {ψ : Formula} → Begins s at (leaf ψ) next → (P : Formula → Type 0) → P ψ → Walks P s at next
  leaf_walk B P holds_it f depth end ψ' e =
      let (g, (made, ends)) = formed_here B f depth ψ' end e in
      (sym ends, subst P (sym made) holds_it)

-- Where no formula stands, anything holds of it.
pub no_walk : (s : List ℕ) (at : ℕ) → Stands s at Nothing → (P : Formula → Type 0) (next : ℕ) → Walks P s at next
no_walk s at none P next f depth end ψ e = absurd (none f depth end ψ e)

-- ---- what stands here, by the command that a step hands back

above : {k c : ℕ} → k ≤ c → (c ≡ k → ⊥) → k + 1 ≤ c
above h n = omega arith

none_begins : (c : ℕ) → allowed Formulas c ≡ true → (c ≡ 0x10 → ⊥) → (c ≡ 0x11 → ⊥) → (c ≡ 0x12 → ⊥) → (c ≡ 0x13 → ⊥)
    → (c ≡ 0x14 → ⊥) → (c ≡ 0x15 → ⊥) → (c ≡ 0x16 → ⊥) → (c ≡ 0x17 → ⊥) → ⊥
unfolding allowed
none_begins c is n₀ n₁ n₂ n₃ n₄ n₅ n₆ n₇ =
    let low : 0x10 ≤ c = leb-true 0x10 c (and_left (leb 0x10 c) (leb c 0x17) is) in
    let high : c ≤ 0x17 = leb-true c 0x17 (and_right (leb 0x10 c) (leb c 0x17) is) in
    let all : 0x18 ≤ c = above (above (above (above (above (above (above (above low n₀) n₁) n₂) n₃) n₄) n₅) n₆) n₇ in
    omega arith

module _ (s : List ℕ) (at : ℕ) {d : Decoded} (is : d ≡ stepped s at) where
  pub none_past : {f : Form} {n : ℕ} → d ≡ Refused f n → Stands s at Nothing
  none_past m f depth end ψ e =
      let (code, next, c, over) = begun s at f depth end ψ e in
      omega (arith, over.forward, over.inside, stepped_refused s at d _ _ is m)

  module _ {code : ℕ} {next : Position} (m : d ≡ Moved code next) where
    begins : (shape : Shape) → shape_at s at code ≡ shape → Begins s at shape next.at
    begins shape e =
        let o : SteppedOver s at code next = stepped_over s at d code next is m in
        record { inside = o.here; shaped = rw o.first e; after = rw o.first o.after }

    pub conj_stands : code ≡ 0x10 → Stands s at (Conj next)
    conj_stands key = begins _ (rw key)

    pub disj_stands : code ≡ 0x11 → Stands s at (Disj next)
    disj_stands key = begins _ (rw key)

    pub neg_stands : code ≡ 0x12 → Stands s at (Neg next)
    neg_stands key = begins _ (rw key)

    pub truth_stands : code ≡ 0x13 → Stands s at (Truth next)
    truth_stands key = begins _ (rw key)

    pub attr_stands : code ≡ 0x14 → (a : ℕ) → a ≡ byte s (at + 1) → Stands s at (Attr a next)
    attr_stands key a e = begins _ (rw (key, e))

    pub content_stands : code ≡ 0x15 → (c : ℕ) → c ≡ byte s (at + 1) → Stands s at (Content c next)
    content_stands key c e = begins _ (rw (key, e))

    pub order_stands : code ≡ 0x16 → (c₁ c₂ : ℕ) → c₁ ≡ byte s (at + 1) → c₂ ≡ byte s (at + 2) → Stands s at (Order c₁ c₂ next)
    order_stands key c₁ c₂ e₁ e₂ = begins _ (rw (key, e₁, e₂))

    pub value_stands : code ≡ 0x17 → (a : ℕ) (set : StringSet) → a ≡ byte s (at + 1) → set_number set ≡ set_at s (at + 2) → Stands s at (Value a set next)
    value_stands key a set e₁ e₂ = begins _ (rw (key, e₁, e₂))

    pub none_stands : (code ≡ 0x10 → ⊥) → (code ≡ 0x11 → ⊥) → (code ≡ 0x12 → ⊥) → (code ≡ 0x13 → ⊥) → (code ≡ 0x14 → ⊥) → (code ≡ 0x15 → ⊥) → (code ≡ 0x16 → ⊥) → (code ≡ 0x17 → ⊥)
        → Stands s at Nothing
    none_stands n₀ n₁ n₂ n₃ n₄ n₅ n₆ n₇ f depth end ψ e =
        let (code', next', c, over) = begun s at f depth end ψ e in
        let o : SteppedOver s at code next = stepped_over s at d code next is m in
        none_begins code (rw o.first at over.permitted) n₀ n₁ n₂ n₃ n₄ n₅ n₆ n₇
