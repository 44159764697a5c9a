-- The facts that each form of a formula adds.
use Prim.Native.Nat.{ℕ}
use mathlib.Core.Path.{◌≡◌, refl}
use mathlib.Core.List.{List}
use Rattle.strings.specs.declared.StringSet.{StringSet}
use Rattle.strings.specs.Inner.Promises.{set_number}
use Rattle.vocabularies.specs.declared.Fact.TheVariants.{Carried, Present, Ordered, Valued}
use Rattle.vocabularies.specs.declared.Facts.{Facts}
use Rattle.vocabularies.specs.Vocabulary.{Formula, conj, disj, neg, truth, attr, content, order, value}
use Rattle.vocabularies.specs.Facts.{Fact, with_facts}
use Rattle.vocabularies.specs.VocabularyReading.{Shape, binary, unary, leaf}
use Rattle.vocabularies.specs.Inner.Promises.{Adds, FactsWith}

-- What a command adds: a connective nothing, since its facts are those of its parts, and a leaf its own.
abbrev pub ShapeAdds : Facts → Facts → Shape → Type 0
ShapeAdds t r (binary two) = (r ≡ t) × ((ψ₁ ψ₂ : Formula) (xs : List Fact) → with_facts (two ψ₁ ψ₂) xs ≡ with_facts ψ₂ (with_facts ψ₁ xs))
ShapeAdds t r (unary one) = (r ≡ t) × ((ψ : Formula) (xs : List Fact) → with_facts (one ψ) xs ≡ with_facts ψ xs)
ShapeAdds t r (leaf ψ) = FactsWith t ψ r

module _ (t : Facts) where
  pub conj_adds : ShapeAdds t t (binary conj)
  unfolding with_facts
  conj_adds = (refl, λ ψ₁ ψ₂ xs. refl)

  pub disj_adds : ShapeAdds t t (binary disj)
  unfolding with_facts
  disj_adds = (refl, λ ψ₁ ψ₂ xs. refl)

  pub neg_adds : ShapeAdds t t (unary neg)
  unfolding with_facts
  neg_adds = (refl, λ ψ xs. refl)

  pub truth_adds : ShapeAdds t t (leaf truth)
  unfolding with_facts
  truth_adds xs h = h

  module _ (r : Facts) where
    pub attr_adds : (a : ℕ) → Adds t (Carried a) r → ShapeAdds t r (leaf (attr a))
    unfolding with_facts
    attr_adds a h = h

    pub content_adds : (c : ℕ) → Adds t (Present c) r → ShapeAdds t r (leaf (content c))
    unfolding with_facts
    content_adds c h = h

    pub order_adds : (t₁ t₂ : Facts) (c d : ℕ) → Adds t (Present c) t₁ → Adds t₁ (Present d) t₂ → Adds t₂ (Ordered c d) r → FactsWith t (order c d) r
    unfolding with_facts
    order_adds t₁ t₂ c d h₁ h₂ h₃ xs h = h₃ _ (h₂ _ (h₁ xs h))

    pub value_adds : (a : ℕ) (m : StringSet) → Adds t (Valued a m) r → ShapeAdds t r (leaf (value a (set_number m)))
    unfolding with_facts
    value_adds a m h = h
