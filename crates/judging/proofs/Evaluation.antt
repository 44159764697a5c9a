-- Evaluation by the form that stands at an offset: the laws of the eight forms, in the order of source 000's grammar.
use Prim.Native.Nat.{ℕ}
use mathlib.Core.Path.{◌≡◌, refl, sym, ap, ap₂, ◌∙◌}
use mathlib.Core.List.{List}
use mathlib.Core.Bool.{Bool, true, not, ◌&&◌, ◌||◌}
use borrow.Author.Tests.{not-true}
use Rattle.sets.specs.Sets.{member}
use Rattle.sets.proofs.Booleans.{and_left, and_right}
use Rattle.vocabularies.specs.Vocabulary.{conj, disj, neg, truth, attr, content, order, value}
use Rattle.vocabularies.specs.VocabularyReading.{binary, unary, leaf}
use Rattle.vocabularies.specs.Inner.Promises.{Begins}
use Rattle.vocabularies.proofs.Laws.{two_walk, one_walk, leaf_walk}
use Rattle.judging.specs.declared.Shape.{Shape}
use Rattle.judging.specs.Inner.Judgement.{Atoms, truth_of}
use Rattle.judging.specs.Inner.Promises.{Holds, Decides}

module _ {v : List ℕ} {at next : ℕ} where
  -- ---- the truth

  module _ (A : Atoms) where
    module _ {b₁ b₂ : Bool} {middle end : ℕ} where
      pub conj_held : Begins v at (binary conj) next → Holds A v next b₁ middle → Holds A v middle b₂ end → Holds A v at (b₁ && b₂) end
      unfolding truth_of
      conj_held B = two_walk B _ _ _ (λ ψ₁ ψ₂ h₁ h₂. ap₂ ◌&&◌ h₁ h₂) _ _

      pub disj_held : Begins v at (binary disj) next → Holds A v next b₁ middle → Holds A v middle b₂ end → Holds A v at (b₁ || b₂) end
      unfolding truth_of
      disj_held B = two_walk B _ _ _ (λ ψ₁ ψ₂ h₁ h₂. ap₂ ◌||◌ h₁ h₂) _ _

    pub neg_held : {b : Bool} {end : ℕ} → Begins v at (unary neg) next → Holds A v next b end → Holds A v at (not b) end
    unfolding truth_of
    neg_held B = one_walk B _ _ (λ ψ h. ap not h) _

    pub truth_held : Begins v at (leaf truth) next → Holds A v at true next
    unfolding truth_of
    truth_held B = leaf_walk B _ refl

    module _ {b : Bool} where
      pub attr_held : {a : ℕ} → Begins v at (leaf (attr a)) next → b ≡ A.attr a → Holds A v at b next
      unfolding truth_of
      attr_held B = leaf_walk B _

      pub content_held : {c : ℕ} → Begins v at (leaf (content c)) next → b ≡ A.content c → Holds A v at b next
      unfolding truth_of
      content_held B = leaf_walk B _

      pub order_held : {c d : ℕ} → Begins v at (leaf (order c d)) next → b ≡ A.order c d → Holds A v at b next
      unfolding truth_of
      order_held B = leaf_walk B _

      pub value_held : {a m : ℕ} → Begins v at (leaf (value a m)) next → b ≡ A.value a m → Holds A v at b next
      unfolding truth_of
      value_held B = leaf_walk B _

  -- ---- what a shape decides

  module _ (shape : Shape) where
    module _ {b₁ b₂ : Bool} {middle end : ℕ} where
      pub conj_decided : Begins v at (binary conj) next → Decides shape v next b₁ middle → Decides shape v middle b₂ end → Decides shape v at (b₁ && b₂) end
      unfolding truth_of
      conj_decided B = two_walk B _ _ _
          (λ ψ₁ ψ₂ h₁ h₂ y A A' S S'. ap₂ ◌&&◌ (h₁ (and_left b₁ b₂ y) A A' S S') (h₂ (and_right b₁ b₂ y) A A' S S')) _ _

      pub disj_decided : Begins v at (binary disj) next → Decides shape v next b₁ middle → Decides shape v middle b₂ end → Decides shape v at (b₁ && b₂) end
      unfolding truth_of
      disj_decided B = two_walk B _ _ _
          (λ ψ₁ ψ₂ h₁ h₂ y A A' S S'. ap₂ ◌||◌ (h₁ (and_left b₁ b₂ y) A A' S S') (h₂ (and_right b₁ b₂ y) A A' S S')) _ _

    pub neg_decided : {b : Bool} {end : ℕ} → Begins v at (unary neg) next → Decides shape v next b end → Decides shape v at b end
    unfolding truth_of
    neg_decided B = one_walk B _ _ (λ ψ h y A A' S S'. ap not (h y A A' S S')) _

    pub truth_decided : Begins v at (leaf truth) next → Decides shape v at true next
    unfolding truth_of
    truth_decided B = leaf_walk B _ (λ y A A' S S'. refl)

    pub attr_decided : {a : ℕ} → Begins v at (leaf (attr a)) next → Decides shape v at true next
    unfolding truth_of
    attr_decided B = leaf_walk B _ (λ y A A' S S'. S.attrs _ ∙ sym (S'.attrs _))

    pub content_decided : {c : ℕ} → Begins v at (leaf (content c)) next → Decides shape v at true next
    unfolding truth_of
    content_decided B = leaf_walk B _ (λ y A A' S S'. S.contents _ ∙ sym (S'.contents _))

    module _ {b : Bool} where
      pub order_decided : {c d : ℕ} → Begins v at (leaf (order c d)) next → b ≡ not (member shape.contents c && member shape.contents d) → Decides shape v at b next
      unfolding truth_of
      order_decided B e = leaf_walk B _ (λ y A A' S S'. let n = not-true _ (sym e ∙ y) in S.orders _ _ n ∙ sym (S'.orders _ _ n))

      pub value_decided : {a m : ℕ} → Begins v at (leaf (value a m)) next → b ≡ not (member shape.names a) → Decides shape v at b next
      unfolding truth_of
      value_decided B e = leaf_walk B _ (λ y A A' S S'. let n = not-true _ (sym e ∙ y) in S.values _ _ n ∙ sym (S'.values _ _ n))
