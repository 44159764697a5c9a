-- What is alike is right alike: its words and gaps are the same, and what section 6 asks goes by them.
use Prim.Native.Nat.{ℕ}
use mathlib.Core.Path.{◌≡◌, refl, sym, ap, ◌∙◌}
use mathlib.Core.List.{List, ◌∷◌}
use mathlib.Core.Logic.{inl, inr}
use Rattle.verdicts.specs.declared.Breach.{Breach}
use Rattle.vocabularies.specs.Vocabulary.{Vocabulary}
use Rattle.pages.specs.Items.{Attribute, Item, Items, ◌⋈◌, without_blank, gap_in, gap_in_item, attribute_gap_in, attribute_gap_in_item}
use Rattle.pages.specs.RightPages.{word_item, word, RootAlone, Accepts, AcceptsItem, Right, SomeElement, SomeElementOf, ElementWrong, attribute_not_allowed, content_not_allowed, clause_not_met, WrongAt}
use Rattle.pages.proofs.Marks.{meets_there, element_there}
use Rattle.judging.specs.Inner.Judgement.{is_none, is_alone}
use Rattle.agreement.proofs.Marks.{Stands}
use Rattle.agreement.proofs.Roots.{root_alone_iff}
use Rattle.blank_text.proofs.Alike.{Alike, nothing, blank_here, blank_there, both, AlikeItem, both_text, both_gap, both_element}

module _ {M : ℕ → ℕ → Type 0} where
  word_item_lem : {i i' : Item} {w w' : List ℕ} → AlikeItem M i i' → w ≡ w' → word_item i w ≡ word_item i' w'
  unfolding word_item
  word_item_lem both_text p = ap (λ (w : List ℕ). 0 ∷ w) p
  word_item_lem both_gap p = p
  word_item_lem (both_element {e = e} m a) p = ap (λ (w : List ℕ). e ∷ w) p

  pub same_word : {φ φ' : Items} → Alike M φ φ' → word φ ≡ word φ'
  unfolding word
  same_word nothing = refl
  same_word (blank_here a) = same_word a
  same_word (blank_there a) = same_word a
  same_word (both i a) = word_item_lem i (same_word a)

  mutual
    unfolding gap_in

    pub same_gaps : {φ φ' : Items} → Alike M φ φ' → (g : ℕ) → gap_in φ g ≡ gap_in φ' g
    same_gaps nothing g = refl
    same_gaps (blank_here a) g = same_gaps a g
    same_gaps (blank_there a) g = same_gaps a g
    same_gaps (both i a) g = rw (same_item_gaps i g, same_gaps a g)

    same_item_gaps : {i i' : Item} → AlikeItem M i i' → (g : ℕ) → gap_in_item i g ≡ gap_in_item i' g
    same_item_gaps both_text g = refl
    same_item_gaps both_gap g = refl
    same_item_gaps (both_element m a) g = same_gaps a g

  mutual
    unfolding attribute_gap_in

    pub same_attribute_gaps : {φ φ' : Items} → Alike M φ φ' → (h : ℕ) → attribute_gap_in φ h ≡ attribute_gap_in φ' h
    same_attribute_gaps nothing h = refl
    same_attribute_gaps (blank_here a) h = same_attribute_gaps a h
    same_attribute_gaps (blank_there a) h = same_attribute_gaps a h
    same_attribute_gaps (both i a) h = rw (same_item_attribute_gaps i h, same_attribute_gaps a h)

    same_item_attribute_gaps : {i i' : Item} → AlikeItem M i i' → (h : ℕ) → attribute_gap_in_item i h ≡ attribute_gap_in_item i' h
    same_item_attribute_gaps both_text h = refl
    same_item_attribute_gaps both_gap h = refl
    same_item_attribute_gaps (both_element m a) h = rw (same_attribute_gaps a h)

  none_alike : {φ φ' : Items} → Alike M φ φ' → is_none (without_blank φ) ≡ is_none (without_blank φ')
  unfolding without_blank ◌⋈◌
  none_alike nothing = refl
  none_alike (blank_here a) = none_alike a
  none_alike (blank_there a) = none_alike a
  none_alike (both both_text a) = refl
  none_alike (both both_gap a) = refl
  none_alike (both (both_element m b) a) = refl

  pub same_alone : (e : ℕ) {φ φ' : Items} → Alike M φ φ' → is_alone e φ ≡ is_alone e φ'
  unfolding without_blank ◌⋈◌
  same_alone e nothing = refl
  same_alone e (blank_here a) = same_alone e a
  same_alone e (blank_there a) = same_alone e a
  same_alone e (both both_text a) = refl
  same_alone e (both both_gap a) = refl
  same_alone e (both (both_element m b) a) = rw (none_alike a)

  module _ (D : Vocabulary) where
    pub alone_there : {φ φ' : Items} → Alike M φ φ' → RootAlone D φ → RootAlone D φ'
    alone_there {φ} {φ'} a r = (root_alone_iff D φ').0 (sym (same_alone D.root a) ∙ (root_alone_iff D φ).1 r)

    mutual
      unfolding Accepts

      pub accepted_there : {φ φ' : Items} → Alike M φ φ' → Accepts D φ → Accepts D φ'
      accepted_there nothing h = h
      accepted_there (blank_here a) h = accepted_there a h.1
      accepted_there (blank_there a) h = (tt, accepted_there a h)
      accepted_there (both i a) h = (accepted_item_there i h.0, accepted_there a h.1)

      accepted_item_there : {i i' : Item} → AlikeItem M i i' → AcceptsItem D i → AcceptsItem D i'
      accepted_item_there both_text h = h
      accepted_item_there both_gap h = h
      accepted_item_there (both_element {e = e} {δ = δ} {φ = φ} {φ' = φ'} m a) h = (element_there δ φ φ' (same_word a) D e h.0, accepted_there a h.1)

    pub right_there : {φ φ' : Items} → Alike M φ φ' → Right D φ → Right D φ'
    right_there a r = record {
      alone = alone_there a r.alone;
      accepted = accepted_there a r.accepted;
      gapless = record { gaps = λ g. sym (same_gaps a g) ∙ r.gapless.gaps g; attribute_gaps = λ h. sym (same_attribute_gaps a h) ∙ r.gapless.attribute_gaps h };
    }

    wrong_element_there : {e : ℕ} {δ : List Attribute} {φ φ' : Items} {b : Breach} → Alike M φ φ' → ElementWrong D e δ φ b → ElementWrong D e δ φ' b
    wrong_element_there a (attribute_not_allowed n r i o) = attribute_not_allowed n r i o
    wrong_element_there a (content_not_allowed c r i o) = content_not_allowed c r (rw (same_word a) at i) o
    wrong_element_there {δ = δ} {φ = φ} {φ' = φ'} a (clause_not_met i r l o) = clause_not_met i r l (λ h. o ((meets_there δ φ φ' (same_word a) _).1 h))

-- What is said of an element at a mark is said of its like at the mark there.
module _ {M : ℕ → ℕ → Type 0} (P : ℕ → ℕ → ℕ → List Attribute → Items → Type 0)
    (carry : (at e mark mark' : ℕ) (δ : List Attribute) (φ φ' : Items) → M mark mark' → Alike M φ φ' → P at e mark δ φ
    → (at' : ℕ) × M at at' × P at' e mark' δ φ') where
  mutual
    unfolding SomeElement

    some_there : {φ φ' : Items} {at : ℕ} → Alike M φ φ' → SomeElement (P at) φ → (at' : ℕ) × M at at' × SomeElement (P at') φ'
    some_there nothing s = absurd s
    some_there (blank_here a) (inl s) = absurd s
    some_there (blank_here a) (inr s) = some_there a s
    some_there (blank_there a) s = let t = some_there a s in (t.0, t.1, inr t.2)
    some_there (both i a) (inl s) = let t = some_item_there i s in (t.0, t.1, inl t.2)
    some_there (both i a) (inr s) = let t = some_there a s in (t.0, t.1, inr t.2)

    some_item_there : {i i' : Item} {at : ℕ} → AlikeItem M i i' → SomeElementOf (P at) i → (at' : ℕ) × M at at' × SomeElementOf (P at') i'
    some_item_there both_text s = absurd s
    some_item_there both_gap s = absurd s
    some_item_there (both_element m a) (inl s) = let t = carry _ _ _ _ _ _ _ m a s in (t.0, t.1, inl t.2)
    some_item_there (both_element m a) (inr s) = let t = some_there a s in (t.0, t.1, inr t.2)

module _ {M : ℕ → ℕ → Type 0} where
  pub stands_there : {φ φ' : Items} {at : ℕ} → Alike M φ φ' → Stands at φ → (at' : ℕ) × M at at' × Stands at' φ'
  stands_there = some_there (λ at e mark δ φ. mark ≡ at) (λ at e mark mark' δ φ φ' m a s. (mark', rw s at m, refl))

  pub wrong_there : (D : Vocabulary) {φ φ' : Items} {at : ℕ} (b : Breach) → Alike M φ φ' → WrongAt D at φ b → (at' : ℕ) × M at at' × WrongAt D at' φ' b
  unfolding WrongAt
  wrong_there D b = some_there (λ at e mark δ φ. (mark ≡ at) × ElementWrong D e δ φ b)
      (λ at e mark mark' δ φ φ' m a w. (mark', rw w.0 at m, (refl, wrong_element_there D a w.1)))
