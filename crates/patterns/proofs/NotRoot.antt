-- Verdict 11 is decided by classes: some page of a root template is not exactly the root element if and only if the template's set has
-- the class "empty" or the class "other".
use Prim.Native.Nat.{ℕ, zero, suc, ◌<◌}
use native.Mathlib.Omega.{arith}
use mathlib.Core.Path.{◌≡◌, refl, sym, ap, subst, ◌∙◌}
use mathlib.Core.List.{List, [], ◌∷◌}
use mathlib.Core.Bool.{Bool, true, false, cond, ◌&&◌, ◌||◌, and-true, and-false, true≢false}
use mathlib.Core.Logic.{◌↔◌, ◌⊎◌, inl, inr, ⊎_elim}
use lib.Dec.{eqb}
use borrow.Author.Tests.{ne_eqb}
use Rattle.vocabularies.specs.Vocabulary.{Vocabulary}
use Rattle.pages.specs.Items.{Item, text, blank, gap, element, Items, none, more, ◌⋈◌, without_blank, gap_in, gap_in_item}
use Rattle.pages.specs.RightPages.{word, word_item, RootAlone}
use Rattle.judging.specs.Inner.Judgement.{is_none, is_alone}
use Rattle.summaries.specs.Proposal.{root}
use Rattle.summaries.specs.Summaries.{Summary}
use Rattle.summaries.specs.Languages.{DerivedFrom}
use Rattle.agreement.proofs.Deciding.{false_iff}
use Rattle.agreement.proofs.Gaps.{NoGap}
use Rattle.agreement.proofs.Roots.{decided_alone}
use Rattle.patterns.specs.Inner.Morphisms.{root_morphism, class_of, empty, alone, other}
use Rattle.patterns.specs.Inner.Given.{Bounded}
use Rattle.patterns.specs.Inner.Rounds.{Sets}
use Rattle.patterns.specs.Inner.Exactness.{Exact}
use Rattle.patterns.specs.Inner.Shows.{not_root}
use Rattle.patterns.proofs.Tests.{eqb_same}
use Rattle.sets.proofs.Booleans.{or_left, or_right, or_cases, or_neither, and_both, and_left, and_right}
use Rattle.patterns.proofs.Lawful.{root_lawful}
use Rattle.patterns.proofs.Closed.{derived_no_gap}

-- A gap is a gap.
gap_found : (g : ℕ) (φ : Items) → gap_in (more (gap g) φ) g ≡ true
unfolding gap_in
gap_found g φ = or_left (eqb g g) (gap_in φ g) (eqb_same g)

rest_no_gap : (i : Item) (φ : Items) → NoGap (more i φ) → NoGap φ
unfolding gap_in
rest_no_gap i φ h g = (or_neither (gap_in_item i g) (gap_in φ g) (h g)).1

one_content : (top c : ℕ) → eqb (class_of top (c ∷ [])) alone ≡ eqb c top
unfolding class_of
one_content top c = go (eqb c top)
  where
    go : (b : Bool) → eqb (cond b alone other) alone ≡ b
    go true = refl
    go false = refl

abbrev is_nil : List ℕ → Bool
is_nil [] = true
is_nil (c ∷ w) = false

first_content : (top c : ℕ) (w : List ℕ) → eqb (class_of top (c ∷ w)) alone ≡ (eqb c top && is_nil w)
unfolding class_of
first_content top c [] = one_content top c ∙ sym (and-true (eqb c top))
first_content top c (d ∷ w) = sym (and-false (eqb c top))

-- Items that are no gaps and no blank text are contents.
no_content_lem : (φ : Items) → NoGap φ → is_none (without_blank φ) ≡ is_nil (word φ)
unfolding without_blank ◌⋈◌ word word_item
no_content_lem none h = refl
no_content_lem (more text φ) h = refl
no_content_lem (more blank φ) h = no_content_lem φ (rest_no_gap blank φ h)
no_content_lem (more (gap g) φ) h = absurd (true≢false (sym (gap_found g φ) ∙ h g))
no_content_lem (more (element e mark δ χ) φ) h = refl

-- Of a page without gaps the class tells whether it is exactly the root element.
pub class_alone : (top : ℕ) → (top ≡ 0 → ⊥) → (φ : Items) → NoGap φ → is_alone top φ ≡ eqb (class_of top (word φ)) alone
unfolding without_blank ◌⋈◌ word word_item class_of
class_alone top pos none h = refl
class_alone top pos (more text φ) h = sym (first_content top 0 (word φ) ∙ rw (ne_eqb 0 top (λ e. pos (sym e))))
class_alone top pos (more blank φ) h = class_alone top pos φ (rest_no_gap blank φ h)
class_alone top pos (more (gap g) φ) h = absurd (true≢false (sym (gap_found g φ) ∙ h g))
class_alone top pos (more (element e mark δ χ) φ) h = rw (no_content_lem φ (rest_no_gap (element e mark δ χ) φ h)) (sym (first_content top e (word φ)))

not_alone : (k : ℕ) → k < 3 → eqb k alone ≡ false → (k ≡ empty) ⊎ (k ≡ other)
not_alone zero h e = inl refl
not_alone (suc zero) h e = absurd (true≢false e)
not_alone (suc (suc zero)) h e = inr refl
not_alone (suc (suc (suc k))) h e = absurd (omega arith)

module _ (φs : List Items) (G : Summary) (bounded : Bounded φs G) (D : Vocabulary) (pos : D.root ≡ 0 → ⊥)
    (K : Sets) (exact : Exact φs G (root_morphism D.root) K) where
  -- A page of a root that is not exactly the root element.
  abbrev pub OtherPage : ℕ → Type 0
  OtherPage r = (page : Items) × DerivedFrom φs G r page × (RootAlone D page → ⊥)

  other_class : (r k : ℕ) → eqb k alone ≡ false → G (root r) ≡ true → K r k ≡ true → OtherPage r
  other_class r k ne g e =
      let (page, d, p) = (exact r k (bounded.roots r g)).0 e in (
        page,
        (g, d),
        (false_iff (decided_alone D page)).0
            (class_alone D.root pos page (derived_no_gap φs G d) ∙ ap (λ (x : ℕ). eqb x alone) p ∙ ne),
      )

  pub not_root_exact : (r : ℕ) → not_root G K r ≡ true ↔ OtherPage r
  not_root_exact r = (to, back)
    where
      to : not_root G K r ≡ true → OtherPage r
      to e = ⊎_elim
          (other_class r empty refl (and_left (G (root r)) (K r empty || K r other) e))
          (other_class r other refl (and_left (G (root r)) (K r empty || K r other) e))
          (or_cases (K r empty) (K r other) (and_right (G (root r)) (K r empty || K r other) e))

      back : OtherPage r → not_root G K r ≡ true
      back (page, (g, d), n) =
          let class : ℕ = class_of D.root (word page) in
          let held : K r class ≡ true = (exact r class (bounded.roots r g)).1 (page, d, refl) in
          and_both _ _ g (⊎_elim
          (λ (q : class ≡ empty). or_left (K r empty) (K r other) (subst (λ (k : ℕ). K r k ≡ true) q held))
          (λ (q : class ≡ other). or_right (K r empty) (K r other) (subst (λ (k : ℕ). K r k ≡ true) q held))
          (not_alone class ((root_lawful D.root).below (word page))
          (sym (class_alone D.root pos page (derived_no_gap φs G d)) ∙ (false_iff (decided_alone D page)).1 n)))
