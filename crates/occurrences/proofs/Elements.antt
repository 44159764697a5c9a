-- All elements of items: of which more is said, one of which is met, and the table with one element more.
use Prim.Native.Nat.{ℕ, ◌<◌}
use mathlib.Core.Path.{◌≡◌, refl, sym, ap, subst, ◌∙◌}
use mathlib.Core.List.{List}
use mathlib.Core.Bool.{Bool, true, false, ◌||◌}
use mathlib.Core.Logic.{inl, inr}
use native.Mathlib.Omega.{arith}
use lib.ListN.{length, get_or, set}
use lib.Seq.{get_or-set_same, get_or-set_other}
use lib.Dec.{eqb}
use borrow.Author.Tests.{eq-eqb, eqb-true, eqb-false}
use Rattle.sets.specs.Sets.{member}
use Rattle.pages.specs.Items.{Attribute, Item, text, blank, gap, element, Items, none, more}
use Rattle.pages.specs.RightPages.{SomeElement, SomeElementOf}
use Rattle.sets.proofs.Booleans.{or_left, or_right}
use Rattle.agreement.proofs.SomeElements.{Saying}
use Rattle.occurrences.specs.Inner.Occurrences.{AllElements, AllElementsOf, Stands, AllTold, Keeps}

module _ (P Q : Saying) (to : (e mark : ℕ) (δ : List Attribute) (φ : Items) → P e mark δ φ → Q e mark δ φ) where
  mutual
    unfolding AllElements

    pub all_into : (φ : Items) → AllElements P φ → AllElements Q φ
    all_into none h = tt
    all_into (more i φ) h = (all_into_of i h.0, all_into φ h.1)

    all_into_of : (i : Item) → AllElementsOf P i → AllElementsOf Q i
    all_into_of text h = tt
    all_into_of blank h = tt
    all_into_of (gap g) h = tt
    all_into_of (element e mark δ φ) h = (to e mark δ φ h.0, all_into φ h.1)

-- What holds of all elements holds of one.
module _ (P Q : Saying) (R : Type 0) (met : (e mark : ℕ) (δ : List Attribute) (φ : Items) → P e mark δ φ → Q e mark δ φ → R) where
  mutual
    unfolding AllElements SomeElement

    pub all_met : (φ : Items) → AllElements P φ → SomeElement Q φ → R
    all_met none h s = absurd s
    all_met (more i φ) h (inl s) = all_met_of i h.0 s
    all_met (more i φ) h (inr s) = all_met φ h.1 s

    all_met_of : (i : Item) → AllElementsOf P i → SomeElementOf Q i → R
    all_met_of text h s = absurd s
    all_met_of blank h s = absurd s
    all_met_of (gap g) h s = absurd s
    all_met_of (element e mark δ φ) h (inl s) = met e mark δ φ h.0 s
    all_met_of (element e mark δ φ) h (inr s) = all_met φ h.1 s

pub still_told : (table larger : List ℕ) → Keeps table larger → (n : ℕ) (φ : Items) → AllTold table n φ → AllTold larger n φ
still_told table larger keeps n = all_into (λ e mark δ χ. Stands table n e) (λ e mark δ χ. Stands larger n e) (λ e mark δ χ. keeps n e)

-- One element more.
module _ (table : List ℕ) (wide : length table ≡ 64) (n e : ℕ) (low : e < 64) (w : ℕ) (is : (k : ℕ) → member w k ≡ (eqb k n || member (get_or table e 0) k)) where
  here : get_or (set table e w) e 0 ≡ w
  here = get_or-set_same table e w 0 (omega (arith, wide))

  pub element_stands : Stands (set table e w) n e
  element_stands = record { low = low; stands = ap (λ (v : ℕ). member v n) here ∙ is n ∙ or_left (eqb n n) (member (get_or table e 0) n) (eq-eqb n n refl) }

  pub element_keeps : Keeps table (set table e w)
  element_keeps m k T = go (eqb k e) refl
    where
      go : (b : Bool) → eqb k e ≡ b → Stands (set table e w) m k
      go true q =
          let same : k ≡ e = eqb-true k e q in
          let before : member (get_or table e 0) m ≡ true = ap (λ (j : ℕ). member (get_or table j 0) m) (sym same) ∙ T.stands in
          subst (λ (j : ℕ). Stands (set table e w) m j) (sym same)
          (record { low = low; stands = ap (λ (v : ℕ). member v m) here ∙ is m ∙ or_right (eqb m n) (member (get_or table e 0) m) before })
      go false q = record { low = T.low; stands = ap (λ (v : ℕ). member v m) (get_or-set_other table e k w 0 (eqb-false k e q)) ∙ T.stands }
