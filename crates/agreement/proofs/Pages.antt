-- The judgement of a page agrees with section 6: it finds no wrong element exactly where section 6 accepts the page, and what it finds
-- is the lowest wrong element, with what is told of it.
use Prim.Native.Nat.{ℕ, ◌≤◌, ◌+◌}
use native.Mathlib.Omega.{arith}
use mathlib.Core.Path.{◌≡◌, refl, sym, ◌∙◌}
use mathlib.Core.List.{List}
use mathlib.Core.Bool.{false, false≢true}
use mathlib.Core.Option.{Option}
use mathlib.Core.Logic.{inl, inr}
use borrow.Author.Tests.{eq-eqb}
use Rattle.std.specs.Prelude.{Some, None}
use Rattle.sets.proofs.Booleans.{or_neither}
use Rattle.verdicts.specs.declared.Breach.{Breach}
use Rattle.vocabularies.specs.Vocabulary.{Vocabulary, rule_of, declared}
use Rattle.vocabularies.proofs.Laws.{rule_found}
use Rattle.pages.specs.Items.{Attribute, Item, text, blank, gap, element, Items, more, gap_in, gap_in_item}
use Rattle.pages.specs.RightPages.{ElementWrong, FirstBreach, Accepts, AcceptsItem, SomeElement, SomeElementOf, WrongAt}
use Rattle.judging.specs.Inner.Judgement.{FirstWrong, or_else, of_element, first_wrong, first_wrong_item}
use Rattle.agreement.proofs.Breaches.{first_told, first_below, first_of, BreachFound, no_breach, breaks}
use Rattle.agreement.proofs.Elements.{element_found, right_unless, wrong_not_right}
use Rattle.agreement.proofs.Gaps.{NoGap}
use Rattle.agreement.proofs.Marks.{Rises, RisesIn, Stands, StandsIn, within, within_item}
use Rattle.agreement.proofs.SomeElements.{Saying, some_into, item_some_into, some_then, one_element}
use Rattle.agreement.proofs.Ruled.{Ruled, RuledItem}

-- A wrong element, by its mark.
abbrev pub At : ℕ → Breach → FirstWrong
At mark b = Some (record { at = mark; breach = b })

module _ (D : Vocabulary) where
  -- An element of an item is wrong, as `WrongAt` says it of items.
  abbrev pub WrongItem : ℕ → Item → Breach → Type 0
  WrongItem mark i b = SomeElementOf (λ e m δ contents. (m ≡ mark) × ElementWrong D e δ contents b) i

  -- An element with this mark, of which this breach is told.
  abbrev pub Telling : ℕ → Breach → Saying
  Telling mark b e m δ contents = (m ≡ mark) × FirstBreach (ElementWrong D e δ contents) b

  -- What was found: no wrong element; or one, and what is told of it.
  pub data Found (φ : Items) : FirstWrong → Type 0 where
    no_wrong : ((mark : ℕ) (b : Breach) → WrongAt D mark φ b → ⊥) → Found φ None
    wrong : {mark : ℕ} {b : Breach} → SomeElement (Telling mark b) φ → Found φ (At mark b)

  data FoundIn (i : Item) : FirstWrong → Type 0 where
    no_wrong_in : ((mark : ℕ) (b : Breach) → WrongItem mark i b → ⊥) → FoundIn i None
    wrong_in : {mark : ℕ} {b : Breach} → SomeElementOf (Telling mark b) i → FoundIn i (At mark b)

module _ (D : Vocabulary) where
  found_more : {i : Item} {φ : Items} {a b : FirstWrong} → FoundIn D i a → Found D φ b → Found D (more i φ) (or_else a b)
  unfolding WrongAt SomeElement
  found_more (wrong_in w) f = wrong (inl w)
  found_more (no_wrong_in h) (wrong w) = wrong (inr w)
  found_more {i} {φ} (no_wrong_in h) (no_wrong k) = no_wrong neither
    where
      neither : (mark : ℕ) (b : Breach) → WrongAt D mark (more i φ) b → ⊥
      neither mark b (inl w) = h mark b w
      neither mark b (inr w) = k mark b w

  found_element : {e mark : ℕ} {δ : List Attribute} {φ : Items} {o : Option Breach} {w : FirstWrong} → BreachFound (ElementWrong D e δ φ) o → Found D φ w
      → FoundIn D (element e mark δ φ) (of_element o mark w)
  unfolding WrongAt SomeElement
  found_element (breaks f) g = wrong_in (inl (refl, f))
  found_element (no_breach n) (wrong w) = wrong_in (inr w)
  found_element {e} {mark} {δ} {φ} (no_breach n) (no_wrong k) = no_wrong_in neither
    where
      neither : (m : ℕ) (b : Breach) → WrongItem D m (element e mark δ φ) b → ⊥
      neither m b (inl w) = n b w.1
      neither m b (inr w) = k m b w

  mutual
    unfolding first_wrong WrongAt SomeElement

    pub found : (φ : Items) → Found D φ (first_wrong D φ)
    found Items.none = no_wrong (λ mark b w. w)
    found (more i φ) = found_more (found_in i) (found φ)

    found_in : (i : Item) → FoundIn D i (first_wrong_item D i)
    found_in text = no_wrong_in (λ mark b w. w)
    found_in blank = no_wrong_in (λ mark b w. w)
    found_in (gap g) = no_wrong_in (λ mark b w. w)
    found_in (element e mark δ φ) = found_element (element_found D e δ φ) (found φ)

  -- What section 6 accepts has no wrong element.
  mutual
    unfolding WrongAt SomeElement Accepts

    pub accepts_right : (φ : Items) (mark : ℕ) (b : Breach) → Accepts D φ → WrongAt D mark φ b → ⊥
    accepts_right Items.none mark b a w = w
    accepts_right (more i φ) mark b a (inl w) = accepts_item_right i mark b a.0 w
    accepts_right (more i φ) mark b a (inr w) = accepts_right φ mark b a.1 w

    accepts_item_right : (i : Item) (mark : ℕ) (b : Breach) → AcceptsItem D i → WrongItem D mark i b → ⊥
    accepts_item_right text mark b a w = w
    accepts_item_right blank mark b a w = w
    accepts_item_right (gap g) mark b a w = w
    accepts_item_right (element e m δ φ) mark b a (inl w) = wrong_not_right D e δ φ b w.1 a.0
    accepts_item_right (element e m δ φ) mark b a (inr w) = accepts_right φ mark b a.1 w

  gap_gapless : (g : ℕ) → ((h : ℕ) → gap_in_item (gap g) h ≡ false) → ⊥
  unfolding gap_in
  gap_gapless g n = false≢true (sym (n g) ∙ eq-eqb g g refl)

  -- Items without gaps, each element of which has a rule, and none of which is wrong, are accepted.
  mutual
    unfolding WrongAt SomeElement Accepts gap_in

    pub accepted_unless : (φ : Items) → NoGap φ → Ruled (declared D.rules) φ → ((mark : ℕ) (b : Breach) → WrongAt D mark φ b → ⊥) → Accepts D φ
    accepted_unless Items.none n r h = tt
    accepted_unless (more i φ) n r h = (
      item_accepted_unless i (λ g. (or_neither (gap_in_item i g) (gap_in φ g) (n g)).0) (λ e s. r e (inl s)) (λ mark b w. h mark b (inl w)),
      accepted_unless φ (λ g. (or_neither (gap_in_item i g) (gap_in φ g) (n g)).1) (λ e s. r e (inr s)) (λ mark b w. h mark b (inr w)),
    )

    item_accepted_unless : (i : Item) → ((g : ℕ) → gap_in_item i g ≡ false) → RuledItem (declared D.rules) i → ((mark : ℕ) (b : Breach) → WrongItem D mark i b → ⊥) → AcceptsItem D i
    item_accepted_unless text n r h = tt
    item_accepted_unless blank n r h = tt
    item_accepted_unless (gap g) n r h = absurd (gap_gapless g n)
    item_accepted_unless (element e m δ φ) n r h =
        let (rule, is) = rule_found (rule_of D.rules e) (r e (inl refl)) in
        (right_unless D e δ φ rule is (λ b w. h m b (inl (refl, w))), accepted_unless φ n (λ c s. r c (inr s)) (λ mark b w. h mark b (inr w)))

pub wrong_stands : (D : Vocabulary) (φ : Items) (mark : ℕ) (b : Breach) → WrongAt D mark φ b → Stands mark φ
unfolding WrongAt
wrong_stands D φ mark b = some_into (λ e m δ χ. (m ≡ mark) × ElementWrong D e δ χ b) (λ e m δ χ. m ≡ mark) (λ e m δ χ w. w.0) φ

told_in_stands : (D : Vocabulary) (i : Item) (mark : ℕ) (b : Breach) → SomeElementOf (Telling D mark b) i → StandsIn mark i
told_in_stands D i mark b = item_some_into (Telling D mark b) (λ e m δ χ. m ≡ mark) (λ e m δ χ w. w.0) i

-- An element with this mark was found, or one with a lower mark.
data ByThen (mark : ℕ) : FirstWrong → Type 0 where
  by_then : {m : ℕ} {b : Breach} → m ≤ mark → ByThen mark (At m b)

module _ (D : Vocabulary) (mark : ℕ) (b : Breach) where
  in_item : {v : FirstWrong} (w : FirstWrong) → ByThen mark v → ByThen mark (or_else v w)
  in_item w (by_then h) = by_then h

  behind_item : (i : Item) (low high : ℕ) {v w : FirstWrong} → RisesIn low i high → high ≤ mark → FoundIn D i v → ByThen mark w
      → ByThen mark (or_else v w)
  behind_item i low high r h (no_wrong_in k) t = t
  behind_item i low high r h (wrong_in {mark = m} {b = c} w) t =
      let lower = within_item i low high m r (told_in_stands D i m c w) in by_then {m = m} (omega arith)

  at_element : (m : ℕ) {o : Option Breach} (w : FirstWrong) {W : Breach → Type 0} → m ≡ mark → W b → BreachFound W o → ByThen mark (of_element o m w)
  at_element m w e v (no_breach n) = absurd (n b v)
  at_element m w e v (breaks f) = by_then {m = m} (omega arith)

  in_element : (m : ℕ) {o : Option Breach} {w : FirstWrong} {W : Breach → Type 0} → m + 1 ≤ mark → BreachFound W o → ByThen mark w → ByThen mark (of_element o m w)
  in_element m h (no_breach n) t = t
  in_element m h (breaks f) t = by_then {m = m} (omega arith)

  mutual
    unfolding first_wrong WrongAt SomeElement Rises

    found_by_then : (φ : Items) (low high : ℕ) → Rises low φ high → WrongAt D mark φ b → ByThen mark (first_wrong D φ)
    found_by_then Items.none low high r w = absurd w
    found_by_then (more i φ) low high r (inl w) = in_item (first_wrong D φ) (found_in_by_then i low r.0 r.1 w)
    found_by_then (more i φ) low high r (inr w) =
        behind_item i low r.0 r.1 (within φ r.0 high mark r.2 (wrong_stands D φ mark b w)).0 (found_in D i)
        (found_by_then φ r.0 high r.2 w)

    found_in_by_then : (i : Item) (low high : ℕ) → RisesIn low i high → WrongItem D mark i b → ByThen mark (first_wrong_item D i)
    found_in_by_then text low high r w = absurd w
    found_in_by_then blank low high r w = absurd w
    found_in_by_then (gap g) low high r w = absurd w
    found_in_by_then (element e m δ φ) low high r (inl w) = at_element m (first_wrong D φ) w.0 w.1 (element_found D e δ φ)
    found_in_by_then (element e m δ φ) low high r (inr w) =
        in_element m (within φ (m + 1) high mark r.1 (wrong_stands D φ mark b w)).0 (element_found D e δ φ)
        (found_by_then φ (m + 1) high r.1 w)

lowest_of_lem : {mark m : ℕ} {b : Breach} → ByThen mark (At m b) → m ≤ mark
lowest_of_lem (by_then h) = h

-- Where marks rise, the element that is found is the lowest that is wrong,
pub lowest : (D : Vocabulary) (φ : Items) (low high : ℕ) → Rises low φ high → (mark : ℕ) (b : Breach) → first_wrong D φ ≡ At mark b
    → (mark' : ℕ) (b' : Breach) → WrongAt D mark' φ b' → mark ≤ mark'
lowest D φ low high r mark b e mark' b' w = lowest_of_lem (rw e at (found_by_then D mark' b' φ low high r w))

-- and what is told of it is told of its mark.
pub told_at : (D : Vocabulary) (φ : Items) (low high : ℕ) → Rises low φ high → (mark : ℕ) (b : Breach) → SomeElement (Telling D mark b) φ
    → FirstBreach (WrongAt D mark φ) b
unfolding WrongAt
told_at D φ low high r mark b s = first_of b
    (some_into (Telling D mark b) (λ e m δ χ. (m ≡ mark) × ElementWrong D e δ χ b) (λ e m δ χ h. (h.0, first_told h.1)) φ s)
    (λ c w. some_then (λ e m δ χ. (m ≡ mark) × (FirstBreach (ElementWrong D e δ χ) b × ElementWrong D e δ χ c)) (λ e m δ χ h. first_below h.1.0 c h.1.1) φ
    (one_element mark (λ e m δ χ. FirstBreach (ElementWrong D e δ χ) b) (λ e m δ χ. ElementWrong D e δ χ c) φ low high r s w))

module _ (D : Vocabulary) where
  some_found : {φ : Items} {mark : ℕ} {b : Breach} → Found D φ (At mark b) → SomeElement (Telling D mark b) φ
  some_found (wrong w) = w

  pub first_wrong_lem : (φ : Items) (low high : ℕ) → Rises low φ high → (mark : ℕ) (b : Breach) → first_wrong D φ ≡ At mark b → FirstBreach (WrongAt D mark φ) b
  first_wrong_lem φ low high r mark b e = told_at D φ low high r mark b (some_found (rw e at (found D φ)))

  none_found : {φ : Items} → Found D φ None → (mark : ℕ) (b : Breach) → WrongAt D mark φ b → ⊥
  none_found (no_wrong k) = k

  pub nothing_wrong : (φ : Items) → first_wrong D φ ≡ None → (mark : ℕ) (b : Breach) → WrongAt D mark φ b → ⊥
  nothing_wrong φ e = none_found (rw e at (found D φ))

  accepted_nowhere : (φ : Items) {w : FirstWrong} → Found D φ w → Accepts D φ → w ≡ None
  unfolding WrongAt
  accepted_nowhere φ (no_wrong k) a = refl
  accepted_nowhere φ (wrong {mark = mark} {b = b} s) a = absurd (accepts_right D φ mark b a
      (some_into (Telling D mark b) (λ e m δ χ. (m ≡ mark) × ElementWrong D e δ χ b) (λ e m δ χ h. (h.0, first_told h.1)) φ s))

  pub accepts_nowhere : (φ : Items) → Accepts D φ → first_wrong D φ ≡ None
  accepts_nowhere φ = accepted_nowhere φ (found D φ)
