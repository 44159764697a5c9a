-- Attributes can be filled exactly if each attribute gap has something to take, a string or absence; what is carried then; and none
-- stands twice where none stood twice before.
use Prim.Native.Nat.{ℕ, suc, ◌≤◌, ◌<◌}
use native.Mathlib.Omega.{arith}
use mathlib.Core.Path.{◌≡◌, refl, sym, subst, ◌∙◌}
use mathlib.Core.List.{List, [], ◌∷◌}
use mathlib.Core.Bool.{Bool, true, false, cond, ◌&&◌, false≢true}
use mathlib.Core.Option.{Option, some, none}
use mathlib.Core.Logic.{◌⊎◌, inl, inr, ⊎_elim}
use lib.Dec.{eqb, ltb}
use borrow.Author.Tests.{eq-eqb, eqb-true, ltb-true, ltb-false}
use Rattle.commands.specs.Commands.{strings}
use Rattle.vocabularies.specs.Vocabulary.{is_in, Distinct}
use Rattle.vocabularies.specs.Facts.{Fact}
use Rattle.pages.specs.Items.{Value, string, open_gap, Attribute, Items}
use Rattle.pages.specs.RightPages.{names}
use Rattle.summaries.specs.Summaries.{Summary}
use Rattle.summaries.specs.Languages.{takes, AttributesDerive, no_attribute, fixed, filled, dropped}
use Rattle.patterns.specs.Inner.Given.{Bounded}
use Rattle.patterns.specs.Inner.Rounds.{only, any_named, string_reaches, value_takes, attributes_take}
use Rattle.patterns.specs.Inner.Elements.{attribute_pattern, absence_pattern, absence_patterns, string_patterns, taken_patterns, carriable_names}
use Rattle.patterns.proofs.Tests.{eqb_same, any_below_lem, below_any}
use Rattle.sets.proofs.Booleans.{or_left, or_right, or_cases, or_neither, neither, and_both, and_left, and_right, either}

-- Where the strings outside the named ones are alike, the least of them stands for all.
pub any_named_lem : (p : ℕ → Bool) → ((s : ℕ) → strings ≤ s → p s ≡ p strings) → (s : ℕ) → p s ≡ true → any_named p ≡ true
any_named_lem p alike s e = ⊎_elim
    (λ (q : ltb s strings ≡ true). let h : s < strings = ltb-true s strings q in any_below_lem (suc strings) p s (omega arith) e)
    (λ (q : ltb s strings ≡ false).
    any_below_lem (suc strings) p strings (omega arith) (sym (alike s (ltb-false s strings q)) ∙ e))
    (either (ltb s strings))

module _ (φs : List Items) (G : Summary) (bounded : Bounded φs G) where
  some_string : (n h s : ℕ) → takes G n h (some s) ≡ true → string_reaches G n (open_gap h) ≡ true
  some_string n h s e = any_named_lem (λ t. takes G n h (some t)) (bounded.others_alike n h) s e

  pub filled_take : {n : ℕ} {δ δ' : List Attribute} → AttributesDerive φs G n δ δ' → attributes_take G n δ ≡ true
  unfolding attributes_take
  filled_take no_attribute = refl
  filled_take (fixed d) = filled_take d
  filled_take {n} (filled {h = h} s e d) = and_both _ _ (or_right (takes G n h none) (string_reaches G n (open_gap h)) (some_string n h s e)) (filled_take d)
  filled_take {n} (dropped {h = h} e d) = and_both _ _ (or_left (takes G n h none) (string_reaches G n (open_gap h)) e) (filled_take d)

  value_filled : (n a : ℕ) (v : Value) (δ : List Attribute) → value_takes G n v ≡ true → (δ' : List Attribute) × AttributesDerive φs G n δ δ'
      → (ε : List Attribute) × AttributesDerive φs G n (record { name = a; value = v } ∷ δ) ε
  value_filled n a (string s) δ e (δ', d) = (record { name = a; value = string s } ∷ δ', fixed d)
  value_filled n a (open_gap h) δ e (δ', d) =
      ⊎_elim
      (λ (q : takes G n h none ≡ true). (δ', dropped q d))
      (λ (r : string_reaches G n (open_gap h) ≡ true).
      let (s, below, q) = below_any (suc strings) (λ t. takes G n h (some t)) r in
      (record { name = a; value = string s } ∷ δ', filled s q d))
      (or_cases (takes G n h none) (string_reaches G n (open_gap h)) e)

  pub take_filled : (n : ℕ) (δ : List Attribute) → attributes_take G n δ ≡ true → (δ' : List Attribute) × AttributesDerive φs G n δ δ'
  unfolding attributes_take
  take_filled n [] e = ([], no_attribute)
  take_filled n (a ∷ δ) e =
      value_filled n a.name a.value δ (and_left (value_takes G n a.value) (attributes_take G n δ) e)
      (take_filled n δ (and_right (value_takes G n a.value) (attributes_take G n δ) e))

  -- The names of a page's attributes are among those that can be carried.
  carried_more : (n a : ℕ) (v : Value) (δ : List Attribute) (c : ℕ) → is_in c (carriable_names G n δ) ≡ true
      → is_in c (carriable_names G n (record { name = a; value = v } ∷ δ)) ≡ true
  unfolding carriable_names is_in
  carried_more n a v δ c e = go (string_reaches G n v)
    where
      go : (b : Bool) → is_in c (cond b (a ∷ carriable_names G n δ) (carriable_names G n δ)) ≡ true
      go true = or_right (eqb c a) (is_in c (carriable_names G n δ)) e
      go false = e

  carried_here : (n a : ℕ) (v : Value) (δ δ' : List Attribute) (c : ℕ) → string_reaches G n v ≡ true
      → (is_in c (names δ') ≡ true → is_in c (carriable_names G n δ) ≡ true) → is_in c (a ∷ names δ') ≡ true
      → is_in c (carriable_names G n (record { name = a; value = v } ∷ δ)) ≡ true
  unfolding carriable_names is_in
  carried_here n a v δ δ' c reached rest e = rw reached (⊎_elim
      (λ q. or_left (eqb c a) (is_in c (carriable_names G n δ)) q)
      (λ q. or_right (eqb c a) (is_in c (carriable_names G n δ)) (rest q))
      (or_cases (eqb c a) (is_in c (names δ')) e))

  pub carried_in : {n : ℕ} {δ δ' : List Attribute} → AttributesDerive φs G n δ δ' → (c : ℕ) → is_in c (names δ') ≡ true → is_in c (carriable_names G n δ) ≡ true
  unfolding carriable_names is_in
  carried_in no_attribute c e = e
  carried_in {n} (fixed {a = a} {s = s} {δ = δ} {δ' = δ'} d) c e = carried_here n a (string s) δ δ' c refl (λ q. carried_in d c q) e
  carried_in {n} (filled {a = a} {h = h} {δ = δ} {δ' = δ'} s t d) c e = carried_here n a (open_gap h) δ δ' c (some_string n h s t) (λ q. carried_in d c q) e
  carried_in {n} (dropped {a = a} {h = h} {δ = δ} t d) c e = carried_more n a (open_gap h) δ c (carried_in d c e)

  -- Each of those is carried by some filling, if there is one at all.
  abbrev Carrying : ℕ → List Attribute → ℕ → Type 0
  Carrying n δ c = (δ' : List Attribute) × AttributesDerive φs G n δ δ' × (is_in c (names δ') ≡ true)

  reached_carried : (n a : ℕ) (v : Value) (δ δ' : List Attribute) → AttributesDerive φs G n δ δ' → string_reaches G n v ≡ true
      → Carrying n (record { name = a; value = v } ∷ δ) a
  unfolding is_in
  reached_carried n a (string s) δ δ' d e = (record { name = a; value = string s } ∷ δ', fixed d, or_left (eqb a a) (is_in a (names δ')) (eqb_same a))
  reached_carried n a (open_gap h) δ δ' d e =
      let (s, below, q) = below_any (suc strings) (λ t. takes G n h (some t)) e in
      (record { name = a; value = string s } ∷ δ', filled s q d, or_left (eqb a a) (is_in a (names δ')) (eqb_same a))

  rest_carried : {n a h : ℕ} {δ : List Attribute} (s : ℕ) → takes G n h (some s) ≡ true → (c : ℕ) → Carrying n δ c
      → Carrying n (record { name = a; value = open_gap h } ∷ δ) c
  unfolding is_in
  rest_carried {a = a} s t c (δ', d, e) = (record { name = a; value = string s } ∷ δ', filled s t d, or_right (eqb c a) (is_in c (names δ')) e)

  fixed_carried : {n a s : ℕ} {δ : List Attribute} (c : ℕ) → Carrying n δ c → Carrying n (record { name = a; value = string s } ∷ δ) c
  unfolding is_in
  fixed_carried {a = a} {s = s} c (δ', d, e) = (record { name = a; value = string s } ∷ δ', fixed d, or_right (eqb c a) (is_in c (names δ')) e)

  dropped_carried : {n a h : ℕ} {δ : List Attribute} → takes G n h none ≡ true → (c : ℕ) → Carrying n δ c
      → Carrying n (record { name = a; value = open_gap h } ∷ δ) c
  dropped_carried t c (δ', d, e) = (δ', dropped t d, e)

  -- The first attribute is carried itself, or a later one is.
  or_later : (n a : ℕ) (v : Value) (δ δ' : List Attribute) (c : ℕ) → AttributesDerive φs G n δ δ'
      → (is_in c (carriable_names G n δ) ≡ true → Carrying n (record { name = a; value = v } ∷ δ) c)
      → is_in c (carriable_names G n (record { name = a; value = v } ∷ δ)) ≡ true → Carrying n (record { name = a; value = v } ∷ δ) c
  unfolding carriable_names is_in
  or_later n a v δ δ' c d later e = go (string_reaches G n v) refl e
    where
      go : (b : Bool) → string_reaches G n v ≡ b → is_in c (cond b (a ∷ carriable_names G n δ) (carriable_names G n δ)) ≡ true
          → Carrying n (record { name = a; value = v } ∷ δ) c
      go true r q = ⊎_elim
          (λ p. subst (Carrying n (record { name = a; value = v } ∷ δ)) (sym (eqb-true c a p)) (reached_carried n a v δ δ' d r))
          later
          (or_cases (eqb c a) (is_in c (carriable_names G n δ)) q)
      go false r q = later q

  pub carried_by : {n : ℕ} {δ δ₀ : List Attribute} → AttributesDerive φs G n δ δ₀ → (c : ℕ) → is_in c (carriable_names G n δ) ≡ true
      → (δ' : List Attribute) × AttributesDerive φs G n δ δ' × (is_in c (names δ') ≡ true)
  unfolding carriable_names is_in
  carried_by no_attribute c e = absurd (false≢true e)
  carried_by {n} (fixed {a = a} {s = s} {δ = δ} {δ' = δ'} d) c e = or_later n a (string s) δ δ' c d (λ q. fixed_carried c (carried_by d c q)) e
  carried_by {n} (filled {a = a} {h = h} {δ = δ} {δ' = δ'} s t d) c e = or_later n a (open_gap h) δ δ' c d (λ q. rest_carried s t c (carried_by d c q)) e
  carried_by {n} (dropped {a = a} {h = h} {δ = δ} {δ' = δ'} t d) c e = or_later n a (open_gap h) δ δ' c d (λ q. dropped_carried t c (carried_by d c q)) e

-- Filling the gaps of attributes adds no name, and leaves none that stands twice.
module _ (φs : List Items) (G : Summary) where
  names_among : {n : ℕ} {δ δ' : List Attribute} → AttributesDerive φs G n δ δ' → (c : ℕ) → is_in c (names δ) ≡ false → is_in c (names δ') ≡ false
  unfolding is_in
  names_among no_attribute c e = refl
  names_among (fixed {a = a} {δ = δ} {δ' = δ'} d) c e = let (other, rest) = or_neither (eqb c a) (is_in c (names δ)) e in neither (eqb c a) (is_in c (names δ')) other (names_among d c rest)
  names_among (filled {a = a} {δ = δ} {δ' = δ'} s t d) c e = let (other, rest) = or_neither (eqb c a) (is_in c (names δ)) e in neither (eqb c a) (is_in c (names δ')) other (names_among d c rest)
  names_among (dropped {a = a} {δ = δ} t d) c e = names_among d c (or_neither (eqb c a) (is_in c (names δ)) e).1

  pub derived_once : {n : ℕ} {δ δ' : List Attribute} → AttributesDerive φs G n δ δ' → Distinct (names δ) → Distinct (names δ')
  unfolding Distinct
  derived_once no_attribute u = u
  derived_once (fixed {a = a} d) (fresh, once) = (names_among d a fresh, derived_once d once)
  derived_once (filled {a = a} s t d) (fresh, once) = (names_among d a fresh, derived_once d once)
  derived_once (dropped t d) (fresh, once) = derived_once d once

-- The patterns that an attribute can have are those of absence and of the strings that it can take.
module _ (fs : List Fact) (a : ℕ) (can : Option ℕ → Bool) (x : ℕ) where
  abbrev pub Attained : Type 0
  Attained = ((can none ≡ true) × (x ≡ absence_pattern fs)) ⊎ ((s : ℕ) × (s ≤ strings) × (can (some s) ≡ true) × (x ≡ attribute_pattern fs a s))

  pub attained_taken : Attained → taken_patterns fs a can x ≡ true
  attained_taken (inl (t, e)) = or_left (absence_patterns fs can x) (string_patterns fs a can x) (and_both _ _ t (eq-eqb x (absence_pattern fs) e))
  attained_taken (inr (s, l, t, e)) = or_right (absence_patterns fs can x) (string_patterns fs a can x)
      (any_below_lem (suc strings) (λ s. can (some s) && only (attribute_pattern fs a s) x) s (omega arith) (and_both _ _ t (eq-eqb x (attribute_pattern fs a s) e)))

  pub taken_attained : taken_patterns fs a can x ≡ true → Attained
  taken_attained e = ⊎_elim
      (λ (q : absence_patterns fs can x ≡ true).
      inl (and_left (can none) (only (absence_pattern fs) x) q, eqb-true x (absence_pattern fs) (and_right (can none) (only (absence_pattern fs) x) q)))
      (λ (q : string_patterns fs a can x ≡ true).
      let (s, l, p) = below_any (suc strings) (λ s. can (some s) && only (attribute_pattern fs a s) x) q in
      inr (s, omega arith, and_left (can (some s)) (only (attribute_pattern fs a s) x) p, eqb-true x (attribute_pattern fs a s) (and_right (can (some s)) (only (attribute_pattern fs a s) x) p)))
      (or_cases (absence_patterns fs can x) (string_patterns fs a can x) e)
