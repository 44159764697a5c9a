-- Reading ends: no part that is read from an offset with a fuel that is enough runs out of it, whatever the bytes are. A part that is
-- read whole ends behind its first offset, or at it where it may be empty.
use Prim.Native.Nat.{ℕ, zero, suc, ◌+◌, ◌-◌, ◌≤◌, ◌<◌}
use native.Mathlib.Omega.{arith}
use mathlib.Core.Path.{◌≡◌, refl}
use mathlib.Core.List.{List, [], ◌∷◌, ◌++◌}
use mathlib.Core.Bool.{Bool}
use lib.ListN.{length}
use lib.Dec.{leb, ltb, eqb}
use borrow.Author.Tests.{eqb-true}
use Rattle.commands.specs.declared.Context.{Context}
use Rattle.commands.specs.declared.Context.TheVariants.{Rules, Attributes, Contents, Formulas, Templates}
use Rattle.commands.specs.Commands.{byte, allowed}
use Rattle.commands.specs.Reading.{Read, unfinished, enough}
use Rattle.commands.specs.Inner.Parts.{Enough}
use Rattle.vocabularies.specs.Vocabulary.{Formula, Rule, Vocabulary, declared, is_in}
use Rattle.vocabularies.specs.Facts.{facts_of}
use Rattle.vocabularies.specs.VocabularyReading.{Shape, binary, unary, leaf, shape_at, formula_nesting, most_facts, formula, rising, clauses, rule_body, rules, vocabulary, vocabulary_slice}
use Rattle.pages.specs.declared.Kind.{Kind}
use Rattle.pages.specs.declared.Kind.TheVariants.{Template, Page}
use Rattle.pages.specs.ItemReading.{item_context, attribute_context, nesting, attributes, end_of, items, item, page_slice, most_templates, templates}
use Rattle.agreement.proofs.Readings.{Gives, gives, refuses, gives_command, gives_when, gives_then, gives_map, runs, byte_there, gives_alone}

-- A reading from an offset that ends, behind the offset or not before it.
abbrev pub EndsPast : {A : Type 0} → ℕ → Read A → Type 0
EndsPast {A} at r = Gives ⊥ (λ (a : A) end. at < end) r

abbrev pub EndsFrom : {A : Type 0} → ℕ → Read A → Type 0
EndsFrom {A} at r = Gives ⊥ (λ (a : A) end. at ≤ end) r

shape_cases : {G : Type 0} (sh : Shape) → ((two : Formula → Formula → Formula) → sh ≡ binary two → G)
    → ((one : Formula → Formula) → sh ≡ unary one → G) → ((ψ : Formula) → sh ≡ leaf ψ → G) → G
shape_cases (binary two) h k l = h two refl
shape_cases (unary one) h k l = k one refl
shape_cases (leaf ψ) h k l = l ψ refl

module _ (s : List ℕ) where
  pub formula_ends : (f depth at : ℕ) → length s - at < f → EndsPast at (formula f s depth at)
  unfolding formula
  formula_ends zero depth at h = absurd (omega arith)
  formula_ends (suc f) depth at h = gives_command Formulas s at λ code next t. shape_cases (shape_at s at code)
      (λ two e. rw e (gives_when (ltb depth formula_nesting)
      (λ _ _. gives_then (formula_ends f (depth + 1) next (omega arith)) λ ψ₁ middle m.
      gives_then (formula_ends f (depth + 1) middle (omega arith)) λ ψ₂ end n. gives (omega arith))
      (λ _ _. refuses)))
      (λ one e. rw e (gives_when (ltb depth formula_nesting)
      (λ _ _. gives_then (formula_ends f (depth + 1) next (omega arith)) λ ψ end m. gives (omega arith))
      (λ _ _. refuses)))
      (λ ψ e. let past : at < next = omega arith in rw e (gives past))

  pub rising_ends : (f : ℕ) (x : Context) (least at : ℕ) → length s - at < f → EndsFrom at (rising f x s least at)
  unfolding rising
  rising_ends zero x least at h = absurd (omega arith)
  rising_ends (suc f) x least at h = gives_when (allowed x (byte s at))
      (λ _ _. gives_command x s at λ code next t. gives_when (leb least (byte s (at + 1)))
      (λ _ _. gives_then (rising_ends f x (byte s (at + 1) + 1) next (omega arith)) λ ns end m. gives (omega arith))
      (λ _ _. refuses))
      (λ _ _. gives (omega arith))

  pub clauses_end : (f at : ℕ) → length s - at < f → EndsFrom at (clauses f s at)
  unfolding clauses
  clauses_end zero at h = absurd (omega arith)
  clauses_end (suc f) at h = gives_when (eqb (byte s at) 0x04)
      (λ _ e. let there : at < length s = byte_there s at 3 (eqb-true _ _ e) in
      gives_then (formula_ends f 0 (at + 1) (omega arith)) λ ψ next m. gives_when (leb (length (facts_of ψ)) most_facts)
      (λ _ _. gives_then (clauses_end f next (omega arith)) λ ψs end n. gives (omega arith))
      (λ _ _. refuses))
      (λ _ _. gives (omega arith))

  rule_ends : (f e at : ℕ) → length s - at < f → EndsFrom at (rule_body f s e at)
  rule_ends f e at h =
      gives_then (rising_ends f Attributes 0 at h) λ names next m.
      gives_then (rising_ends f Contents 0 next (omega arith)) λ cs next' m'.
      gives_then (clauses_end f next' (omega arith)) λ ψs end n. gives (omega arith)

  pub rules_end : (f : ℕ) (before : List Rule) (at : ℕ) → length s - at < f → EndsPast at (rules f s before at)
  unfolding rules
  rules_end zero before at h = absurd (omega arith)
  rules_end (suc f) before at h = gives_command Rules s at λ code next t. gives_when (eqb code 0x05)
      (λ _ _. gives_when (declared before (byte s (at + 1)))
      (λ _ _. gives (omega arith))
      (λ _ _. refuses))
      (λ _ _. gives_when (declared before (byte s (at + 1)))
      (λ _ _. refuses)
      (λ _ _. gives_then (rule_ends f (byte s (at + 1)) next (omega arith)) λ r end m.
      gives_map (λ D end' n. omega arith) (rules_end f (before ++ (r ∷ [])) end (omega arith))))

  pub vocabulary_ends : EndsPast 0 (vocabulary s)
  unfolding vocabulary
  vocabulary_ends = rules_end (enough s) [] 0 (omega arith)

-- The bytes of a vocabulary are read to an end.
pub vocabulary_slice_ends : (v : List ℕ) → vocabulary_slice v ≡ unfinished → ⊥
unfolding vocabulary_slice
vocabulary_slice_ends v = runs (gives_alone v (vocabulary_ends v))

module _ (k : Kind) (s : List ℕ) where
  pub attributes_end : (f : ℕ) (before : List ℕ) (at : ℕ) → length s - at < f → EndsFrom at (attributes f k s before at)
  unfolding attributes
  attributes_end zero before at h = absurd (omega arith)
  attributes_end (suc f) before at h = gives_when (allowed (attribute_context k) (byte s at))
      (λ _ _. gives_command (attribute_context k) s at λ code next t. gives_when (is_in (byte s (at + 1)) before)
      (λ _ _. refuses)
      (λ _ _. gives_then (attributes_end f (byte s (at + 1) ∷ before) next (omega arith)) λ δ end m. gives (omega arith)))
      (λ _ _. gives (omega arith))

module _ (k : Kind) (ruled : ℕ → Bool) (s : List ℕ) where
  mutual
    unfolding items

    pub items_end : (f depth at : ℕ) → Enough s at f → EndsPast at (items f k ruled s depth at)
    items_end zero depth at h = absurd (omega arith)
    items_end (suc f) depth at h = gives_when (eqb (byte s at) (end_of depth))
        (λ _ _. gives (omega arith))
        (λ _ _. gives_then (item_ends f depth at (omega arith)) λ i next m.
        gives_then (items_end f depth next (omega arith)) λ φ end n. gives (omega arith))

    -- An item takes a command, so it begins within the bytes.
    pub item_ends : (f depth at : ℕ) → (length s - at) + (length s - at) < f
        → Gives ⊥ (λ i end. (at < length s) × (at < end)) (item f k ruled s depth at)
    item_ends zero depth at h = absurd (omega arith)
    item_ends (suc f) depth at h = gives_command (item_context k) s at λ code next t. gives_when (eqb code 0x23)
        (λ _ _. gives_when (ruled (byte s (at + 1)))
        (λ _ _. gives_when (ltb depth (nesting k))
        (λ _ _. gives_then (attributes_end k s f [] next (omega arith)) λ δ inside m.
        gives_then (items_end f (depth + 1) inside (omega arith)) λ φ end n. gives (omega arith))
        (λ _ _. refuses))
        (λ _ _. refuses))
        (λ _ _. gives (omega arith))

module _ (ruled : ℕ → Bool) (s : List ℕ) where
  pub templates_end : (f count at : ℕ) → Enough s at f → EndsPast at (templates f ruled s count at)
  unfolding templates
  templates_end zero count at h = absurd (omega arith)
  templates_end (suc f) count at h = gives_command Templates s at λ code next t. gives_when (eqb code 0x2F)
      (λ _ _. gives (omega arith))
      (λ _ _. gives_when (ltb count most_templates)
      (λ _ _. gives_then (items_end Template ruled s f 0 next (omega arith)) λ φ after m.
      gives_then (templates_end f (count + 1) after (omega arith)) λ φs end n. gives (omega arith))
      (λ _ _. refuses))

-- The bytes of a page are read to an end.
pub page_slice_ends : (D : Vocabulary) (p : List ℕ) → page_slice D p ≡ unfinished → ⊥
unfolding page_slice
page_slice_ends D p = runs (gives_alone p (items_end Page (declared D.rules) p (enough p) 0 0 (omega arith)))
