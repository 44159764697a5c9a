-- Right pages: the acceptance relation and the language of source 000, section 6, and document 01's "exactly one element, the root", beside
-- which blank text may stand (document 02, F-2). Then what is wrong with an element, and which of 12, 14 and 15 it gets (document 02, F-6).
-- The relation is written as functions into types, records and data types; how it is decided is another matter.
use Rattle.std.specs.Prelude.{ℕ, ◌≤◌, ◌<◌, ◌≡◌, ◌⊎◌, true, false, length, get_or}
use mathlib.Core.List.{List, [], ◌∷◌, map, Memᴰ}
use Rattle.std.proofs.Math.Option.{some}
use Rattle.sets.specs.Sets.{member}
use Rattle.verdicts.specs.declared.Breach.{Breach}
use Rattle.verdicts.specs.declared.Breach.TheVariants.{Content, Clause}
use Rattle.verdicts.specs.declared.Breach.TheVariants as Breaches
use Rattle.vocabularies.specs.Vocabulary.{Formula, conj, disj, neg, truth, attr, content, order, value, Rule, Vocabulary, rule_of}
use Rattle.pages.specs.Items.{string, Attribute, Item, text, blank, gap, element, Items, none, more, one, without_blank, gap_in, attribute_gap_in}

abbrev pub ◌∈◌ : {A : Type 0} → A → List A → Type 0
◌∈◌ a l = Memᴰ a l

infix 30 ◌∈◌
-- names(δ); atts(δ) is the list δ itself, whose members are the pairs of a name and a value.
abbrev pub names : List Attribute → List ℕ
names δ = map (λ a. a.name) δ

-- word(φ): the contents in their order, 0 for character data, and nothing for blank text. set(φ) has the members of word(φ): the two
-- have the same equations.
unfoldable pub word_item : Item → List ℕ → List ℕ
word_item text w = 0 ∷ w
word_item blank w = w
word_item (gap g) w = w
word_item (element e mark δ φ) w = e ∷ w

unfoldable pub word : Items → List ℕ
unfolding word_item
word none = []
word (more i φ) = word_item i (word φ)

-- exists(w₁…w_k, c) and before(w₁…w_k, c₁, c₂), counted from 0.
abbrev pub Exists : List ℕ → ℕ → Type 0
Exists w c = (i : ℕ) × (i < length w) × (get_or w i 0 ≡ c)

abbrev pub Before : List ℕ → ℕ → ℕ → Type 0
Before w c₁ c₂ = (i j : ℕ) → i < length w → j < length w → get_or w i 0 ≡ c₁ → get_or w j 0 ≡ c₂ → i ≤ j

-- D, δ, φ ⊨ ψ, in the order of the grammar of Ψ; no rule looks at D. The strings of `value` are those whose bit is set.
unfoldable pub Meets : List Attribute → Items → Formula → Type 0
unfolding word
Meets δ φ (conj ψ₁ ψ₂) = Meets δ φ ψ₁ × Meets δ φ ψ₂
Meets δ φ (disj ψ₁ ψ₂) = Meets δ φ ψ₁ ⊎ Meets δ φ ψ₂
Meets δ φ (neg ψ) = Meets δ φ ψ → ⊥
Meets δ φ truth = Unit {0}
Meets δ φ (attr a) = a ∈ names δ
Meets δ φ (content c) = Exists (word φ) c
Meets δ φ (order c₁ c₂) = Before (word φ) c₁ c₂
Meets δ φ (value a m) = (a ∈ names δ → ⊥) ⊎ ((s : ℕ) × (record { name = a; value = string s } ∈ δ) × (member m s ≡ true))

-- What section 6 asks of an element e(δ)φ besides D ⊨ φ. 𝓕(e) is the conjunction of the rule's clauses.
pub record ElementRight (D : Vocabulary) (e : ℕ) (δ : List Attribute) (φ : Items) : Type 0 where
  pub rule : Rule
  pub declares : rule_of D.rules e ≡ some rule
  pub attributes : (a : ℕ) → a ∈ names δ → a ∈ rule.attributes
  pub contents : (c : ℕ) → c ∈ word φ → c ∈ rule.contents
  pub clauses : (ψ : Formula) → ψ ∈ rule.clauses → Meets δ φ ψ

-- D ⊨ φ. Section 6 has no rule for a gap: a page has no gap left, and none is accepted. Nor has it one for blank text, which is accepted
-- as text is.
unfoldable mutual
  pub Accepts : Vocabulary → Items → Type 0
  Accepts D none = Unit {0}
  Accepts D (more i φ) = AcceptsItem D i × Accepts D φ

  pub AcceptsItem : Vocabulary → Item → Type 0
  AcceptsItem D text = Unit {0}
  AcceptsItem D blank = Unit {0}
  AcceptsItem D (gap g) = ⊥
  AcceptsItem D (element e mark δ φ) = ElementRight D e δ φ × Accepts D φ

-- Exactly one element, the root, blank text left out (document 02, F-2: it counts as no content beside the root).
abbrev pub RootAlone : Vocabulary → Items → Type 0
RootAlone D φ = (mark : ℕ) × (δ : List Attribute) × (contents : Items) × (without_blank φ ≡ one (element D.root mark δ contents))

-- gaps(φ) = ∅, at any depth, of gaps and of attribute gaps.
pub record Gapless (φ : Items) : Type 0 where
  pub gaps : (g : ℕ) → gap_in φ g ≡ false
  pub attribute_gaps : (h : ℕ) → attribute_gap_in φ h ≡ false

-- 𝓛(D): the root element alone, but for blank text, accepted, with no gap left, in the root's own attributes as well, of which section 6's
-- formula says nothing.
pub record Right (D : Vocabulary) (φ : Items) : Type 0 where
  pub alone : RootAlone D φ
  pub accepted : Accepts D φ
  pub gapless : Gapless φ

-- Some element of the items, at any depth, is as P says.
unfoldable mutual
  pub SomeElement : (ℕ → ℕ → List Attribute → Items → Type 0) → Items → Type 0
  SomeElement P none = ⊥
  SomeElement P (more i φ) = SomeElementOf P i ⊎ SomeElement P φ

  pub SomeElementOf : (ℕ → ℕ → List Attribute → Items → Type 0) → Item → Type 0
  SomeElementOf P text = ⊥
  SomeElementOf P blank = ⊥
  SomeElementOf P (gap g) = ⊥
  SomeElementOf P (element e mark δ φ) = P e mark δ φ ⊎ SomeElement P φ

-- The element e(δ)φ is wrong, document 01's word for one that fails what section 6 asks of it besides D ⊨ φ, by what it breaks of its rule:
-- it has an attribute a, or a content c, that the rule does not allow; it does not meet the clause at this place, from 0. An element
-- without a rule is not read (8); one that has a rule is wrong exactly if it is not `ElementRight` (`wrong_iff`, agreement).
pub data ElementWrong (D : Vocabulary) (e : ℕ) (δ : List Attribute) (φ : Items) : Breach → Type 0 where
  attribute_not_allowed : {rule : Rule} (a : ℕ) → rule_of D.rules e ≡ some rule → a ∈ names δ → (a ∈ rule.attributes → ⊥)
      → ElementWrong D e δ φ Breaches.Attribute
  content_not_allowed : {rule : Rule} (c : ℕ) → rule_of D.rules e ≡ some rule → c ∈ word φ → (c ∈ rule.contents → ⊥)
      → ElementWrong D e δ φ Content
  clause_not_met : {rule : Rule} (i : ℕ) → rule_of D.rules e ≡ some rule → i < length rule.clauses
      → (Meets δ φ (get_or rule.clauses i truth) → ⊥) → ElementWrong D e δ φ (Clause i)

-- An element with this mark stands in the page and is wrong there, by this breach.
unfoldable pub WrongAt : Vocabulary → ℕ → Items → Breach → Type 0
unfolding SomeElement
WrongAt D mark φ b = SomeElement (λ e m δ contents. (m ≡ mark) × ElementWrong D e δ contents b) φ

-- The breach that is told of an element, W saying which there are of it in some page (document 02, F-6): "12, it carries an attribute, in
-- some page, that isn't allowed; 14, otherwise, some page gives it a content that isn't allowed; 15, otherwise, a clause fails in some
-- page", and of the clauses "the lowest failing one".
pub data FirstBreach (W : Breach → Type 0) : Breach → Type 0 where
  an_attribute : W Breaches.Attribute → FirstBreach W Breaches.Attribute
  a_content : W Content → (W Breaches.Attribute → ⊥) → FirstBreach W Content
  a_clause : {i : ℕ} → W (Clause i) → (W Breaches.Attribute → ⊥) → (W Content → ⊥) → ((j : ℕ) → W (Clause j) → i ≤ j)
      → FirstBreach W (Clause i)
