-- Which vocabularies, pages and templates have all their parts in range (document 01, "A job, command by command", Vocabulary, Templates and
-- the last paragraph; "Verdicts", 5, 8 and Judge a page; document 02, F-2, for `29`). The numbers here are the document's own, not those of
-- the definitions that read, but for the number of named strings, 64.
use Rattle.std.specs.Prelude.{ℕ, suc, ◌+◌, ◌^◌, ◌≤◌, ◌<◌, max, ◌≡◌, List, [], ◌∷◌, map, Bool, true, length}
use Rattle.vocabularies.specs.Vocabulary.{Formula, conj, disj, neg, truth, attr, content, order, value, Rule, Vocabulary, declared}
unfoldable pub use Rattle.vocabularies.specs.Vocabulary.{Distinct}
use Rattle.vocabularies.specs.Facts.{facts_of}
use Rattle.commands.specs.Commands.{strings}
use Rattle.pages.specs.declared.Kind.{Kind}
use Rattle.pages.specs.declared.Kind.TheVariants.{Template, Page}
use Rattle.pages.specs.Items.{Value, string, open_gap, Attribute, Item, text, blank, gap, element, Items, none, more}

-- Numbers from `least` to `most`, rising strictly.
unfoldable pub Rising : ℕ → ℕ → List ℕ → Type 0
Rising least most [] = Unit {0}
Rising least most (n ∷ ns) = (least ≤ n) × (n ≤ most) × Rising (n + 1) most ns

abbrev pub IsElement : ℕ → Type 0
IsElement e = (1 ≤ e) × (e ≤ 63)

-- How many of `10` to `12` stand above one another.
unfoldable pub connective_depth : Formula → ℕ
connective_depth (conj ψ₁ ψ₂) = suc (max (connective_depth ψ₁) (connective_depth ψ₂))
connective_depth (disj ψ₁ ψ₂) = suc (max (connective_depth ψ₁) (connective_depth ψ₂))
connective_depth (neg ψ) = suc (connective_depth ψ)
connective_depth truth = 0
connective_depth (attr a) = 0
connective_depth (content c) = 0
connective_depth (order c d) = 0
connective_depth (value a m) = 0

unfoldable pub NamesInRange : Formula → Type 0
NamesInRange (conj ψ₁ ψ₂) = NamesInRange ψ₁ × NamesInRange ψ₂
NamesInRange (disj ψ₁ ψ₂) = NamesInRange ψ₁ × NamesInRange ψ₂
NamesInRange (neg ψ) = NamesInRange ψ
NamesInRange truth = Unit {0}
NamesInRange (attr a) = a ≤ 31
NamesInRange (content c) = c ≤ 63
NamesInRange (order c d) = (c ≤ 63) × (d ≤ 63)
NamesInRange (value a m) = (a ≤ 31) × (0 < m) × (m < 2 ^ strings)

pub record ClauseInRange (ψ : Formula) : Type 0 where
  pub names : NamesInRange ψ
  pub nesting : connective_depth ψ ≤ 16
  pub facts : length (facts_of ψ) ≤ 8

unfoldable pub ClausesInRange : List Formula → Type 0
ClausesInRange [] = Unit {0}
ClausesInRange (ψ ∷ ψs) = ClauseInRange ψ × ClausesInRange ψs

pub record RuleInRange (r : Rule) : Type 0 where
  pub element : IsElement r.element
  pub attributes : Rising 0 31 r.attributes
  pub contents : Rising 0 63 r.contents
  pub clauses : ClausesInRange r.clauses

unfoldable pub RulesInRange : List Rule → Type 0
RulesInRange [] = Unit {0}
RulesInRange (r ∷ rs) = RuleInRange r × RulesInRange rs

-- No rule is given twice, and the root has one.
pub record VocabularyInRange (D : Vocabulary) : Type 0 where
  pub rules : RulesInRange D.rules
  pub once : Distinct (map (λ r. r.element) D.rules)
  pub root : declared D.rules D.root ≡ true

-- A named string; in a template an attribute gap too, in a page the number 64, which is taken for all other strings.
abbrev pub ValueInRange : Kind → Value → Type 0
ValueInRange Template (string s) = s < strings
ValueInRange Template (open_gap h) = h ≤ 7
ValueInRange Page (string s) = s ≤ strings
ValueInRange Page (open_gap h) = ⊥

unfoldable pub AttributesInRange : Kind → List Attribute → Type 0
AttributesInRange k [] = Unit {0}
AttributesInRange k (a ∷ δ) = (a.name ≤ 31) × ValueInRange k a.value × AttributesInRange k δ

-- A gap stands in templates alone.
abbrev pub GapInRange : Kind → ℕ → Type 0
GapInRange Template g = g ≤ 7
GapInRange Page g = ⊥

-- How many elements stand above one another,
unfoldable mutual
  pub element_depth : Items → ℕ
  element_depth none = 0
  element_depth (more i φ) = max (element_depth_of i) (element_depth φ)

  pub element_depth_of : Item → ℕ
  element_depth_of text = 0
  element_depth_of blank = 0
  element_depth_of (gap g) = 0
  element_depth_of (element e mark δ φ) = suc (element_depth φ)

-- and how many may.
abbrev pub deepest : Kind → ℕ
deepest Template = 16
deepest Page = 1024

-- Each element in range and among those that have a rule, none of its attributes twice.
unfoldable mutual
  unfolding AttributesInRange Distinct

  pub ItemsInRange : Kind → (ℕ → Bool) → Items → Type 0
  ItemsInRange k ruled none = Unit {0}
  ItemsInRange k ruled (more i φ) = ItemInRange k ruled i × ItemsInRange k ruled φ

  pub ItemInRange : Kind → (ℕ → Bool) → Item → Type 0
  ItemInRange k ruled text = Unit {0}
  ItemInRange k ruled blank = Unit {0}
  ItemInRange k ruled (gap g) = GapInRange k g
  ItemInRange k ruled (element e mark δ φ) =
      IsElement e × (ruled e ≡ true) × AttributesInRange k δ × Distinct (map (λ a. a.name) δ) × ItemsInRange k ruled φ

-- A page, or a template.
pub record TreeInRange (k : Kind) (D : Vocabulary) (φ : Items) : Type 0 where
  pub items : ItemsInRange k (declared D.rules) φ
  pub nesting : element_depth φ ≤ deepest k

abbrev pub PageInRange : Vocabulary → Items → Type 0
PageInRange D φ = TreeInRange Page D φ

-- Each number is a byte: what the laws ask of the bytes that are read.
unfoldable pub Bytes : List ℕ → Type 0
Bytes [] = Unit {0}
Bytes (b ∷ w) = (b < 256) × Bytes w
