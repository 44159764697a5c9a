-- What the theorems ask of the graph, the templates and the vocabulary of a show. Every job of bytes that reads has it: reading refuses
-- templates that are not there, names and strings out of range, an attribute twice in one element; a set of strings has eight bytes; and
-- "any string" holds every string.
use Rattle.std.specs.Prelude.{ℕ, ◌≤◌, ◌<◌, ◌≡◌, List, Bool, true, false, length}
use Rattle.std.proofs.Math.Option.{some}
use Rattle.sets.specs.Sets.{member}
use Rattle.commands.specs.Commands.{strings}
use Rattle.vocabularies.specs.Vocabulary.{Formula, conj, disj, neg, truth, attr, content, order, value, Rule, Vocabulary, rule_of, Distinct}
use Rattle.pages.specs.Items.{Attribute, Items}
use Rattle.pages.specs.RightPages.{◌∈◌, names, SomeElement}
use Rattle.programs.specs.Program.{template_at}
use Rattle.summaries.specs.Proposal.{root, edge, string}
use Rattle.summaries.specs.Summaries.{Summary}

-- Roots and edges name templates that are there, and strings outside the named ones are not told apart.
pub record Bounded (φs : List Items) (G : Summary) : Type 0 where
  pub roots : (r : ℕ) → G (root r) ≡ true → r ≤ length φs
  pub edges : (n g m : ℕ) → G (edge n g m) ≡ true → m ≤ length φs
  pub others_alike : (n h s : ℕ) → strings ≤ s → G (string n h s) ≡ G (string n h strings)

-- Contents are 0 to 63.
abbrev pub contents : ℕ
contents = 64

-- Every element of a template is among them.
abbrev pub NamesInRange : List Items → Type 0
NamesInRange φs = (n c : ℕ) → SomeElement (λ e mark δ φ. e ≡ c) (template_at φs n) → c < contents

-- Elements are in range and have a rule, and none has an attribute twice.
pub record SoundTemplates (ruled : ℕ → Bool) (φs : List Items) : Type 0 where
  pub is_in_range : NamesInRange φs
  pub have_rules : (n c : ℕ) → SomeElement (λ e mark δ φ. e ≡ c) (template_at φs n) → ruled c ≡ true
  pub once : (n : ℕ) (δ : List Attribute) → SomeElement (λ e mark ε φ. ε ≡ δ) (template_at φs n) → Distinct (names δ)

-- The sets of a clause hold named strings alone.
abbrev pub NamedOnly : Formula → Type 0
NamedOnly (conj ψ₁ ψ₂) = NamedOnly ψ₁ × NamedOnly ψ₂
NamedOnly (disj ψ₁ ψ₂) = NamedOnly ψ₁ × NamedOnly ψ₂
NamedOnly (neg ψ) = NamedOnly ψ
NamedOnly truth = Unit {0}
NamedOnly (attr a) = Unit {0}
NamedOnly (content c) = Unit {0}
NamedOnly (order c d) = Unit {0}
NamedOnly (value a m) = (s : ℕ) → strings ≤ s → member m s ≡ false

-- The root is no text, and no clause has other sets.
pub record SoundVocabulary (D : Vocabulary) : Type 0 where
  pub root_element : D.root ≡ 0 → ⊥
  pub named_only : (e : ℕ) (r : Rule) (ψ : Formula) → rule_of D.rules e ≡ some r → ψ ∈ r.clauses → NamedOnly ψ
