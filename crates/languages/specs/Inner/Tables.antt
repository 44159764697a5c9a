-- Pattern sets as code keeps them (document 01, "for each template the set of fact patterns its contents can have"): four words for a
-- template, and for the walk over one template's items four for each of its gaps. The sets themselves, and what it means that they are
-- exact, are defined in `patterns`, Rounds and Exactness.
use Rattle.std.specs.Prelude.{ℕ, ◌≤◌, ◌<◌, ◌≡◌, List, [], true, ◌&&◌, length, get_or}
use Rattle.vocabularies.specs.Vocabulary.{Formula}
use Rattle.vocabularies.specs.Facts.{facts_of}
use Rattle.pages.specs.Items.{Items}
use Rattle.pages.specs.Inner.Gaps.{StartsAt}
use Rattle.summaries.specs.Proposal.{edge}
use Rattle.summaries.specs.Summaries.{Summary}
use Rattle.patterns.specs.Inner.Morphisms.{Morphism, fact_morphism, root_morphism}
use Rattle.patterns.specs.Inner.Given.{Bounded}
use Rattle.patterns.specs.Inner.Rounds.{Set, Sets, any_template}
use Rattle.pattern_sets.specs.Inner.PatternSets.{holds}
use Rattle.schemes.specs.declared.Scheme.{Scheme}
use Rattle.schemes.specs.Inner.Schemes.{StandsFor, Is}
use Rattle.graphs.specs.Inner.Graphs.{Keeps}
use Rattle.languages.specs.declared.Patterned.{Patterned}

-- The morphisms by which the check reads words: of the facts of a clause, and of the root.
pub data Used : Morphism → Type 0 where
  of_clause : (ψ : Formula) → Used (fact_morphism (facts_of ψ))
  of_root : (root : ℕ) → Used (root_morphism root)

-- The sets of all templates that are there.
abbrev pub SetsAre : List Items → Morphism → Sets → List (List ℕ) → Type 0
SetsAre φs M X sets = (n : ℕ) → n ≤ length φs → Is M (get_or sets n []) (X n)

-- What each gap of template n takes, from the sets of all templates.
abbrev pub GapSetsAre : List Items → Summary → Morphism → Sets → ℕ → List (List ℕ) → Type 0
GapSetsAre φs G M X n takes = (g : ℕ) → g < 8 → Is M (get_or takes g []) (λ x. any_template φs (λ m. G (edge n g m) && X m x))

-- What is lent for a graph: a scheme, and the graph as words.
pub record Lent (r : Scheme) (graph : List ℕ) (φs : List Items) (G : Summary) (M : Morphism) : Type 0 where
  pub used : Used M
  pub reads : StandsFor r M
  pub bounded : Bounded φs G
  pub keeps : Keeps graph G

-- What is lent for a show: a scheme, the graph as words, and where the items of each template stand in the bytes.
pub record Shown (r : Scheme) (s graph starts : List ℕ) (φs : List Items) (G : Summary) (M : Morphism) : Type 0 where
  pub lent : Lent r graph φs G M
  pub few : length φs < 32
  pub stand : StartsAt s φs starts

-- The set of what ends at an offset; where it has a pattern, the position is there.
pub record Has (M : Morphism) (A : Set) (end : ℕ) (p : Patterned) : Type 0 where
  pub is : Is M p.set A
  pub ends : (x : ℕ) → holds p.set x ≡ true → p.next.at ≡ end
