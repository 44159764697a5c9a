-- Schemes: morphisms of words as code keeps them, for the facts of a clause or for the root.
use Rattle.std.specs.Prelude.{ℕ, suc, ◌≤◌, ◌<◌, ◌≡◌, List, [], ◌∷◌, Bool, true, false, cond, length, get_or}
use Rattle.vocabularies.specs.Facts.{Fact, carried, present, ordered, valued, same_fact}
use Rattle.vocabularies.specs.VocabularyReading.{most_facts}
use Rattle.patterns.specs.Inner.Morphisms as Morphisms
use Rattle.patterns.specs.Inner.Morphisms.{fact_morphism, root_morphism}
use Rattle.patterns.specs.Inner.Rounds.{Set}
use Rattle.schemes.specs.declared.Scheme.{Scheme}
use Rattle.schemes.specs.declared.Scheme.TheVariants.{Root, Facts}
use Rattle.schemes.specs.declared.FactScheme.{FactScheme}
use Rattle.pattern_sets.specs.Inner.PatternSets.{holds}

-- No fact stands twice.
abbrev pub Distinct : List Fact → Type 0
Distinct fs = (i j : ℕ) → i < j → j < length fs → same_fact (get_or fs j (present 0)) (get_or fs i (present 0)) ≡ false

-- The place of a fact; the length where it is not there, at which no pattern has a flag.
unfoldable pub place_of : Fact → List Fact → ℕ
place_of f [] = 0
place_of f (g ∷ fs) = cond (same_fact f g) 0 (suc (place_of f fs))

-- The content whose presence a fact is. Contents are below 64, which stands where there is none.
abbrev pub no_content : ℕ
no_content = 64

abbrev pub content_of : Fact → ℕ
content_of (carried a) = no_content
content_of (present c) = c
content_of (ordered c d) = no_content
content_of (valued a m) = no_content

-- A pair is broken across two words if its second content stands in the first word and its first one in the second: the place of
-- the one or of the other. Other facts have none; there 8 stands, at which no pattern has a flag.
abbrev pub pair_place : Bool → List Fact → Fact → ℕ
pair_place in_first fs (carried a) = most_facts
pair_place in_first fs (present c) = most_facts
pair_place in_first fs (ordered c d) = place_of (present (cond in_first d c)) fs
pair_place in_first fs (valued a m) = most_facts

abbrev pub before_of : List Fact → Fact → ℕ
before_of = pair_place true

abbrev pub after_of : List Fact → Fact → ℕ
after_of = pair_place false

-- Eight numbers: one for each fact, and past the last fact the one that is given.
pub record Lists (of : Fact → ℕ) (none : ℕ) (numbers : List ℕ) (fs : List Fact) : Type 0 where
  pub stands : (i : ℕ) → i < length fs → get_or numbers i 0 ≡ of (get_or fs i (present 0))
  pub past : (i : ℕ) → length fs ≤ i → i < most_facts → get_or numbers i 0 ≡ none

-- The facts of a clause, as they are kept.
pub record KeptPlaces (p : FactScheme) (fs : List Fact) : Type 0 where
  pub few : length fs ≤ most_facts
  pub distinct : Distinct fs
  pub contents : Lists content_of no_content p.contents fs
  pub befores : Lists (before_of fs) most_facts p.befores fs
  pub afters : Lists (after_of fs) most_facts p.afters fs

pub record StandsForFacts (r : Scheme) (fs : List Fact) : Type 0 where
  pub places : FactScheme
  pub of_clause : r ≡ Facts places
  pub few : length fs ≤ most_facts
  pub kept : KeptPlaces places fs

-- The morphism that a scheme stands for.
pub data StandsFor (r : Scheme) : Morphisms.Morphism → Type 0 where
  of_facts : {fs : List Fact} → StandsForFacts r fs → StandsFor r (fact_morphism fs)
  of_root : {root : ℕ} → r ≡ Root root → StandsFor r (root_morphism root)

-- Words that hold just the patterns of a set.
pub record Is (R : Morphisms.Morphism) (words : List ℕ) (A : Set) : Type 0 where
  pub inside : (x : ℕ) → x < R.size → holds words x ≡ A x
  pub outside : (x : ℕ) → R.size ≤ x → holds words x ≡ false
