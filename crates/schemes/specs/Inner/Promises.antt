-- What the code over schemes promises, for each morphism that a scheme stands for.
use Rattle.std.specs.Prelude.{ℕ, ◌≤◌, ◌<◌, ◌≡◌, List, [], ◌∷◌, Bool, true, false, ◌⊎◌, length, get_or, Option, Some, None, IfSome}
use Rattle.vocabularies.specs.declared.Facts.{Facts}
use Rattle.vocabularies.specs.Facts.{Fact, present}
use Rattle.vocabularies.specs.VocabularyReading.{most_facts}
use Rattle.vocabularies.specs.Inner.Promises.{Represents}
use Rattle.patterns.specs.Inner.Morphisms as Morphisms
use Rattle.patterns.specs.Inner.Rounds.{Set, only, product}
use Rattle.schemes.specs.declared.Scheme.{Scheme}
use Rattle.pattern_sets.specs.Inner.PatternSets.{holds}
use Rattle.schemes.specs.Inner.Schemes.{Distinct, place_of, pair_place, StandsForFacts, StandsFor, Is}

-- Of every list of at most eight facts that the table keeps.
abbrev pub OfFacts : Facts → (List Fact → Type 0) → Type 0
OfFacts t P = (fs : List Fact) → Represents t fs → length fs ≤ most_facts → P fs

-- By the answer: the place of a fact; or it is not there.
abbrev pub IsPlace : Fact → List Fact → Option ℕ → Type 0
IsPlace x fs (Some i) = (i < length fs) × (i ≡ place_of x fs)
IsPlace x fs None = place_of x fs ≡ length fs

-- A place is below 8, whatever the table has.
pub record Places (t : Facts) (x : Fact) (r : Option ℕ) : Type 0 where
  pub within : IfSome r (λ i. i < most_facts)
  pub place : OfFacts t (λ fs. IsPlace x fs r)

abbrev pub PlacesContent : Facts → ℕ → ℕ → Type 0
PlacesContent t c r = OfFacts t (λ fs. r ≡ place_of (present c) fs)

abbrev pub PlacesPair : Bool → Facts → Fact → ℕ → Type 0
PlacesPair in_first t x r = OfFacts t (λ fs. r ≡ pair_place in_first fs x)

abbrev pub KeepsFacts : Facts → Scheme → Type 0
KeepsFacts t r = OfFacts t (λ fs. Distinct fs → StandsForFacts r fs)

-- The first place of a content.
pub record FirstAt (contents : List ℕ) (c i : ℕ) : Type 0 where
  pub within : i < most_facts
  pub found : get_or contents i 0 ≡ c
  pub first : (j : ℕ) → j < i → get_or contents j 0 ≡ c → ⊥

-- By the answer: that place; or the content has none.
abbrev pub FirstPlace : List ℕ → ℕ → Option ℕ → Type 0
FirstPlace contents c (Some i) = FirstAt contents c i
FirstPlace contents c None = (j : ℕ) → j < most_facts → get_or contents j 0 ≡ c → ⊥

-- Of every morphism that a scheme stands for.
abbrev pub OfScheme : Scheme → (Morphisms.Morphism → Type 0) → Type 0
OfScheme r P = (R : Morphisms.Morphism) → StandsFor r R → P R

-- The pattern of a word of one content.
abbrev pub PatternOfOne : Scheme → ℕ → ℕ → Type 0
PatternOfOne r c p = OfScheme r (λ R. p ≡ R.of (c ∷ []))

-- Every pattern of the set is one of the morphism's.
abbrev pub Below : Morphisms.Morphism → List ℕ → Type 0
Below R words = (x : ℕ) → holds words x ≡ true → x < R.size

-- By the answer: some pattern is not 0; or all are.
abbrev pub HasMore : List ℕ → Bool → Type 0
HasMore set true = (x : ℕ) × (holds set x ≡ true) × (x ≡ 0 → ⊥)
HasMore set false = (x : ℕ) → holds set x ≡ true → x ≡ 0

abbrev pub BothHaveMore : List ℕ → List ℕ → Bool → Type 0
BothHaveMore a b true = HasMore a true × HasMore b true
BothHaveMore a b false = HasMore a false ⊎ HasMore b false

abbrev pub Multiplies : Scheme → List ℕ → List ℕ → List ℕ → Type 0
Multiplies r a b words = OfScheme r (λ R. (A B : Set) → Is R a A → Is R b B → Is R words (product R A B))

-- The product of a set and of the words of one pattern.
abbrev pub Follows : Scheme → List ℕ → ℕ → List ℕ → Type 0
Follows r a p words = OfScheme r (λ R. (A : Set) → Is R a A → p < R.size → Is R words (product R A (only p)))
