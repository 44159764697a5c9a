-- What the code over clauses promises, for the facts that a table keeps.
use Rattle.std.specs.Prelude.{ℕ, ◌^◌, ◌<◌, ◌≡◌, List, [], ◌∷◌, Bool, true, false, not, ◌&&◌, ◌⊎◌, length, eqb}
use Rattle.std.proofs.Math.Option.{Option}
use Rattle.sets.specs.Sets.{member}
use Rattle.sets.specs.Inner.Promises.{word_size}
use Rattle.strings.specs.declared.StringSet.{StringSet}
use Rattle.strings.specs.declared.AttributeValues.{AttributeValues}
use Rattle.strings.specs.Strings.{strings}
use Rattle.strings.specs.Inner.Promises.{has_string, can_take}
use Rattle.commands.specs.Reading.{whole}
use Rattle.vocabularies.specs.declared.Facts.{Facts}
use Rattle.vocabularies.specs.Vocabulary.{Formula}
use Rattle.vocabularies.specs.VocabularyReading.{formula}
use Rattle.vocabularies.specs.Facts.{Fact}
use Rattle.pages.specs.Items.{string, Attribute}
use Rattle.judging.specs.Inner.Judgement.{truth_of}
use Rattle.judging.specs.Inner.Promises.{Holds}
use Rattle.patterns.specs.Inner.Patterns.{flagged, flag_in, atoms_by}
use Rattle.patterns.specs.Inner.Morphisms.{fact_morphism}
use Rattle.patterns.specs.Inner.Rounds.{Set, any_below}
use Rattle.patterns.specs.Inner.Elements.{attribute_pattern, taken_patterns}
use Rattle.pattern_sets.specs.Inner.PatternSets.{holds}
use Rattle.schemes.specs.Inner.Schemes.{Is}
use Rattle.schemes.specs.Inner.Promises.{OfFacts}
use Rattle.clauses.specs.declared.Truths.{Truths}
use Rattle.clauses.specs.declared.Tested.{Tested}

-- Attribute a with string s alone.
abbrev pub alone : ℕ → ℕ → List Attribute
alone a s = record { name = a; value = string s } ∷ []

-- Strings that are both in the set, or both outside, have the same flag of a fact.
abbrev pub TellsApart : Fact → ℕ → StringSet → Type 0
TellsApart f a set = (s k : ℕ) → has_string set k ≡ has_string set s → flagged (alone a k) [] f ≡ flagged (alone a s) [] f

abbrev pub IsPattern : Facts → ℕ → ℕ → ℕ → Type 0
IsPattern t a s p = OfFacts t (λ fs. p ≡ attribute_pattern fs a s)

-- At least these names, and a, if it is below 64.
pub record WithName (names a r : ℕ) : Type 0 where
  pub keeps : (k : ℕ) → member r k ≡ false → member names k ≡ false
  pub others : (k : ℕ) → k < word_size → member r k ≡ false → eqb k a ≡ false

-- Names with that of the attribute that a fact is about: any other attribute has no flag of the fact.
pub record WithAttribute (names : ℕ) (x : Fact) (r : ℕ) : Type 0 where
  pub keeps : (a : ℕ) → member r a ≡ false → member names a ≡ false
  pub others : (a s : ℕ) → a < word_size → member r a ≡ false → flagged (alone a s) [] x ≡ false

-- An attribute that is not among the names has no flag with any string.
abbrev pub AttributesOf : Facts → ℕ → Type 0
AttributesOf t r = OfFacts t (λ fs. (a s : ℕ) → a < word_size → member r a ≡ false → attribute_pattern fs a s ≡ 0)

-- Whether a flag is the given one.
abbrev pub agree : Bool → Bool → Bool
agree true b = b
agree false b = not b

-- Strings with the pattern of s, and s among them.
pub record Alike (t : Facts) (a s : ℕ) (set : StringSet) : Type 0 where
  pub itself : OfFacts t (λ fs. s < strings → has_string set s ≡ true)
  pub patterns : OfFacts t (λ fs. (k : ℕ) → has_string set k ≡ true → attribute_pattern fs a k ≡ attribute_pattern fs a s)

-- A set with the patterns over some strings.
pub record WithPatterns (fs : List Fact) (set : List ℕ) (a : ℕ) (named : StringSet) (r : List ℕ) : Type 0 where
  pub keeps : (x : ℕ) → holds set x ≡ true → holds r x ≡ true
  pub complete : (s : ℕ) → s < strings → has_string named s ≡ true → holds r (attribute_pattern fs a s) ≡ true
  pub sound : (x : ℕ) → holds r x ≡ true → (holds set x ≡ true) ⊎ ((s : ℕ) × (s < strings) × (has_string named s ≡ true) × (attribute_pattern fs a s ≡ x))

abbrev pub AddsPatterns : Facts → List ℕ → ℕ → StringSet → List ℕ → Type 0
AddsPatterns t set a named words = OfFacts t (λ fs. WithPatterns fs set a named words)

-- The patterns of attribute a over what it can take.
abbrev pub ValuePatterns : Facts → ℕ → AttributeValues → List ℕ → Type 0
ValuePatterns t a values words = OfFacts t (λ fs. (can : Option ℕ → Bool) → ((o : Option ℕ) → can o ≡ can_take values o) → Is (fact_morphism fs) words (taken_patterns fs a can))

-- The patterns that have the flag of a fact.
abbrev pub FlaggedBy : Facts → Fact → List ℕ → Type 0
FlaggedBy t f r = OfFacts t (λ fs. (x : ℕ) → x < 2 ^ length fs → holds r x ≡ flag_in fs x f)

-- Those that have not.
abbrev pub UnbrokenBy : Facts → Fact → List ℕ → Type 0
UnbrokenBy t f r = OfFacts t (λ fs. (x : ℕ) → x < 2 ^ length fs → holds r x ≡ not (flag_in fs x f))

-- The patterns under which the formula at an offset is true; and its end.
abbrev pub TruePatterns : Facts → List ℕ → ℕ → Truths → Type 0
TruePatterns t v at r = OfFacts t (λ fs. (x : ℕ) → x < 2 ^ length fs → Holds (atoms_by fs x) v at (holds r.set x) r.next.at)

-- Whether the formula at an offset is false under some pattern of a set; and its end.
abbrev pub ClauseFails : Facts → List ℕ → List ℕ → ℕ → Tested → Type 0
ClauseFails t words v at r = OfFacts t (λ fs.
    (E : Set) → Is (fact_morphism fs) words E → (f depth end : ℕ) (ψ : Formula) → formula f v depth at ≡ whole ψ end
    → (r.next.at ≡ end) × (r.fails ≡ any_below (2 ^ length fs) (λ x. E x && not (truth_of (atoms_by fs x) ψ))))
