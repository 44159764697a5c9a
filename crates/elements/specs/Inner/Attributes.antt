-- What is known of a clause that code goes by, and the patterns of an element's attributes (document 01, "An exact check needs, clause by
-- clause, .."; verdicts 12, 14 and 15).
use Rattle.std.specs.Prelude.{ℕ, ◌≡◌, List, []}
use Rattle.commands.specs.Reading.{whole}
use Rattle.vocabularies.specs.Vocabulary.{Formula}
use Rattle.vocabularies.specs.VocabularyReading.{formula}
use Rattle.vocabularies.specs.Facts.{facts_of}
use Rattle.vocabularies.specs.declared.Facts.{Facts}
use Rattle.vocabularies.specs.Inner.Promises.{Represents}
use Rattle.pages.specs.declared.Kind.TheVariants.{Template}
use Rattle.pages.specs.declared.AttributeHere.TheVariants.{Done}
use Rattle.pages.specs.Items.{Attribute}
use Rattle.pages.specs.ItemReading.{attributes}
use Rattle.pages.specs.Inner.Steps.{attribute_here}
use Rattle.summaries.specs.Summaries.{Summary}
use Rattle.patterns.specs.Inner.Morphisms.{Morphism, fact_morphism}
use Rattle.patterns.specs.Inner.Rounds.{attributes_take}
use Rattle.patterns.specs.Inner.Elements.{attribute_patterns}
use Rattle.schemes.specs.declared.Scheme.{Scheme}
use Rattle.schemes.specs.Inner.Schemes.{StandsForFacts, Is}
use Rattle.graphs.specs.Inner.Graphs.{Keeps}
use Rattle.elements.specs.declared.Clause.{Clause}
use Rattle.elements.specs.declared.Attributes.{Attributes}

-- The morphism of a clause's facts.
abbrev pub patterns_by : Formula → Morphism
patterns_by ψ = fact_morphism (facts_of ψ)

-- The formula ψ stands where the clause says, and its facts are those that are kept.
pub record ClauseAt (s : List ℕ) (ψ : Formula) (c : Clause) : Type 0 where
  pub represents : Represents c.facts (facts_of ψ)
  pub reads : StandsForFacts c.scheme (facts_of ψ)
  pub fuel : ℕ
  pub depth : ℕ
  pub end : ℕ
  pub stands : formula fuel s depth c.formula.at ≡ whole ψ end

-- The attributes of template n: their patterns, whether all have something to take, and their end.
pub record AttributesAre (ψ : Formula) (G : Summary) (n : ℕ) (δ : List Attribute) (end : ℕ) (r : Attributes) : Type 0 where
  pub patterned : Is (patterns_by ψ) r.set (attribute_patterns G (facts_of ψ) n δ)
  pub takes : r.takes ≡ attributes_take G n δ
  pub ends : r.next.at ≡ end

-- Those that stand at an offset, by the facts that are kept and read. No attribute stands after them.
abbrev pub AttributePatterns : List ℕ → ℕ → Facts → Scheme → List ℕ → ℕ → Attributes → Type 0
AttributePatterns s at t r words n out = (ψ : Formula) (G : Summary) → Represents t (facts_of ψ) → StandsForFacts r (facts_of ψ) → Keeps words G
    → (f end : ℕ) (δ : List Attribute) → attributes f Template s [] at ≡ whole δ end → attribute_here s end ≡ Done
    → AttributesAre ψ G n δ end out
