-- The search through the items of a template for the lowest element that a clause of its rule makes wrong (document 01, verdict 12;
-- document 02, F-6).
use Rattle.std.specs.Prelude.{ℕ, ◌≡◌, List, Bool, true, false, cond, ◌⊎◌, eqb}
use Rattle.std.proofs.Math.Option.{Option, none}
use Rattle.verdicts.specs.declared.Breach.{Breach}
use Rattle.verdicts.specs.declared.Breach.TheVariants as Breaches
use Rattle.commands.specs.declared.Position.{Position}
use Rattle.commands.specs.Reading.{whole}
use Rattle.vocabularies.specs.Vocabulary.{Formula}
use Rattle.vocabularies.specs.Facts.{facts_of}
use Rattle.pages.specs.declared.Kind.TheVariants.{Template}
use Rattle.pages.specs.declared.ItemHere.TheVariants.{Element}
use Rattle.pages.specs.Items.{Attribute, Item, Items}
use Rattle.pages.specs.ItemReading.{item, items}
use Rattle.pages.specs.Inner.Steps.{item_here}
use Rattle.judging.specs.Inner.Judgement.{broken_if}
use Rattle.summaries.specs.Summaries.{Summary}
use Rattle.patterns.specs.Inner.Given.{Bounded}
use Rattle.patterns.specs.Inner.Rounds.{Sets, item_takes, patterns}
use Rattle.patterns.specs.Inner.Elements.{attribute_patterns, clause_fails}
use Rattle.patterns.specs.Inner.LowestWrong.{Test, lowest_in, lowest_of}
use Rattle.pattern_sets.specs.Inner.PatternSets.{IsEmpty}
use Rattle.schemes.specs.Inner.Schemes.{Is}
use Rattle.graphs.specs.Inner.Graphs.{Keeps}
use Rattle.languages.specs.Inner.Tables.{GapSetsAre}
use Rattle.elements.specs.declared.Clause.{Clause}
use Rattle.elements.specs.declared.FoundElement.{FoundElement}
use Rattle.elements.specs.declared.FoundItems.{FoundItems}
use Rattle.elements.specs.Inner.Attributes.{ClauseAt, patterns_by}

-- What is told where a test holds.
abbrev pub told_if : Bool → Option Breach → Option Breach
told_if t o = cond t o none

-- The element is e, and the clause, which has place k in its rule, can fail for it.
abbrev pub fails_at : List Items → Summary → Formula → Sets → ℕ → ℕ → ℕ → Test
fails_at φs G ψ X k n e e' mark δ φ = told_if (eqb e' e) (broken_if (clause_fails φs G ψ X n δ φ) (Breaches.Clause k))

-- Whether the clause can fail for an element whose attributes and contents have these patterns.
abbrev pub CanFail : List ℕ → Clause → List ℕ → List ℕ → Bool → Type 0
CanFail s c outer inner r = (φs : List Items) (G : Summary) (ψ : Formula) (X : Sets) → ClauseAt s ψ c → (n : ℕ) (δ : List Attribute) (φ : Items)
    → Is (patterns_by ψ) outer (attribute_patterns G (facts_of ψ) n δ)
    → Is (patterns_by ψ) inner (patterns φs G (patterns_by ψ) X n φ) → r ≡ clause_fails φs G ψ X n δ φ

-- By the answer: all attributes have something to take, and the list inside has a pattern; or not.
abbrev pub HasPattern : Bool → List ℕ → Bool → Type 0
HasPattern takes inner true = (takes ≡ true) × IsEmpty inner false
HasPattern takes inner false = (takes ≡ false) ⊎ IsEmpty inner true

-- What is known where template n is searched for a clause: the formula that it is, the graph, and what each gap takes.
pub record Searching (s : List ℕ) (c : Clause) (words : List ℕ) (takes : List (List ℕ)) (n : ℕ) (φs : List Items) (G : Summary) (ψ : Formula) (X : Sets) : Type 0 where
  pub clause : ClauseAt s ψ c
  pub bounded : Bounded φs G
  pub keeps : Keeps words G
  pub gaps : GapSetsAre φs G (patterns_by ψ) X n takes

abbrev pub OfSearch : List ℕ → Clause → List ℕ → List (List ℕ) → ℕ → (List Items → Summary → Formula → Sets → Type 0) → Type 0
OfSearch s c words takes n P = (φs : List Items) (G : Summary) (ψ : Formula) (X : Sets) → Searching s c words takes n φs G ψ X → P φs G ψ X

-- The patterns of the items, the lowest element of them for which the clause can fail, and their end.
pub record ItemsSearched (φs : List Items) (G : Summary) (ψ : Formula) (X : Sets) (n k e : ℕ) (φ : Items) (end : ℕ) (r : FoundItems) : Type 0 where
  pub ends : r.next.at ≡ end
  pub is : Is (patterns_by ψ) r.set (patterns φs G (patterns_by ψ) X n φ)
  pub finds : r.wrong ≡ lowest_in n (fails_at φs G ψ X k n e) φ

abbrev pub SearchesItems : List ℕ → ℕ → Clause → List ℕ → List (List ℕ) → ℕ → FoundItems → Type 0
SearchesItems s at c words takes n r = OfSearch s c words takes n (λ φs G ψ X.
    (ruled : ℕ → Bool) (f depth end : ℕ) (φ : Items) → items f Template ruled s depth at ≡ whole φ end
    → ItemsSearched φs G ψ X n c.place c.element φ end r)

-- What was found in an element e whose attributes stand at `start`: the position after it, whether it has a pattern, the lowest wrong element.
pub record ItemSearched (φs : List Items) (G : Summary) (ψ : Formula) (X : Sets) (n k e : ℕ) (i : Item) (end : ℕ) (r : FoundElement) : Type 0 where
  pub ends : r.next.at ≡ end
  pub yields : r.yields ≡ item_takes φs G (patterns_by ψ) X n i
  pub finds : r.wrong ≡ lowest_of n (fails_at φs G ψ X k n e) i

abbrev pub SearchesElement : List ℕ → ℕ → ℕ → Position → Clause → List ℕ → List (List ℕ) → ℕ → FoundElement → Type 0
SearchesElement s at e start c words takes n r = OfSearch s c words takes n (λ φs G ψ X.
    (ruled : ℕ → Bool) (f depth end : ℕ) (i : Item) → item f Template ruled s depth at ≡ whole i end → Element e start ≡ item_here s at
    → ItemSearched φs G ψ X n c.place c.element i end r)
