-- The lowest wrong element by one clause, by the clauses of one rule and by those of all rules (document 01, verdict 12;
-- document 02, F-6).
use Rattle.std.specs.Prelude.{ℕ, ◌≡◌, List, get_or, eqb}
use Rattle.std.proofs.Math.Option.{some}
use Rattle.sets.specs.Sets.{member}
use Rattle.commands.specs.Reading.{whole}
use Rattle.commands.specs.Inner.Parts.{Enough}
use Rattle.vocabularies.specs.declared.Rule as Tabled
use Rattle.vocabularies.specs.Vocabulary.{Formula, Rule, Vocabulary, rule_of}
use Rattle.vocabularies.specs.Inner.Promises.{no_rule}
use Rattle.vocabularies.specs.Vocabulary as Vocabularies
use Rattle.vocabularies.specs.VocabularyReading as Grammar
use Rattle.pages.specs.Items.{Items}
use Rattle.pages.specs.RightPages.{◌∈◌}
use Rattle.summaries.specs.Summaries.{Summary}
use Rattle.patterns.specs.Inner.Rounds.{Sets}
use Rattle.patterns.specs.Inner.Exactness.{Exact}
use Rattle.patterns.specs.Inner.Elements.{first_clause}
use Rattle.patterns.specs.Inner.LowestWrong.{MaybeWrong, lowest_in, LowestWrong, Passing}
use Rattle.pages.specs.Inner.Gaps.{ItemsStand, StartsAt}
use Rattle.schemes.specs.declared.Scheme.{Scheme}
use Rattle.languages.specs.Inner.Tables.{SetsAre}
use Rattle.languages.specs.Inner.Promises.{Settles}
use Rattle.occurrences.specs.Inner.Occurrences.{Occurrences}
use Rattle.reach.specs.Inner.Promises.{GraphKept}
use Rattle.reach.specs.Inner.PlainlyWrong.{wrong_by_clause}
use Rattle.elements.specs.declared.Clause.{Clause}
use Rattle.elements.specs.Inner.Attributes.{ClauseAt, patterns_by}
use Rattle.elements.specs.Inner.Search.{told_if, fails_at}

-- A graph, as words, over templates that stand where the table says.
pub record Standing (s : List ℕ) (φs : List Items) (G : Summary) (words starts : List ℕ) (count : ℕ) : Type 0 where
  pub graph : GraphKept φs G words count
  pub stand : StartsAt s φs starts

-- The sets of all templates are those of the first settled round by a scheme.
abbrev pub SettledBy : Scheme → List ℕ → List ℕ → List ℕ → ℕ → List (List ℕ) → Type 0
SettledBy r s words starts count sets = (made : ℕ) × Settles r s words starts count made sets

-- The lowest element of items of template n for which the clause can fail.
abbrev pub SearchesTemplate : List ℕ → ℕ → Clause → List ℕ → List (List ℕ) → ℕ → MaybeWrong → Type 0
SearchesTemplate s from c words sets n r = (φs : List Items) (G : Summary) (ψ : Formula) (X : Sets) (count : ℕ) → GraphKept φs G words count
    → ClauseAt s ψ c → SetsAre φs (patterns_by ψ) X sets → (φ : Items) → ItemsStand s from φ
    → r ≡ lowest_in n (fails_at φs G ψ X c.place n c.element) φ

-- One clause, in the templates of a set.
abbrev pub SearchesClause : List ℕ → Clause → List ℕ → List ℕ → ℕ → ℕ → MaybeWrong → Type 0
SearchesClause s c words starts count chosen r = (φs : List Items) (G : Summary) (ψ : Formula) (X : Sets)
    → Standing s φs G words starts count → ClauseAt s ψ c → Exact φs G (patterns_by ψ) X
    → LowestWrong (Passing φs chosen (λ n. fails_at φs G ψ X c.place n c.element)) r

-- The clauses of the rule of element e, which stand from an offset on and the places of which count from k.
abbrev pub SearchesRule : List ℕ → ℕ → ℕ → ℕ → List ℕ → List ℕ → ℕ → ℕ → MaybeWrong → Type 0
SearchesRule s e from k words starts count chosen r = (φs : List Items) (G : Summary) (X : Formula → Sets)
    → Standing s φs G words starts count
    → (f end : ℕ) (ψs : List Formula) → Grammar.clauses f s from ≡ whole ψs end → ((ψ : Formula) → ψ ∈ ψs → Exact φs G (patterns_by ψ) (X ψ))
    → LowestWrong (Passing φs chosen (λ n e' mark δ φ. told_if (eqb e' e) (first_clause φs G X k ψs n δ φ))) r

-- Which elements have a rule, and where the clauses of each stand.
pub record RulesStand (s : List ℕ) (D : Vocabulary) (declared : ℕ) (rules : List Tabled.Rule) : Type 0 where
  pub declares : (e : ℕ) → member declared e ≡ Vocabularies.declared D.rules e
  pub stands : (e : ℕ) (r : Rule) → rule_of D.rules e ≡ some r → (f : ℕ) → Enough s (get_or rules e no_rule).clauses.at f
      → (end : ℕ) × (Grammar.clauses f s (get_or rules e no_rule).clauses.at ≡ whole r.clauses end)

-- The sets of each clause are exact.
abbrev pub ExactClauses : List Items → Summary → Vocabulary → (Formula → Sets) → Type 0
ExactClauses φs G D X = (e : ℕ) (r : Rule) (ψ : Formula) → rule_of D.rules e ≡ some r → ψ ∈ r.clauses → Exact φs G (patterns_by ψ) (X ψ)

-- All clauses of all rules.
abbrev pub SearchesRules : List ℕ → ℕ → List Tabled.Rule → List ℕ → List ℕ → List ℕ → ℕ → ℕ → MaybeWrong → Type 0
SearchesRules s declared rules standing words starts count reached r = (φs : List Items) (G : Summary) (D : Vocabulary) (X : Formula → Sets)
    → Standing s φs G words starts count → RulesStand s D declared rules → Occurrences φs standing → ExactClauses φs G D X
    → LowestWrong (Passing φs reached (λ n e mark δ φ. wrong_by_clause φs G X D n e δ φ)) r
