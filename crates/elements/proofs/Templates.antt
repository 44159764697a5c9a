-- One clause, template by template.
use Prim.Native.Nat.{ℕ, ◌+◌, ◌≤◌, ◌<◌}
use mathlib.Core.Path.{◌≡◌}
use mathlib.Core.List.{List}
use mathlib.Core.Bool.{true, false}
use mathlib.Core.Logic.{◌⊎◌, ⊎_elim}
use native.Mathlib.Omega.{arith}
use lib.ListN.{length, get_or}
use Rattle.std.specs.Prelude.{None}
use Rattle.sets.specs.Sets.{member}
use Rattle.vocabularies.specs.Vocabulary.{Formula}
use Rattle.pages.specs.Items.{Items}
use Rattle.programs.specs.Program.{template_at}
use Rattle.summaries.specs.Summaries.{Summary}
use Rattle.patterns.specs.Inner.Morphisms.{Morphism}
use Rattle.patterns.specs.Inner.Given.{Bounded}
use Rattle.patterns.specs.Inner.Rounds.{Sets}
use Rattle.patterns.specs.Inner.Exactness.{Exact}
use Rattle.patterns.specs.Inner.LowestWrong.{MaybeWrong, lower_wrong, LowestWrong}
use Rattle.patterns.proofs.LowestOf.{Below, looked_none, looked_past, looked_more, looked_all}
use Rattle.schemes.specs.Inner.Schemes.{of_facts}
use Rattle.graphs.specs.Inner.Graphs.{Keeps}
use Rattle.languages.specs.Inner.Tables.{of_clause, SetsAre, GapSetsAre, Lent}
use Rattle.languages.specs.Inner.Promises.{Settles}
use Rattle.languages.proofs.Settling.{settled_exact}
use Rattle.elements.specs.declared.Clause.{Clause}
use Rattle.elements.specs.declared.FoundItems.{FoundItems}
use Rattle.elements.specs.Inner.Attributes.{ClauseAt, patterns_by}
use Rattle.elements.specs.Inner.Search.{fails_at, SearchesItems}
use Rattle.elements.specs.Inner.Rules.{Standing, SearchesTemplate, SearchesClause}

pub template_searched : (s : List ℕ) (from : ℕ) (c : Clause) (words : List ℕ) (sets : List (List ℕ)) (n : ℕ) (takes : List (List ℕ))
    → ((φs : List Items) (G : Summary) (M : Morphism) (X : Sets) → length φs < 32 → Bounded φs G → Keeps words G → SetsAre φs M X sets → GapSetsAre φs G M X n takes)
    → (found : FoundItems) → SearchesItems s from c words takes n found → SearchesTemplate s from c words sets n found.wrong
template_searched s from c words sets n takes gaps found searched φs G ψ X count kept C are φ stand =
    let k = kept.counts in
    let few = kept.few in
    (searched φs G ψ X (record { clause = C; bounded = kept.bounded; keeps = kept.keeps; gaps = gaps φs G (patterns_by ψ) X (omega arith) kept.bounded kept.keeps are })
    stand.ruled stand.fuel 0 stand.end φ stand.reads).finds

module _ (s : List ℕ) (c : Clause) (words starts : List ℕ) (count chosen : ℕ) where
  -- The sets that the rounds end with are the exact ones.
  exact_sets : (made : ℕ) (sets : List (List ℕ)) → Settles c.scheme s words starts count made sets → (φs : List Items) (G : Summary) (ψ : Formula) (X : Sets)
      → Standing s φs G words starts count → ClauseAt s ψ c → Exact φs G (patterns_by ψ) X → SetsAre φs (patterns_by ψ) X sets
  exact_sets made sets settles φs G ψ X S C exact =
      let k = S.graph.counts in
      let few = S.graph.few in
      let lent : Lent c.scheme words φs G (patterns_by ψ) = record { used = of_clause ψ; reads = of_facts C.reads; bounded = S.graph.bounded; keeps = S.graph.keeps } in
      settled_exact lent made sets (settles φs G (patterns_by ψ) (record { lent = lent; few = omega arith; stand = S.stand }) k) X exact

  -- The templates below t have been searched.
  abbrev pub Turning : ℕ → MaybeWrong → Type 0
  Turning t lowest = (φs : List Items) (G : Summary) (ψ : Formula) (X : Sets) → Standing s φs G words starts count → ClauseAt s ψ c
      → Exact φs G (patterns_by ψ) X → LowestWrong (Below φs chosen (λ n. fails_at φs G ψ X c.place n c.element) t) lowest

  pub turning_begin : Turning 1 None
  turning_begin φs G ψ X S C exact = looked_none φs chosen (λ n. fails_at φs G ψ X c.place n c.element)

  module _ (t : ℕ) (lowest : MaybeWrong) (T : Turning t lowest) where
    pub turning_by : member chosen t ≡ false → Turning (t + 1) lowest
    turning_by absent φs G ψ X S C exact = looked_past φs chosen (λ n. fails_at φs G ψ X c.place n c.element) t absent lowest (T φs G ψ X S C exact)

    pub turning_more : 1 ≤ t → t < 32 → t ≤ count → member chosen t ≡ true → (made : ℕ) (sets : List (List ℕ)) → Settles c.scheme s words starts count made sets
        → (found : MaybeWrong) → SearchesTemplate s (get_or starts t 0) c words sets t found
        → (lower : MaybeWrong) → lower ≡ lower_wrong lowest found → Turning (t + 1) lower
    turning_more least low there picked made sets settles found searched lower is φs G ψ X S C exact =
        let k = S.graph.counts in
        rw is (looked_more φs chosen (λ n. fails_at φs G ψ X c.place n c.element) t picked (omega arith) lowest found
        (searched φs G ψ X count S.graph C (exact_sets made sets settles φs G ψ X S C exact) (template_at φs t) (S.stand t least (omega arith)))
        (T φs G ψ X S C exact))

    pub turning_all : (count < t) ⊎ (32 ≤ t) → SearchesClause s c words starts count chosen lowest
    turning_all end φs G ψ X S C exact = looked_all φs chosen (λ n. fails_at φs G ψ X c.place n c.element) t lowest (past end) (T φs G ψ X S C exact)
      where
        past : (count < t) ⊎ (32 ≤ t) → length φs < t
        past e = let k = S.graph.counts in let few = S.graph.few in ⊎_elim (λ e. omega arith) (λ e. omega arith) e
