-- The tests of an element are exact: where its gaps can be filled, they tell what the element, filled in some way, breaks of its rule.
use Prim.Native.Nat.{ℕ, ◌<◌}
use mathlib.Core.Path.{◌≡◌, refl, ap}
use mathlib.Core.List.{List}
use mathlib.Core.Bool.{Bool, true, not, ◌&&◌}
use mathlib.Core.Option.{Option, some, none}
use lib.ListN.{length, get_or}
use borrow.Author.Tests.{not-true}
use Rattle.verdicts.specs.declared.Breach.{Breach}
use Rattle.verdicts.specs.declared.Breach.TheVariants.{Content, Clause}
use Rattle.verdicts.specs.declared.Breach.TheVariants as Breaches
use Rattle.vocabularies.specs.Vocabulary.{Formula, truth, Rule, Vocabulary, rule_of, is_in, Distinct}
use Rattle.vocabularies.specs.Facts.{facts_of}
use Rattle.pages.specs.Items.{Attribute, Items}
use Rattle.pages.specs.RightPages.{◌∈◌, names, word, ElementWrong, SomeElement}
use Rattle.judging.specs.Inner.Judgement.{all_in}
use Rattle.summaries.specs.Summaries.{Summary}
use Rattle.summaries.specs.Languages.{AttributesDerive, Derives}
use Rattle.agreement.proofs.Deciding.{Decided, true_iff, false_iff, decided_iff, decided_test}
use Rattle.agreement.proofs.Tests.{decided_member, decided_meets}
use Rattle.agreement.proofs.Breaches.{BreachFound, no_breach, breach_found}
use Rattle.agreement.proofs.Elements.{placed, decided_outside, unruled, attribute_breach, content_breach, clause_breach}
use Rattle.patterns.specs.Inner.Morphisms.{fact_morphism}
use Rattle.patterns.specs.Inner.Given.{Bounded, contents, NamesInRange, NamedOnly}
use Rattle.patterns.specs.Inner.Rounds.{Sets}
use Rattle.patterns.specs.Inner.Reached.{CanBe, contents_of}
use Rattle.patterns.specs.Inner.Elements.{carriable_names, clause_fails, content_outside, can_break_under, can_break_by, can_break}
use Rattle.patterns.specs.Inner.Exactness.{Exact, ContentsExact}
use Rattle.patterns.proofs.Tests.{any_below_lem, below_any}
use Rattle.sets.proofs.Booleans.{and_both, and_left, and_right}
use Rattle.patterns.proofs.Attributes.{carried_in, carried_by}
use Rattle.patterns.proofs.Contents.{occurs_small, items_contents_exact}
use Rattle.patterns.proofs.ElementPatterns.{clause_exact}

-- The element e of template n, with these attributes and contents filled in some way, breaks this of its rule.
abbrev pub CanBreak : List Items → Summary → Vocabulary → ℕ → ℕ → List Attribute → Items → Breach → Type 0
CanBreak φs G D n e δ φ b = CanBe φs G n δ φ (λ δ' φ'. ElementWrong D e δ' φ' b)

module _ (φs : List Items) (G : Summary) (bounded : Bounded φs G) (named : NamesInRange φs) where
  -- What is to be known of a clause.
  abbrev pub Worked : (Formula → Sets) → Formula → Type 0
  Worked X ψ = NamedOnly ψ × Exact φs G (fact_morphism (facts_of ψ)) (X ψ)

  -- An element e of template n whose gaps can be filled, that has no attribute twice, and whose contents have names in range.
  module _ (X : Formula → Sets) (C : Sets) (exact : ContentsExact φs G C) (n : ℕ) (δ δ₀ : List Attribute) (φ φ₀ : Items)
      (a₀ : AttributesDerive φs G n δ δ₀) (d₀ : Derives φs G n φ φ₀) (once : Distinct (names δ))
      (small : (c : ℕ) → SomeElement (λ e mark ε χ. e ≡ c) φ → c < contents) (D : Vocabulary) (e : ℕ) where
    abbrev Broken : Breach → Type 0
    Broken = CanBreak φs G D n e δ φ

    module _ (r : Rule) (p : rule_of D.rules e ≡ some r) (worked : (ψ : Formula) → ψ ∈ r.clauses → Worked X ψ) where
      attribute_decided : Decided (Broken Breaches.Attribute) (not (all_in (carriable_names G n δ) r.attributes))
      attribute_decided = decided_iff (to, back) (decided_outside (carriable_names G n δ) r.attributes)
        where
          to : (a : ℕ) × (a ∈ carriable_names G n δ) × (a ∈ r.attributes → ⊥) → Broken Breaches.Attribute
          to (a, m, out) =
              let (δ', d, h) = carried_by φs G bounded a₀ a ((true_iff (decided_member a (carriable_names G n δ))).1 m) in
              (δ', φ₀, d, d₀, (attribute_breach D e δ' φ₀ r p).0 (a, (true_iff (decided_member a (names δ'))).0 h, out))

          back : Broken Breaches.Attribute → (a : ℕ) × (a ∈ carriable_names G n δ) × (a ∈ r.attributes → ⊥)
          back (δ', φ', d, d', w) =
              let (a, m, out) = (attribute_breach D e δ' φ' r p).1 w in
              (a, (true_iff (decided_member a (carriable_names G n δ))).0 (carried_in φs G bounded d a ((true_iff (decided_member a (names δ'))).1 m)), out)

      outside : ℕ → Bool
      outside c = contents_of φs G C n φ c && not (is_in c r.contents)

      content_decided : Decided (Broken Content) (content_outside φs G C r.contents n φ)
      unfolding content_outside outside
      content_decided = decided_iff (to, back) (decided_test (content_outside φs G C r.contents n φ))
        where
          to : content_outside φs G C r.contents n φ ≡ true → Broken Content
          to t =
              let (c, h, q) = below_any contents outside t in
              let (φ', d, i) = (items_contents_exact φs G bounded C exact n φ φ₀ d₀ c).0 (and_left (contents_of φs G C n φ c) (not (is_in c r.contents)) q) in
              let out = not-true (is_in c r.contents) (and_right (contents_of φs G C n φ c) (not (is_in c r.contents)) q) in
              (δ₀, φ', a₀, d, (content_breach D e δ₀ φ' r p).0 (c, (true_iff (decided_member c (word φ'))).0 i, (false_iff (decided_member c r.contents)).0 out))

          back : Broken Content → content_outside φs G C r.contents n φ ≡ true
          back (δ', φ', a, d, w) =
              let (c, m, out) = (content_breach D e δ' φ' r p).1 w in
              let i = (true_iff (decided_member c (word φ'))).1 m in
              any_below_lem contents outside c (occurs_small φs G named d small c i)
              (and_both _ _ ((items_contents_exact φs G bounded C exact n φ φ₀ d₀ c).1 (φ', d, i)) (ap not ((false_iff (decided_member c r.contents)).1 out)))

      clause_decided : (i : ℕ) → i < length r.clauses → Decided (Broken (Clause i)) (clause_fails φs G (get_or r.clauses i truth) (X (get_or r.clauses i truth)) n δ φ)
      clause_decided i h = decided_iff (to, back) (decided_test (clause_fails φs G ψ (X ψ) n δ φ))
        where
          ψ : Formula
          ψ = get_or r.clauses i truth

          known : Worked X ψ
          known = worked ψ (placed truth r.clauses i h)

          to : clause_fails φs G ψ (X ψ) n δ φ ≡ true → Broken (Clause i)
          to t =
              let (δ', φ', a, d, q) = (clause_exact φs G bounded ψ known.0 (X ψ) known.1 n δ φ once).0 t in
              (δ', φ', a, d, (clause_breach D e δ' φ' r p i).0 (h, (false_iff (decided_meets δ' φ' ψ)).0 q))

          back : Broken (Clause i) → clause_fails φs G ψ (X ψ) n δ φ ≡ true
          back (δ', φ', a, d, w) =
              (clause_exact φs G bounded ψ known.0 (X ψ) known.1 n δ φ once).1
              (δ', φ', a, d, (false_iff (decided_meets δ' φ' ψ)).1 ((clause_breach D e δ' φ' r p i).1 w).1)

      under_exact : BreachFound Broken (can_break_under φs G X C r n δ φ)
      unfolding can_break_under
      under_exact = breach_found Broken (λ ψ. clause_fails φs G ψ (X ψ) n δ φ) r.clauses attribute_decided content_decided clause_decided
          (λ i (δ', φ', a, d, w). ((clause_breach D e δ' φ' r p i).1 w).0)

    -- What is to be known of a vocabulary: of each clause of each rule.
    pub breach_exact : ((r : Rule) → rule_of D.rules e ≡ some r → (ψ : Formula) → ψ ∈ r.clauses → Worked X ψ) → BreachFound (CanBreak φs G D n e δ φ) (can_break φs G X C D n e δ φ)
    breach_exact worked = go (rule_of D.rules e) refl
      where
        go : (o : Option Rule) → rule_of D.rules e ≡ o → BreachFound Broken (can_break_by φs G X C o n δ φ)
        go none p = no_breach (λ b (δ', φ', a, d, w). unruled D e δ' φ' p b w)
        go (some r) p = under_exact r p (worked r p)
