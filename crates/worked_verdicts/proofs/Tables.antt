-- Tables of t rounds for a graph, and a test that t rounds are enough: one more changes nothing. Then the tables are exact.
use Prim.Native.Nat.{ℕ, suc, ◌≤◌, ◌<◌}
use native.Mathlib.Omega.{arith}
use mathlib.Core.Path.{◌≡◌, refl, sym, subst, ◌∙◌}
use mathlib.Core.List.Memᴰ
use mathlib.Core.List.{List, [], ◌∷◌}
use mathlib.Core.Bool.{Bool, true, false, cond, not, ◌&&◌, false≢true}
use mathlib.Core.Option.{some}
use mathlib.Core.Logic.{⊎_elim}
use lib.ListN.{length}
use lib.Dec.{eqb}
use borrow.Author.Tests.{not-true}
use Rattle.vocabularies.specs.Vocabulary.{Formula, Rule, Vocabulary, rule_of}
use Rattle.vocabularies.specs.Facts.{facts_of}
use Rattle.pages.specs.Items.{Items}
use Rattle.pages.specs.RightPages.{◌∈◌}
use Rattle.summaries.specs.Summaries.{Summary}
use Rattle.patterns.specs.Inner.Morphisms.{Morphism, root_morphism, fact_morphism}
use Rattle.patterns.specs.Inner.Given.{Bounded, contents, NamesInRange}
use Rattle.patterns.specs.Inner.Rounds.{Set, Sets, any_below, iterate, rounds}
use Rattle.patterns.specs.Inner.Reached.{reach_rounds, content_rounds}
use Rattle.patterns.specs.Inner.Exactness.{Exact, YieldsExact}
use Rattle.patterns.specs.Inner.Shows.{Tables, ExactTables}
use Rattle.patterns.proofs.Tests.{any_below_lem}
use Rattle.sets.proofs.Booleans.{and_left, and_right, refuted}
use Rattle.patterns.proofs.Lawful.{Lawful, root_lawful, clause_lawful}
use Rattle.patterns.proofs.Exact.{exact}
use Rattle.patterns.proofs.Reaching.{yields_exact, reached_exact, reach_rounds_sound}
use Rattle.patterns.proofs.Contents.{contents_exact, content_rounds_sound}

abbrev differ : Bool → Bool → Bool
differ true b = not b
differ false b = b

no_difference : (a b : Bool) → differ a b ≡ false → a ≡ b
no_difference true true e = refl
no_difference true false e = absurd (false≢true (sym e))
no_difference false b e = sym e

module _ (φs : List Items) where
  -- Sets of numbers below M are the same for every template.
  unfoldable pub same_sets : ℕ → Sets → Sets → Bool
  unfolding any_below
  same_sets M X Y = not (any_below (suc (length φs)) (λ n. any_below M (λ x. differ (X n x) (Y n x))))

  same_sets_lem : (M : ℕ) (X Y : Sets) → same_sets M X Y ≡ true → (n x : ℕ) → n ≤ length φs → x < M → X n x ≡ Y n x
  unfolding same_sets
  same_sets_lem M X Y e n x hn hx = no_difference (X n x) (Y n x) (refuted (differ (X n x) (Y n x)) λ d.
      false≢true (sym (not-true _ e) ∙ any_below_lem (suc (length φs)) (λ m. any_below M (λ y. differ (X m y) (Y m y))) n (omega arith)
      (any_below_lem M (λ y. differ (X n y) (Y n y)) x hx d)))

module _ (φs : List Items) (G : Summary) (t : ℕ) where
  unfoldable pub settled : Morphism → Bool
  unfolding same_sets rounds
  settled R = same_sets φs R.size (rounds φs G R (suc t)) (rounds φs G R t)

  unfoldable pub clauses_settled : List Formula → Bool
  unfolding settled
  clauses_settled [] = true
  clauses_settled (ψ ∷ ψs) = settled (fact_morphism (facts_of ψ)) && clauses_settled ψs

  unfoldable pub rules_settled : List Rule → Bool
  unfolding clauses_settled
  rules_settled [] = true
  rules_settled (r ∷ rs) = clauses_settled r.clauses && rules_settled rs

  clause_settled : (ψs : List Formula) (ψ : Formula) → clauses_settled ψs ≡ true → ψ ∈ ψs → settled (fact_morphism (facts_of ψ)) ≡ true
  unfolding clauses_settled
  clause_settled [] ψ e i = absurd (Memᴰ.not-nil i)
  clause_settled (χ ∷ ψs) ψ e i = ⊎_elim
      (λ q. subst (λ (ω : Formula). settled (fact_morphism (facts_of ω)) ≡ true) (sym q) (and_left (settled (fact_morphism (facts_of χ))) (clauses_settled ψs) e))
      (clause_settled ψs ψ (and_right (settled (fact_morphism (facts_of χ))) (clauses_settled ψs) e))
      (Memᴰ.cases_cons i)

  rule_settled : (rs : List Rule) (e : ℕ) (r : Rule) → rules_settled rs ≡ true → rule_of rs e ≡ some r → clauses_settled r.clauses ≡ true
  unfolding rules_settled rule_of
  rule_settled [] e r h q = absurd (let z : ◌≡◌ {A = ℕ} 0 1 = cc in omega arith)
  rule_settled (s ∷ rs) e r h q =
      go (eqb s.element e) (rule_settled rs e r (and_right (clauses_settled s.clauses) (rules_settled rs) h)) q
    where
      go : (b : Bool) → (rule_of rs e ≡ some r → clauses_settled r.clauses ≡ true) → cond b (some s) (rule_of rs e) ≡ some r
          → clauses_settled r.clauses ≡ true
      go true rest p = let same : s ≡ r = cc in rw (← same) (and_left (clauses_settled s.clauses) (rules_settled rs) h)
      go false rest p = rest p

  settled_exact : Bounded φs G → (R : Morphism) → Lawful R → settled R ≡ true → Exact φs G R (rounds φs G R t)
  unfolding settled rounds iterate
  settled_exact bounded R lawful e = exact φs G bounded R lawful t (same_sets_lem φs R.size (rounds φs G R (suc t)) (rounds φs G R t) e)

  module _ (D : Vocabulary) where
    abbrev classes : Sets
    classes = rounds φs G (root_morphism D.root) t

    abbrev yields : Set
    yields n = any_below 3 (classes n)

    abbrev reached_after : ℕ → Sets
    reached_after u n x = reach_rounds φs G yields u n

    abbrev contents_after : ℕ → Sets
    contents_after u = content_rounds φs G yields u

    unfoldable pub tables_by : Tables
    unfolding rounds reach_rounds content_rounds any_below
    tables_by = record {
      classes = classes;
      reached = reach_rounds φs G yields t;
      contents = content_rounds φs G yields t;
      clauses = λ ψ. rounds φs G (fact_morphism (facts_of ψ)) t;
    }

    unfoldable pub enough_rounds : Bool
    unfolding settled rules_settled reach_rounds content_rounds
    enough_rounds =
        (settled (root_morphism D.root) && same_sets φs 1 (reached_after (suc t)) (reached_after t))
        && (same_sets φs contents (contents_after (suc t)) (contents_after t) && rules_settled D.rules)

    pub tables_exact : Bounded φs G → NamesInRange φs → enough_rounds ≡ true → ExactTables φs G D tables_by
    unfolding tables_by enough_rounds iterate
    tables_exact bounded named e = record {
      classes = classes_exact;
      reached = reached_exact φs G bounded yields yields_are _ (reach_rounds_sound φs G bounded yields yields_are t)
          (λ n h q. sym (same_sets_lem φs 1 (reached_after (suc t)) (reached_after t) (and_right (settled (root_morphism D.root)) _ first) n 0 h (omega arith)) ∙ q);
      contents = contents_exact φs G bounded yields yields_are named _ (content_rounds_sound φs G bounded yields yields_are t)
          (λ n c hn hc q. sym (same_sets_lem φs contents (contents_after (suc t)) (contents_after t) (and_left _ _ second) n c hn hc) ∙ q);
      clauses = λ a r ψ p m. settled_exact bounded (fact_morphism (facts_of ψ)) (clause_lawful ψ)
          (clause_settled r.clauses ψ
          (rule_settled D.rules a r (and_right (same_sets φs contents (contents_after (suc t)) (contents_after t)) _ second) p) m);
    }
      where
        first : (settled (root_morphism D.root) && same_sets φs 1 (reached_after (suc t)) (reached_after t)) ≡ true
        first = and_left _ _ e

        second : (same_sets φs contents (contents_after (suc t)) (contents_after t) && rules_settled D.rules) ≡ true
        second = and_right (settled (root_morphism D.root) && same_sets φs 1 (reached_after (suc t)) (reached_after t)) _ e

        classes_exact : Exact φs G (root_morphism D.root) classes
        classes_exact = settled_exact bounded (root_morphism D.root) (root_lawful D.root) (and_left _ _ first)

        yields_are : YieldsExact φs G yields
        yields_are = yields_exact φs G (root_morphism D.root) (root_lawful D.root) classes classes_exact
