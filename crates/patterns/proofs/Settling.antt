-- Rounds come to rest: a round that changes something adds a member, so one of the first N * M rounds changes nothing, for N templates
-- and M patterns. For every graph, then, there are exact tables.
use Prim.Native.Nat.{ℕ, zero, suc, ◌+◌, ◌*◌, ◌≤◌, ◌<◌}
use native.Mathlib.Omega.{arith}
use mathlib.Core.Path.{◌≡◌, refl, sym, ap, fun_ext, ◌∙◌}
use mathlib.Core.List.{List}
use mathlib.Core.Bool.{false, false≢true}
use mathlib.Core.Logic.{◌⊎◌, ⊎_elim}
use lib.ListN.{length}
use Rattle.pages.specs.Items.{Items}
use Rattle.vocabularies.specs.Vocabulary.{Vocabulary}
use Rattle.vocabularies.specs.Facts.{facts_of}
use Rattle.summaries.specs.Summaries.{Summary}
use Rattle.patterns.specs.Inner.Morphisms.{Morphism, fact_morphism, root_morphism}
use Rattle.patterns.specs.Inner.Given.{Bounded, contents, NamesInRange}
use Rattle.patterns.specs.Inner.Rounds.{Set, Sets, any_below, iterate, round, rounds, Settled}
use Rattle.patterns.specs.Inner.Reached.{reach_round, reach_rounds, content_round, content_rounds}
use Rattle.patterns.specs.Inner.Exactness.{YieldsExact}
use Rattle.patterns.specs.Inner.Shows.{Tables, ExactTables}
use Rattle.patterns.proofs.Lawful.{clause_lawful, root_lawful}
use Rattle.patterns.proofs.Members.{Within, Same, members, members_most, same_or_more}
use Rattle.patterns.proofs.Growing.{round_more, content_round_more, reach_round_more}
use Rattle.patterns.proofs.Exact.{exact}
use Rattle.patterns.proofs.Reaching.{yields_exact, reached_exact, reach_rounds_sound}
use Rattle.patterns.proofs.Contents.{contents_exact, content_rounds_sound}

-- Rounds of any rule that keeps order.
module _ (N M : ℕ) (F : Sets → Sets) (keeps : (X Y : Sets) → Within N M X Y → Within N M (F X) (F Y)) where
  -- The sets of round t, all of them empty at first.
  abbrev At : ℕ → Sets
  At t = iterate F (λ n x. false) t

  pub iterate_grows : (t : ℕ) → Within N M (At t) (At (suc t))
  unfolding iterate
  iterate_grows zero n x hn hx e = absurd (false≢true e)
  iterate_grows (suc t) n x hn hx e = keeps (At t) (At (suc t)) (iterate_grows t) n x hn hx e

  -- A round changes nothing, or adds a member.
  pub settled_or_more : (t : ℕ) → Same N M (At t) (At (suc t)) ⊎ (members N M (At t) < members N M (At (suc t)))
  settled_or_more t = same_or_more N M (At t) (At (suc t)) (iterate_grows t)

  search_settled : (k t : ℕ) → t + k ≡ N * M → t ≤ members N M (At t) → (u : ℕ) × (u ≤ N * M) × Same N M (At u) (At (suc u))
  search_settled zero t e h = ⊎_elim
      (λ s. (t, omega arith, s))
      (λ more. absurd (let most = members_most N M (At (suc t)) in omega arith))
      (settled_or_more t)
  search_settled (suc k) t e h = ⊎_elim
      (λ s. (t, omega arith, s))
      (λ more. search_settled k (suc t) (omega arith) (omega arith))
      (settled_or_more t)

  pub comes_to_rest : (t : ℕ) × (t ≤ N * M) × Same N M (At t) (At (suc t))
  comes_to_rest = search_settled (N * M) 0 (omega arith) (omega arith)

module _ (φs : List Items) (G : Summary) where
  -- Pattern sets: 32 sets of 256 patterns settle within 8,192 rounds.
  pub settles : (R : Morphism) → (t : ℕ) × (t ≤ suc (length φs) * R.size) × Settled φs G R (rounds φs G R t)
  unfolding rounds iterate
  settles R =
      let (t, h, same) = comes_to_rest (suc (length φs)) R.size (round φs G R) (λ X Y within n x hn hx. round_more φs G R X Y within n x) in
      (t, h, λ n x hn hx. sym (same n x (omega arith) hx))

  pub contents_settle : (Y : Set)
      → (t : ℕ) × ((n c : ℕ) → n ≤ length φs → c < contents → content_rounds φs G Y (suc t) n c ≡ content_rounds φs G Y t n c)
  unfolding content_rounds iterate
  contents_settle Y =
      let (t, h, same) = comes_to_rest (suc (length φs)) contents (content_round φs G Y)
      (λ C E within n c hn hc. content_round_more φs G Y contents C E within n c hc) in
      (t, λ n c hn hc. sym (same n c (omega arith) hc))

  -- A set of templates as sets with one number each.
  module _ (Y : Set) where
    lifted : Sets → Sets
    lifted X n x = reach_round φs G Y (λ m. X m 0) n

    lifted_same : (t n x : ℕ) → iterate lifted (λ m y. false) t n x ≡ reach_rounds φs G Y t n
    unfolding lifted reach_rounds iterate
    lifted_same zero n x = refl
    lifted_same (suc t) n x = ap (λ (S : Set). reach_round φs G Y S n) (fun_ext (λ m. lifted_same t m 0))

    pub reach_settles : (t : ℕ) × ((n : ℕ) → n ≤ length φs → reach_rounds φs G Y (suc t) n ≡ reach_rounds φs G Y t n)
    unfolding lifted
    reach_settles =
        let (t, h, same) = comes_to_rest (suc (length φs)) 1 lifted
        (λ X Z within n x hn hx. reach_round_more φs G Y (λ m. X m 0) (λ m. Z m 0) (λ m hm. within m 0 hm (omega arith)) n) in
        (t, λ n hn. sym (lifted_same (suc t) n 0) ∙ sym (same n 0 (omega arith) (omega arith)) ∙ lifted_same t n 0)

  -- For every graph there are exact tables.
  pub worked_out : Bounded φs G → NamesInRange φs → (D : Vocabulary) → (T : Tables) × ExactTables φs G D T
  unfolding reach_rounds content_rounds iterate
  worked_out bounded named D = (
    tables,
    record {
      classes = exact φs G bounded (root_morphism D.root) (root_lawful D.root) classes.0 classes.2;
      reached = reached_exact φs G bounded yields yields_is tables.reached (reach_rounds_sound φs G bounded yields yields_is reached.0)
          (λ n h e. sym (reached.1 n h) ∙ e);
      contents = contents_exact φs G bounded yields yields_is named tables.contents
          (content_rounds_sound φs G bounded yields yields_is occurring.0) (λ n c hn hc e. sym (occurring.1 n c hn hc) ∙ e);
      clauses = λ e r ψ p m. exact φs G bounded (fact_morphism (facts_of ψ)) (clause_lawful ψ) (settles (fact_morphism (facts_of ψ))).0
          (settles (fact_morphism (facts_of ψ))).2;
    },
  )
    where
      classes : (t : ℕ) × (t ≤ suc (length φs) * 3) × Settled φs G (root_morphism D.root) (rounds φs G (root_morphism D.root) t)
      classes = settles (root_morphism D.root)

      yields : Set
      yields n = any_below 3 (rounds φs G (root_morphism D.root) classes.0 n)

      yields_is : YieldsExact φs G yields
      yields_is = yields_exact φs G (root_morphism D.root) (root_lawful D.root) (rounds φs G (root_morphism D.root) classes.0)
          (exact φs G bounded (root_morphism D.root) (root_lawful D.root) classes.0 classes.2)

      reached : (t : ℕ) × ((n : ℕ) → n ≤ length φs → reach_rounds φs G yields (suc t) n ≡ reach_rounds φs G yields t n)
      reached = reach_settles yields

      occurring : (t : ℕ) × ((n c : ℕ) → n ≤ length φs → c < contents → content_rounds φs G yields (suc t) n c ≡ content_rounds φs G yields t n c)
      occurring = contents_settle yields

      tables : Tables
      tables = record {
        classes = rounds φs G (root_morphism D.root) classes.0;
        reached = reach_rounds φs G yields reached.0;
        contents = content_rounds φs G yields occurring.0;
        clauses = λ ψ. rounds φs G (fact_morphism (facts_of ψ)) (settles (fact_morphism (facts_of ψ))).0;
      }
