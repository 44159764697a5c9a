-- The decision of a show (document 01, "Verdicts", 11 and 12; document 02, F-6), from tables worked out for its graph: the lowest root
-- template with a page that is not exactly the root element, and the lowest element that is wrong in some page, with what it breaks.
use Rattle.std.specs.Prelude.{ℕ, zero, suc, ◌≤◌, ◌≡◌, List, Bool, ◌&&◌, ◌||◌, length, leb, None}
use Rattle.std.proofs.Math.Bool.{cond}
use Rattle.std.proofs.Math.Option.{Option, some, none}
use Rattle.vocabularies.specs.Vocabulary.{Formula, Rule, Vocabulary, rule_of}
use Rattle.vocabularies.specs.Facts.{facts_of}
use Rattle.pages.specs.Items.{Items}
use Rattle.pages.specs.RightPages.{◌∈◌}
use Rattle.programs.specs.Program.{template_at}
use Rattle.summaries.specs.Proposal.{root}
use Rattle.summaries.specs.Summaries.{Summary}
use Rattle.patterns.specs.Inner.Morphisms.{empty, other, root_morphism, fact_morphism}
use Rattle.patterns.specs.Inner.Rounds.{Set, Sets}
use Rattle.patterns.specs.Inner.Exactness.{Exact, ContentsExact, ReachedExact}
use Rattle.patterns.specs.Inner.Elements.{can_break}
use Rattle.patterns.specs.Inner.LowestWrong.{MaybeWrong, Test, lowest_in, lowest_below}

-- The least number of which P holds, or none if there is none.
pub data Least (P : ℕ → Type 0) : Option ℕ → Type 0 where
  nowhere : ((n : ℕ) → P n → ⊥) → Least P none
  least : {n : ℕ} → P n → ((m : ℕ) → P m → n ≤ m) → Least P (some n)

-- The lower of two numbers, where there are two.
abbrev pub lower : Option ℕ → Option ℕ → Option ℕ
lower none o = o
lower (some m) none = some m
lower (some m) (some n) = some (cond (leb m n) m n)

abbrev pub only_if : Bool → ℕ → Option ℕ
only_if b n = cond b (some n) none

-- The lowest of what f gives below n.
unfoldable pub lowest_over : ℕ → (ℕ → Option ℕ) → Option ℕ
lowest_over zero f = none
lowest_over (suc n) f = lower (lowest_over n f) (f n)

-- What is worked out for a graph: the classes of the pages of each template, the templates that are reached, the contents that can
-- stand in the pages of each, and the pattern sets of each clause.
pub record Tables : Type 0 where
  pub classes : Sets
  pub reached : Set
  pub contents : Sets
  pub clauses : Formula → Sets

-- The tables tell what the pages have; of clauses those that stand in the vocabulary.
pub record ExactTables (φs : List Items) (G : Summary) (D : Vocabulary) (T : Tables) : Type 0 where
  pub classes : Exact φs G (root_morphism D.root) T.classes
  pub reached : ReachedExact φs G T.reached
  pub contents : ContentsExact φs G T.contents
  pub clauses : (e : ℕ) (r : Rule) (ψ : Formula) → rule_of D.rules e ≡ some r → ψ ∈ r.clauses
      → Exact φs G (fact_morphism (facts_of ψ)) (T.clauses ψ)

-- Some page of a root template is empty, or other than the root alone.
abbrev pub not_root : Summary → Sets → ℕ → Bool
not_root G K r = G (root r) && (K r empty || K r other)

module _ (φs : List Items) (G : Summary) (D : Vocabulary) (T : Tables) where
  -- Verdict 11.
  unfoldable pub lowest_root : Option ℕ
  unfolding lowest_over
  lowest_root = lowest_over (suc (length φs)) (λ r. only_if (not_root G T.classes r) r)

  -- What an element of template n breaks in some page.
  abbrev pub tested : ℕ → Test
  tested n e mark δ φ = can_break φs G T.clauses T.contents D n e δ φ

  -- Verdicts 12, 14 and 15: the lowest wrong element of the templates that are reached.
  unfoldable pub lowest_wrong : MaybeWrong
  unfolding lowest_below lowest_in
  lowest_wrong = lowest_below (suc (length φs)) (λ n. cond (T.reached n) (lowest_in n (tested n) (template_at φs n)) None)
