-- What the code over the graph of a show promises (documents 01 and 02, verdicts 12, 14 and 15): the templates of which pages come, those that are
-- reached, and the contents that can stand in the pages of each.
use Rattle.std.specs.Prelude.{ℕ, ◌≤◌, ◌<◌, ◌≡◌, List, [], Bool, ◌&&◌, eqb, length, get_or}
use Rattle.sets.specs.Sets.{member}
use Rattle.pages.specs.Items.{Items}
use Rattle.pages.specs.Inner.Gaps.{GapsTable}
use Rattle.programs.specs.Program.{template_at}
use Rattle.summaries.specs.Proposal.{edge}
use Rattle.summaries.specs.Summaries.{Summary}
use Rattle.graphs.specs.Inner.Graphs.{Keeps}
use Rattle.patterns.specs.Inner.Morphisms.{root_morphism}
use Rattle.patterns.specs.Inner.Given.{Bounded}
use Rattle.patterns.specs.Inner.Rounds.{Set, Sets, any_below}
use Rattle.patterns.specs.Inner.Exactness.{Exact, YieldsExact, ReachedExact, ContentsExact}
use Rattle.schemes.specs.Inner.Schemes.{Is}
use Rattle.reach.specs.Inner.Closures.{United, Closure}
use Rattle.reach.specs.Inner.Outlines.{Outline}

-- The set tells the templates of which pages come, from the classes of the pages of each.
abbrev pub TellsYielding : List (List ℕ) → ℕ → ℕ → Type 0
TellsYielding classes count r = (φs : List Items) (G : Summary) (root : ℕ) (K : Sets) → count ≡ length φs → count ≤ 31
    → ((n : ℕ) → n ≤ length φs → Is (root_morphism root) (get_or classes n []) (K n)) → Exact φs G (root_morphism root) K
    → YieldsExact φs G (member r)

-- The templates to which the gaps of a set lead from template n.
abbrev pub edges_by : Summary → ℕ → ℕ → ℕ → Bool
edges_by G n gaps m = any_below 8 (λ g. member gaps g && G (edge n g m))

-- For each template, of which the gaps are given, those templates of a set to which they lead.
pub record EdgeTable (G : Summary) (gaps : List ℕ) (count yields : ℕ) (r : List ℕ) : Type 0 where
  pub there : (n m : ℕ) → n ≤ count → n < 32 → member (get_or r n 0) m ≡ (edges_by G n (get_or gaps n 0) m && member yields m)
  pub not_there : (n : ℕ) → count < n → get_or r n 0 ≡ 0

-- A graph is kept, over templates that are there.
pub record GraphKept (φs : List Items) (G : Summary) (graph : List ℕ) (count : ℕ) : Type 0 where
  pub keeps : Keeps graph G
  pub bounded : Bounded φs G
  pub counts : count ≡ length φs
  pub few : count ≤ 31

-- The templates that are reached: there is one exact set, and it is this one.
abbrev pub TellsReached : List ℕ → List ℕ → ℕ → ℕ → ℕ → Type 0
TellsReached graph gaps count yields r = (φs : List Items) (G : Summary) → GraphKept φs G graph count → GapsTable gaps φs
    → YieldsExact φs G (member yields) → (S : Set) → ReachedExact φs G S → (n : ℕ) → n ≤ length φs → member r n ≡ S n

-- The outline of every template.
abbrev pub OutlinesTo : List Items → ℕ → List ℕ → List ℕ → Type 0
OutlinesTo φs count contents gaps = (t : ℕ) → t ≤ count → t < 32 → Outline (template_at φs t) (get_or contents t 0) (get_or gaps t 0)

-- The contents of the templates that template n leads to by a table of edges, itself one of them, if it is in a set.
pub record LedContents (n : ℕ) (targets contents : List ℕ) (yields r : ℕ) : Type 0 where
  pub start : ℕ
  pub led : ℕ
  pub is_start : (k : ℕ) → member start k ≡ (eqb k n && member yields n)
  pub closure : Closure start targets led
  pub united : United 0 led contents r

-- The contents that can stand in the pages of each template: there are exact sets, and they are these.
abbrev pub TellsContents : List ℕ → List ℕ → List ℕ → ℕ → ℕ → List ℕ → Type 0
TellsContents graph contents gaps count yields r = (φs : List Items) (G : Summary) → GraphKept φs G graph count → OutlinesTo φs count contents gaps
    → YieldsExact φs G (member yields) → (C : Sets) → ContentsExact φs G C → (n c : ℕ) → n ≤ length φs → member (get_or r n 0) c ≡ C n c
