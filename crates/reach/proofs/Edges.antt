-- Edges from a graph: those of one template by some of its gaps, and those of every template.
use Prim.Native.Nat.{ℕ, suc, ◌+◌, ◌≤◌, ◌<◌}
use native.Mathlib.Omega.{arith}
use mathlib.Core.Path.{◌≡◌, refl, sym, ◌∙◌}
use mathlib.Core.List.{List}
use mathlib.Core.Bool.{Bool, true, false, ◌&&◌, ◌||◌, or_comm}
use mathlib.Core.Logic.{◌⊎◌, ⊎_elim}
use lib.ListN.{get_or}
use Rattle.sets.specs.Sets.{member}
use Rattle.summaries.specs.Proposal.{edge}
use Rattle.summaries.specs.Summaries.{Summary}
use Rattle.graphs.specs.Inner.Graphs.{holds, Keeps}
use Rattle.patterns.specs.Inner.Rounds.{any_below}
use Rattle.sets.proofs.Laws.{member_zero}
use Rattle.sets.proofs.Booleans.{and_both, and_left, and_right, alike}
use Rattle.patterns.proofs.Tests.{any_below_lem, below_any}
use Rattle.reach.specs.Inner.Promises.{edges_by, EdgeTable}
use Rattle.reach.proofs.Filling.{Filled}

-- Those of the gaps below g.
module _ (graph : List ℕ) (n gaps : ℕ) where
  abbrev pub EdgesTo : ℕ → ℕ → Type 0
  EdgesTo g all = (G : Summary) → Keeps graph G → (m : ℕ) → member all m ≡ any_below g (λ k. member gaps k && G (edge n k m))

  pub edges_none : EdgesTo 0 0
  unfolding any_below
  edges_none G keeps m = member_zero m

  one_more : (g : ℕ) (p : ℕ → Bool) → any_below (g + 1) p ≡ (p g || any_below g p)
  unfolding any_below
  one_more g p = let e : g + 1 ≡ suc g = omega arith in rw e refl

  pub edges_more : (g all own more : ℕ) → n < 32 → g < 8 → member gaps g ≡ true → ((m : ℕ) → member own m ≡ holds graph (edge n g m))
      → ((m : ℕ) → member more m ≡ (member all m || member own m)) → EdgesTo g all → EdgesTo (g + 1) more
  edges_more g all own more low few held is both so_far G keeps m =
      both m ∙ rw (so_far G keeps m, is m, one_more g (λ k. member gaps k && G (edge n k m)), held, keeps.same (edge n g m) (low, few))
      (or_comm (any_below g (λ k. member gaps k && G (edge n k m))) (holds graph (edge n g m)))

  pub edges_past : (g all : ℕ) → member gaps g ≡ false → EdgesTo g all → EdgesTo (g + 1) all
  edges_past g all absent so_far G keeps m = so_far G keeps m ∙ sym (one_more g (λ k. member gaps k && G (edge n k m)) ∙ rw absent refl)

  -- Those of all gaps: what every gap of the set leads to, and nothing else.
  pub edges_by_lem : n < 32 → (r : ℕ) → ((g k : ℕ) → g < 8 → member gaps g ≡ true → holds graph (edge n g k) ≡ true → member r k ≡ true)
      → ((k : ℕ) → member r k ≡ true → (g : ℕ) × (g < 8) × (member gaps g ≡ true) × (holds graph (edge n g k) ≡ true))
      → (G : Summary) → Keeps graph G → (m : ℕ) → member r m ≡ edges_by G n gaps m
  edges_by_lem low r adds no_other G keeps m = alike (member r m) (edges_by G n gaps m) to back
    where
      to : member r m ≡ true → edges_by G n gaps m ≡ true
      to e =
          let (i, l, held, t) = no_other m e in
          any_below_lem 8 (λ k. member gaps k && G (edge n k m)) i l (and_both _ _ held (keeps.same (edge n i m) (low, l) ∙ t))

      back : edges_by G n gaps m ≡ true → member r m ≡ true
      back e =
          let (i, l, p) = below_any 8 (λ k. member gaps k && G (edge n k m)) e in
          adds i m l (and_left (member gaps i) (G (edge n i m)) p) (sym (keeps.same (edge n i m) (low, l)) ∙ and_right (member gaps i) (G (edge n i m)) p)

-- The edges from a template, of those to templates of a set.
abbrev pub EdgesAt : Summary → List ℕ → ℕ → ℕ → ℕ → Type 0
EdgesAt G gaps yields i w = (m : ℕ) → member w m ≡ (edges_by G i (get_or gaps i 0) m && member yields m)

pub edges_all : (G : Summary) (gaps : List ℕ) (yields count n : ℕ) (table : List ℕ) → (count < n) ⊎ (32 ≤ n) → n ≤ count + 1
    → Filled (EdgesAt G gaps yields) 32 n table → EdgeTable G gaps count yields table
edges_all G gaps yields count n table end near t = record {
  there = λ i m h low. t.below i (past i h low end) m;
  not_there = λ i h. t.others i (omega arith);
}
  where
    past : (i : ℕ) → i ≤ count → i < 32 → (count < n) ⊎ (32 ≤ n) → i < n
    past i h low = ⊎_elim (λ e. omega arith) (λ e. omega arith)
