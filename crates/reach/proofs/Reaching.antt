-- The closure of the roots of which pages come, under the edges to templates of which pages come, has just the templates that are
-- reached.
use Prim.Native.Nat.{ℕ, ◌≤◌, ◌<◌}
use native.Mathlib.Omega.{arith}
use mathlib.Core.Path.{◌≡◌, sym, subst, ◌∙◌}
use mathlib.Core.List.{List}
use mathlib.Core.Bool.{true, ◌&&◌}
use mathlib.Core.Logic.{⊎_elim}
use lib.ListN.{length, get_or}
use lib.Dec.{ltb}
use borrow.Author.Tests.{lt-ltb, ltb-true, ltb-false}
use Rattle.sets.specs.Sets.{member}
use Rattle.pages.specs.Items.{Items}
use Rattle.pages.specs.Inner.Gaps.{GapsTable}
use Rattle.summaries.specs.Proposal.{root, edge}
use Rattle.summaries.specs.Summaries.{Summary}
use Rattle.graphs.specs.Inner.Graphs.{holds}
use Rattle.patterns.specs.Inner.Rounds.{Set}
use Rattle.patterns.specs.Inner.Reached.{Reached, from_root, through_gap}
use Rattle.patterns.specs.Inner.Exactness.{YieldsExact, ReachedExact}
use Rattle.patterns.proofs.Tests.{any_below_lem, below_any}
use Rattle.sets.proofs.Booleans.{and_both, and_left, and_right, alike, either}
use Rattle.patterns.proofs.Reaching.{reached_there}
use Rattle.reach.specs.Inner.Closures.{ClosedUnder, Closure}
use Rattle.reach.specs.Inner.Promises.{edges_by, EdgeTable, GraphKept}
use Rattle.reach.proofs.Sets.{not_in_zero}

-- What an edge of the table tells.
module _ (G : Summary) (gaps table : List ℕ) (count yields : ℕ) (t : EdgeTable G gaps count yields table) (few : count ≤ 31) where
  pub from_there : (n m : ℕ) → member (get_or table n 0) m ≡ true → n ≤ count
  from_there n m e = ⊎_elim
      (λ h. absurd (not_in_zero m (subst (λ (w : ℕ). member w m ≡ true) (t.not_there n (ltb-true count n h)) e)))
      (λ h. ltb-false count n h)
      (either (ltb count n))

  told : (n m : ℕ) → member (get_or table n 0) m ≡ true → (edges_by G n (get_or gaps n 0) m && member yields m) ≡ true
  told n m e = let h = from_there n m e in sym (t.there n m h (omega arith)) ∙ e

  pub edge_yields : (n m : ℕ) → member (get_or table n 0) m ≡ true → member yields m ≡ true
  edge_yields n m e = and_right (edges_by G n (get_or gaps n 0) m) (member yields m) (told n m e)

  pub edge_gap : (n m : ℕ) → member (get_or table n 0) m ≡ true
      → (g : ℕ) × (g < 8) × (member (get_or gaps n 0) g ≡ true) × (G (edge n g m) ≡ true)
  edge_gap n m e =
      let (g, h, p) = below_any 8 (λ i. member (get_or gaps n 0) i && G (edge n i m)) (and_left (edges_by G n (get_or gaps n 0) m) (member yields m) (told n m e)) in
      (g, h, and_left (member (get_or gaps n 0) g) (G (edge n g m)) p, and_right (member (get_or gaps n 0) g) (G (edge n g m)) p)

  pub gap_edge : (n g m : ℕ) → n ≤ count → g < 8 → member (get_or gaps n 0) g ≡ true → G (edge n g m) ≡ true → member yields m ≡ true
      → member (get_or table n 0) m ≡ true
  gap_edge n g m h l e p y =
      t.there n m h (omega arith) ∙ and_both _ _ (any_below_lem 8 (λ i. member (get_or gaps n 0) i && G (edge n i m)) g l (and_both _ _ e p)) y

module _ (φs : List Items) (G : Summary) (graph gaps : List ℕ) (count yields : ℕ) (kept : GraphKept φs G graph count) (gaps_are : GapsTable gaps φs)
    (exact : YieldsExact φs G (member yields)) (table : List ℕ) (t : EdgeTable G gaps count yields table)
    (start r : ℕ) (is_start : (k : ℕ) → member start k ≡ (holds graph (root k) && member yields k)) (c : Closure start table r) where
  root_kept : (k : ℕ) → G (root k) ≡ holds graph (root k)
  root_kept k = kept.keeps.same (root k) tt

  -- All that are reached.
  found : {n : ℕ} → Reached φs G n → member r n ≡ true
  found (from_root {r = n} g y) = c.starts n (is_start n ∙ and_both _ _ (sym (root_kept n) ∙ g) ((exact n (kept.bounded.roots n g)).1 y))
  found (through_gap {n = n} {g = g} {m = m} h i e y) =
      let there : n ≤ length φs = reached_there φs G kept.bounded h in
      let same : count ≡ length φs = kept.counts in
      let open_gap : (ltb g 8 && member (get_or gaps n 0) g) ≡ true = sym ((gaps_are n there).gaps g) ∙ i in
      c.closed n m (found h) (gap_edge G gaps table count yields t kept.few n g m (omega arith)
      (ltb-true g 8 (and_left (ltb g 8) (member (get_or gaps n 0) g) open_gap)) (and_right (ltb g 8) (member (get_or gaps n 0) g) open_gap) e
      ((exact m (kept.bounded.edges n g m e)).1 y))

  module _ (S : Set) (is : ReachedExact φs G S) where
    has_start : (k : ℕ) → member start k ≡ true → S k ≡ true
    has_start k e =
        let p = sym (is_start k) ∙ e in
        let g : G (root k) ≡ true = root_kept k ∙ and_left (holds graph (root k)) (member yields k) p in
        let there : k ≤ length φs = kept.bounded.roots k g in
        (is k there).1 (from_root g ((exact k there).0 (and_right (holds graph (root k)) (member yields k) p)))

    is_closed : ClosedUnder table S
    is_closed n m e p =
        let same : count ≡ length φs = kept.counts in
        let h : n ≤ count = from_there G gaps table count yields t kept.few n m p in
        let (g, l, i, q) = edge_gap G gaps table count yields t kept.few n m p in
        let there : m ≤ length φs = kept.bounded.edges n g m q in
        (is m there).1 (through_gap {n = n} {g = g} ((is n (omega arith)).0 e)
        ((gaps_are n (omega arith)).gaps g ∙ and_both _ _ (lt-ltb g 8 l) i) q
        ((exact m there).0 (edge_yields G gaps table count yields t kept.few n m p)))

    pub reached_same : (n : ℕ) → n ≤ length φs → member r n ≡ S n
    reached_same n h = alike (member r n) (S n) (c.least S has_start is_closed n) (λ e. found ((is n h).0 e))
