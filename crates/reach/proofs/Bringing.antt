-- The contents that a gap can bring: those of the templates of its edges.
use Prim.Native.Nat.{ℕ, suc, ◌≤◌, ◌<◌}
use native.Mathlib.Omega.{arith}
use mathlib.Core.Path.{◌≡◌, sym, ◌∙◌}
use mathlib.Core.List.{List}
use mathlib.Core.Bool.{Bool, true, ◌&&◌}
use mathlib.Core.Logic.{⊎_elim}
use lib.ListN.{length, get_or}
use Rattle.sets.specs.Sets.{member}
use Rattle.pages.specs.Items.{Items}
use Rattle.summaries.specs.Proposal.{edge}
use Rattle.summaries.specs.Summaries.{Summary}
use Rattle.graphs.specs.Inner.Graphs.{holds}
use Rattle.patterns.specs.Inner.Given.{contents}
use Rattle.patterns.specs.Inner.Rounds.{Sets, any_template}
use Rattle.patterns.proofs.Tests.{any_below_lem, below_any}
use Rattle.sets.proofs.Booleans.{and_both, and_left, and_right, alike}
use Rattle.reach.specs.Inner.Closures.{United}
use Rattle.reach.specs.Inner.Promises.{GraphKept}
use Rattle.reach.specs.Inner.Walking.{ContentsKept, TellsBrings}
use Rattle.reach.proofs.Sets.{not_in_zero}
use Rattle.reach.proofs.Filling.{Filled}

module _ (graph within : List ℕ) (n : ℕ) where
  abbrev pub BringsAt : ℕ → ℕ → Type 0
  BringsAt g w = (edges : ℕ) × ((m : ℕ) → member edges m ≡ holds graph (edge n g m)) × United 0 edges within w

  brings_at : n < 32 → (φs : List Items) (G : Summary) (C : Sets) (count : ℕ) → GraphKept φs G graph count → ContentsKept φs C within → (g c w : ℕ) → g < 8 → c < contents
      → BringsAt g w → member w c ≡ any_template φs (λ m. G (edge n g m) && C m c)
  brings_at low φs G C count kept is g c w h l (edges, are, u) = alike (member w c) (any_template φs some) to back
    where
      some : ℕ → Bool
      some m = G (edge n g m) && C m c

      edge_kept : (m : ℕ) → G (edge n g m) ≡ member edges m
      edge_kept m = kept.keeps.same (edge n g m) (low, h) ∙ sym (are m)

      to : member w c ≡ true → any_template φs some ≡ true
      to e = ⊎_elim
          (λ z. absurd (not_in_zero c z))
          (λ (m, p, q).
          let is_edge : G (edge n g m) ≡ true = edge_kept m ∙ p in
          let there : m ≤ length φs = kept.bounded.edges n g m is_edge in
          any_below_lem (suc (length φs)) some m (omega arith) (and_both _ _ is_edge (sym (is m c there l) ∙ q)))
          (u.no_other c e)

      back : any_template φs some ≡ true → member w c ≡ true
      back e =
          let (m, k, p) = below_any (suc (length φs)) some e in
          u.adds m c (sym (edge_kept m) ∙ and_left (G (edge n g m)) (C m c) p) (is m c (omega arith) l ∙ and_right (G (edge n g m)) (C m c) p)

  pub brings_all : n < 32 → (table : List ℕ) (g : ℕ) → 8 ≤ g → Filled BringsAt 8 g table → TellsBrings graph n within table
  brings_all low table g end f φs G C count kept is k c h l = brings_at low φs G C count kept is k c (get_or table k 0) h l (f.below k (omega arith))
