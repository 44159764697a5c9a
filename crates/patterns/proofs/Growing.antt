-- Rounds keep order: from larger sets they work out larger ones, of patterns, of contents and of templates reached. A round reads no
-- more of the pattern sets than their patterns below the size, of the templates that are there.
use Prim.Native.Nat.{ℕ, suc, ◌<◌}
use mathlib.Core.Path.{◌≡◌, refl, sym, ◌∙◌}
use mathlib.Core.List.{List, [], ◌∷◌}
use mathlib.Core.Bool.{Bool, true, ◌&&◌, ◌||◌}
use mathlib.Core.Logic.{⊎_elim}
use lib.ListN.{length}
use Rattle.pages.specs.Items.{Item, text, blank, gap, element, Items, none, more}
use Rattle.programs.specs.Program.{template_at}
use Rattle.summaries.specs.Proposal.{root, edge}
use Rattle.summaries.specs.Summaries.{Summary}
use Rattle.patterns.specs.Inner.Morphisms.{Morphism}
use Rattle.patterns.specs.Inner.Rounds.{Set, Sets, only, any_below, any_template, attributes_take, gap_takes, all_take, item_takes, patterns, item_patterns, round}
use Rattle.patterns.specs.Inner.Reached.{leads_to, contents_of, item_contents, reach_round, content_round}
use Rattle.patterns.proofs.Tests.{any_below_lem, below_any}
use Rattle.sets.proofs.Booleans.{or_left, or_right, or_cases, and_both, and_left, and_right, alike}
use Rattle.patterns.proofs.Members.{Within, Same}
use Rattle.patterns.proofs.Exact.{in_product, factors}

module _ (φs : List Items) (G : Summary) (R : Morphism) where
  -- How much of the sets a round reads.
  abbrev pub WithinSets : Sets → Sets → Type 0
  WithinSets = Within (suc (length φs)) R.size

  module _ (X Y : Sets) (within : WithinSets X Y) where
    gap_takes_more : (n g : ℕ) → gap_takes φs G R X n g ≡ true → gap_takes φs G R Y n g ≡ true
    gap_takes_more n g e =
        let (m, hm, p) = below_any (suc (length φs)) (λ k. G (edge n g k) && any_below R.size (X k)) e in
        let (x, hx, q) = below_any R.size (X m) (and_right (G (edge n g m)) (any_below R.size (X m)) p) in
        any_below_lem (suc (length φs)) (λ k. G (edge n g k) && any_below R.size (Y k)) m hm
        (and_both _ _ (and_left (G (edge n g m)) (any_below R.size (X m)) p) (any_below_lem R.size (Y m) x hx (within m x hm hx q)))

    mutual
      unfolding all_take

      takes_more : (φ : Items) (n : ℕ) → all_take φs G R X n φ ≡ true → all_take φs G R Y n φ ≡ true
      takes_more none n e = refl
      takes_more (more i φ) n e = and_both _ _
          (item_takes_more i n (and_left (item_takes φs G R X n i) (all_take φs G R X n φ) e))
          (takes_more φ n (and_right (item_takes φs G R X n i) (all_take φs G R X n φ) e))

      item_takes_more : (i : Item) (n : ℕ) → item_takes φs G R X n i ≡ true → item_takes φs G R Y n i ≡ true
      item_takes_more text n e = refl
      item_takes_more blank n e = refl
      item_takes_more (gap g) n e = gap_takes_more n g e
      item_takes_more (element e' mark δ φ) n e = and_both _ _
          (and_left (attributes_take G n δ) (all_take φs G R X n φ) e)
          (takes_more φ n (and_right (attributes_take G n δ) (all_take φs G R X n φ) e))

    mutual
      unfolding patterns

      pub patterns_more : (φ : Items) (n z : ℕ) → patterns φs G R X n φ z ≡ true → patterns φs G R Y n φ z ≡ true
      patterns_more none n z e = e
      patterns_more (more i φ) n z e =
          let f = factors R (item_patterns φs G R X n i) (patterns φs G R X n φ) z e in
          in_product R (item_patterns φs G R Y n i) (patterns φs G R Y n φ) f.first f.second z f.first_below f.second_below
          (item_patterns_more i n f.first f.first_below f.in_first_lem) (patterns_more φ n f.second f.in_second) f.joined

      item_patterns_more : (i : Item) (n x : ℕ) → x < R.size → item_patterns φs G R X n i x ≡ true → item_patterns φs G R Y n i x ≡ true
      item_patterns_more text n x h e = e
      item_patterns_more blank n x h e = e
      item_patterns_more (gap g) n x h e =
          let (m, hm, p) = below_any (suc (length φs)) (λ k. G (edge n g k) && X k x) e in
          any_below_lem (suc (length φs)) (λ k. G (edge n g k) && Y k x) m hm
          (and_both _ _ (and_left (G (edge n g m)) (X m x) p) (within m x hm h (and_right (G (edge n g m)) (X m x) p)))
      item_patterns_more (element e' mark δ φ) n x h e =
          let t = and_left (attributes_take G n δ && all_take φs G R X n φ) (only (R.of (e' ∷ [])) x) e in
          and_both _ _
          (and_both _ _ (and_left (attributes_take G n δ) (all_take φs G R X n φ) t) (takes_more φ n (and_right (attributes_take G n δ) (all_take φs G R X n φ) t)))
          (and_right (attributes_take G n δ && all_take φs G R X n φ) (only (R.of (e' ∷ [])) x) e)

    pub round_more : (n x : ℕ) → round φs G R X n x ≡ true → round φs G R Y n x ≡ true
    unfolding round
    round_more n x e = patterns_more (template_at φs n) n x e

  -- Sets that agree where a round reads them give the same round.
  pub round_same : (X Y : Sets) → Same (suc (length φs)) R.size X Y → (n x : ℕ) → round φs G R X n x ≡ round φs G R Y n x
  round_same X Y same n x = alike (round φs G R X n x) (round φs G R Y n x)
      (round_more X Y (λ m y hm hy e. sym (same m y hm hy) ∙ e) n x)
      (round_more Y X (λ m y hm hy e. same m y hm hy ∙ e) n x)

-- The same of contents, and of the templates that are reached.
module _ (φs : List Items) (G : Summary) (Y : Set) where
  module _ (M : ℕ) (C E : Sets) (within : Within (suc (length φs)) M C E) where
    mutual
      unfolding contents_of

      contents_more : (φ : Items) (n c : ℕ) → c < M → contents_of φs G C n φ c ≡ true → contents_of φs G E n φ c ≡ true
      contents_more none n c h e = e
      contents_more (more i φ) n c h e = ⊎_elim
          (λ t. or_left (item_contents φs G E n i c) (contents_of φs G E n φ c) (item_contents_more i n c h t))
          (λ t. or_right (item_contents φs G E n i c) (contents_of φs G E n φ c) (contents_more φ n c h t))
          (or_cases (item_contents φs G C n i c) (contents_of φs G C n φ c) e)

      item_contents_more : (i : Item) (n c : ℕ) → c < M → item_contents φs G C n i c ≡ true → item_contents φs G E n i c ≡ true
      item_contents_more text n c h e = e
      item_contents_more blank n c h e = e
      item_contents_more (gap g) n c h e =
          let (m, hm, p) = below_any (suc (length φs)) (λ k. G (edge n g k) && C k c) e in
          any_below_lem (suc (length φs)) (λ k. G (edge n g k) && E k c) m hm
          (and_both _ _ (and_left (G (edge n g m)) (C m c) p) (within m c hm h (and_right (G (edge n g m)) (C m c) p)))
      item_contents_more (element e' mark δ φ) n c h e = e

    pub content_round_more : (n c : ℕ) → c < M → content_round φs G Y C n c ≡ true → content_round φs G Y E n c ≡ true
    unfolding content_round
    content_round_more n c h e = and_both _ _
        (and_left (Y n) (contents_of φs G C n (template_at φs n) c) e)
        (contents_more (template_at φs n) n c h (and_right (Y n) (contents_of φs G C n (template_at φs n) c) e))

  pub reach_round_more : (S T : Set) → ((n : ℕ) → n < suc (length φs) → S n ≡ true → T n ≡ true)
      → (n : ℕ) → reach_round φs G Y S n ≡ true → reach_round φs G Y T n ≡ true
  unfolding reach_round
  reach_round_more S T within n e = and_both _ _
      (and_left (Y n) (G (root n) || any_template φs (from S)) e)
      (⊎_elim
      (λ g. or_left (G (root n)) (any_template φs (from T)) g)
      (λ a.
      let (m, hm, p) = below_any (suc (length φs)) (from S) a in
      or_right (G (root n)) (any_template φs (from T))
      (any_below_lem (suc (length φs)) (from T) m hm
      (and_both _ _ (within m hm (and_left (S m) (leads_to G m n (template_at φs m)) p)) (and_right (S m) (leads_to G m n (template_at φs m)) p))))
      (or_cases (G (root n)) (any_template φs (from S)) (and_right (Y n) (G (root n) || any_template φs (from S)) e)))
    where
      from : Set → ℕ → Bool
      from U m = U m && leads_to G m n (template_at φs m)
