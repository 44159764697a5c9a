-- A round of pattern sets as words is that of the definitions: a template's set is worked out, or kept if it takes from none that has
-- changed.
use Prim.Native.Nat.{ℕ, suc, ◌<◌, ◌≤◌}
use mathlib.Core.Path.{◌≡◌, refl, sym, ap, ◌∙◌}
use mathlib.Core.List.{List, [], ◌∷◌}
use mathlib.Core.Bool.{Bool, true, false, ◌&&◌, false≢true}
use mathlib.Core.Logic.{◌⊎◌}
use native.Mathlib.Omega.{arith}
use lib.ListN.{length, get_or}
use lib.Dec.{eqb}
use borrow.Author.Tests.{eqb-true}
use Rattle.std.specs.Prelude.{Option, Some}
use Rattle.sets.specs.Sets.{member}
use Rattle.sets.proofs.Laws.{member_zero}
use Rattle.pages.specs.Items.{Item, text, blank, gap, Items, gap_in, gap_in_item}
use Rattle.pages.specs.Items as Items
use Rattle.programs.specs.Program.{template_at}
use Rattle.summaries.specs.Proposal.{edge}
use Rattle.summaries.specs.Summaries.{Summary}
use Rattle.patterns.specs.Inner.Morphisms.{Morphism}
use Rattle.patterns.specs.Inner.Given.{Bounded}
use Rattle.patterns.specs.Inner.Rounds.{Set, Sets, only, any_below, attributes_take, all_take, patterns, item_patterns, round}
use Rattle.patterns.proofs.Tests.{eqb_same, any_below_lem, below_any}
use Rattle.sets.proofs.Booleans.{or_left, or_right, and_both, and_left, and_right, alike, refuted}
use Rattle.patterns.proofs.Lawful.{Lawful}
use Rattle.patterns.proofs.Products.{Monoid, some_pattern}
use Rattle.pattern_sets.specs.Inner.PatternSets.{holds}
use Rattle.schemes.specs.declared.Scheme.{Scheme}
use Rattle.schemes.specs.Inner.Schemes.{Is}
use Rattle.graphs.specs.Inner.Graphs as Graphs
use Rattle.languages.specs.declared.Patterned.{Patterned}
use Rattle.languages.specs.Inner.Tables.{SetsAre, GapSetsAre, Shown}
use Rattle.languages.specs.Inner.Promises.{ListPatterns, IsRound, Targets, TargetsTable, KeepsSet, OnlyChanged, CameOf, Rounds}
use Rattle.languages.proofs.Uses.{lawful, monoid, is_as, product_as, unit_set}
use Rattle.languages.proofs.GapNumbers.{gaps_low}
use Rattle.languages.proofs.GapSets.{FilledTo, filled_up}

-- ---- one template

no_template : (φs : List Items) → template_at φs 0 ≡ Items.none
unfolding template_at
no_template [] = refl
no_template (φ ∷ φs) = refl

module _ (r : Scheme) (s graph starts : List ℕ) (φs : List Items) (G : Summary) (M : Morphism) (X : Sets) (shown : Shown r s graph starts φs G M) where
  pub template_zero : (n : ℕ) → n ≡ 0 → (row : List ℕ) → ((y : ℕ) → holds row y ≡ eqb y 0) → Is M row (round φs G M X n)
  unfolding round patterns
  template_zero n z row unit = rw (z, no_template φs) (unit_set shown.lent.reads shown.lent.used row unit)

  pub template_list : (n : ℕ) → n ≤ length φs → (n ≡ 0 → ⊥) → (takes : List (List ℕ)) → GapSetsAre φs G M X n takes → (p : Patterned)
      → ListPatterns s (get_or starts n 0) r graph n takes p → Is M p.set (round φs G M X n)
  unfolding round
  template_list n there ne takes sets p L =
      let st = shown.stand n (omega arith) there in
      (L φs G M X shown.lent sets st.ruled st.fuel 0 st.end (template_at φs n) st.reads).is

-- ---- a template that takes from no set that has changed

-- The patterns of items hang on what their gaps take alone, and so does whether their gaps have something to take.
module _ (φs : List Items) (G : Summary) (M : Morphism) (lawful : Lawful M) (monoid : Monoid M) (bounded : Bounded φs G) (X Y : Sets) (n : ℕ) where
  any_same : (A B : Set) → ((x : ℕ) → x < M.size → A x ≡ B x) → any_below M.size A ≡ any_below M.size B
  any_same A B e = alike (any_below M.size A) (any_below M.size B)
      (λ h. let (x, l, p) = below_any M.size A h in any_below_lem M.size B x l (sym (e x l) ∙ p))
      (λ h. let (x, l, p) = below_any M.size B h in any_below_lem M.size A x l (e x l ∙ p))

  takes_same : (φ : Items) → ((z : ℕ) → z < M.size → patterns φs G M X n φ z ≡ patterns φs G M Y n φ z) → all_take φs G M X n φ ≡ all_take φs G M Y n φ
  takes_same φ e = sym (some_pattern φs G bounded M lawful monoid X n φ)
      ∙ (any_same (patterns φs G M X n φ) (patterns φs G M Y n φ) e ∙ some_pattern φs G bounded M lawful monoid Y n φ)

  abbrev GapSame : ℕ → Type 0
  GapSame g = (x : ℕ) → x < M.size → item_patterns φs G M X n (gap g) x ≡ item_patterns φs G M Y n (gap g) x

  mutual
    unfolding patterns gap_in

    items_same : (φ : Items) → ((g : ℕ) → gap_in φ g ≡ true → GapSame g) → (z : ℕ) → z < M.size → patterns φs G M X n φ z ≡ patterns φs G M Y n φ z
    items_same Items.none same z l = refl
    items_same (Items.more i φ) same z l = product_as M (item_patterns φs G M X n i) (item_patterns φs G M Y n i) (patterns φs G M X n φ) (patterns φs G M Y n φ)
        (λ x h. item_same i (λ g p. same g (or_left (gap_in_item i g) (gap_in φ g) p)) x h)
        (λ x h. items_same φ (λ g p. same g (or_right (gap_in_item i g) (gap_in φ g) p)) x h) z

    item_same : (i : Item) → ((g : ℕ) → gap_in_item i g ≡ true → GapSame g) → (z : ℕ) → z < M.size → item_patterns φs G M X n i z ≡ item_patterns φs G M Y n i z
    item_same text same z l = refl
    item_same blank same z l = refl
    item_same (gap g) same z l = same g (eqb_same g) z l
    item_same (Items.element e mark δ φ) same z l = ap (λ (t : Bool). attributes_take G n δ && t && only (M.of (e ∷ [])) z)
        (takes_same φ (λ x h. items_same φ same x h))

module _ (r : Scheme) (s graph starts : List ℕ) (φs : List Items) (G : Summary) (M : Morphism) (X Y : Sets) (shown : Shown r s graph starts φs G M)
    (changed : ℕ) (only_changed : OnlyChanged φs M X Y changed) where
  -- The templates that have changed are none to which there is an edge.
  pub round_same : (n : ℕ) → n < 32 → n ≤ length φs → (targets : ℕ) → Targets graph n targets → ((k : ℕ) → member targets k ≡ true → member changed k ≡ false)
      → (z : ℕ) → z < M.size → round φs G M X n z ≡ round φs G M Y n z
  unfolding round patterns
  round_same n low there targets T apart z l =
      items_same φs G M (lawful shown.lent.used) (monoid shown.lent.used) shown.lent.bounded X Y n (template_at φs n)
      (λ g p. gap_same g (gaps_low s starts φs shown.stand n there g p)) z l
    where
      unchanged : (g m x : ℕ) → g < 8 → x < M.size → G (edge n g m) ≡ true → X m x ≡ Y m x
      unchanged g m x lg lx e =
          only_changed m x (shown.lent.bounded.edges n g m e) lx (apart m (T g m lg (sym (shown.lent.keeps.same (edge n g m) (low, lg)) ∙ e)))

      taken_too : (g x : ℕ) (A B : Sets) → ((m : ℕ) → G (edge n g m) ≡ true → A m x ≡ B m x)
          → any_below (suc (length φs)) (λ m. G (edge n g m) && A m x) ≡ true → any_below (suc (length φs)) (λ m. G (edge n g m) && B m x) ≡ true
      taken_too g x A B e h =
          let (m, hm, p) = below_any (suc (length φs)) (λ k. G (edge n g k) && A k x) h in
          any_below_lem (suc (length φs)) (λ k. G (edge n g k) && B k x) m hm
          (and_both _ _ (and_left (G (edge n g m)) (A m x) p) (sym (e m (and_left (G (edge n g m)) (A m x) p)) ∙ and_right (G (edge n g m)) (A m x) p))

      gap_same : (g : ℕ) → g < 8 → (x : ℕ) → x < M.size → item_patterns φs G M X n (gap g) x ≡ item_patterns φs G M Y n (gap g) x
      gap_same g lg x lx = alike (any_below (suc (length φs)) (λ m. G (edge n g m) && X m x)) (any_below (suc (length φs)) (λ m. G (edge n g m) && Y m x))
          (taken_too g x X Y (λ m e. unchanged g m x lg lx e)) (taken_too g x Y X (λ m e. sym (unchanged g m x lg lx e)))

-- ---- the targets of templates

-- The gaps before a place have their edges in the set.
module _ (graph : List ℕ) (n : ℕ) where
  abbrev pub TargetsTo : ℕ → ℕ → Type 0
  TargetsTo all g = (k m : ℕ) → k < g → Graphs.holds graph (edge n k m) ≡ true → member all m ≡ true

-- ---- a round

module _ (targets others common : ℕ) (is : (k : ℕ) → member common k ≡ (member targets k && member others k)) where
  none_common : common ≡ 0 → (k : ℕ) → member targets k ≡ true → member others k ≡ false
  none_common z k t = refuted (member others k) (λ c. false≢true (sym (ap (λ (w : ℕ). member w k) z ∙ member_zero k) ∙ (is k ∙ and_both _ _ t c)))

  pub kept_by : (changed : Option ℕ) → changed ≡ Some others → (t : Bool) → eqb common 0 ≡ t → KeepsSet targets changed t
  kept_by changed some true e = (others, some, none_common (eqb-true common 0 e))
  kept_by changed some false e = tt

module _ (r : Scheme) (s graph starts targets : List ℕ) (sets : List (List ℕ)) (count : ℕ) (changed : Option ℕ) where
  -- What a row is to be in the round that is made.
  abbrev pub RowIs : ℕ → List ℕ → Type 0
  RowIs n row = (φs : List Items) (G : Summary) (M : Morphism) (X Y : Sets) → Shown r s graph starts φs G M
      → TargetsTable graph count targets → count ≡ length φs → SetsAre φs M X sets → CameOf φs G M X changed sets Y → n ≤ length φs → Is M row (round φs G M X n)

  pub row_computed : (n : ℕ) (row : List ℕ) → IsRound r s graph starts sets n row → RowIs n row
  row_computed n row is φs G M X Y shown table counted are came h = is φs G M X shown are h

  pub row_kept : (n : ℕ) → n < 32 → (t : Bool) → t ≡ true → KeepsSet (get_or targets n 0) changed t → RowIs n (get_or sets n [])
  row_kept n low false e kept = absurd (false≢true e)
  row_kept n low true e (others, some, apart) = λ φs G M X Y shown table counted are came h.
      let (only_changed, before) = came others some in
      is_as (get_or sets n []) (round φs G M Y n) (round φs G M X n) (before n h)
      (λ x l. sym (round_same r s graph starts φs G M X Y shown others only_changed n low h (get_or targets n 0) (table n low (omega arith)) apart x l))

  pub round_all : (next : List (List ℕ)) (n : ℕ) → (count < n) ⊎ (32 ≤ n) → FilledTo 32 [] RowIs next n → Rounds r s graph starts targets sets count changed next
  round_all next n ended so_far φs G M X Y shown table counted are came k h =
      let few = shown.few in
      filled_up 32 [] RowIs next n count ended so_far k (omega arith) (omega arith) φs G M X Y shown table counted are came h
