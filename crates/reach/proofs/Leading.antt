-- The contents of the templates that a template leads to, through gaps among outer items and templates of which pages come, are
-- those that can stand in its pages.
use Prim.Native.Nat.{ℕ, suc, ◌≤◌, ◌<◌}
use native.Mathlib.Omega.{arith}
use mathlib.Core.Path.{◌≡◌, sym, subst, ◌∙◌}
use mathlib.Core.List.{List}
use mathlib.Core.Bool.{Bool, true, not, ◌&&◌, ◌||◌}
use mathlib.Core.Logic.{⊎_elim}
use lib.ListN.{length, get_or}
use lib.Dec.{eqb, ltb, leb}
use borrow.Author.Tests.{eqb-true, lt-ltb, ltb-true, le-leb, leb-true}
use Rattle.sets.specs.Sets.{member}
use Rattle.vocabularies.specs.Vocabulary.{is_in}
use Rattle.pages.specs.Items.{Items}
use Rattle.pages.specs.RightPages.{word}
use Rattle.programs.specs.Program.{template_at}
use Rattle.summaries.specs.Proposal.{edge}
use Rattle.summaries.specs.Summaries.{Summary}
use Rattle.patterns.specs.Inner.Rounds.{Sets}
use Rattle.patterns.specs.Inner.Reached.{Yields, contents_of}
use Rattle.patterns.specs.Inner.Exactness.{YieldsExact, ContentsExact}
use Rattle.patterns.proofs.Tests.{eqb_same, any_below_lem, below_any}
use Rattle.sets.proofs.Booleans.{and_both, and_left, and_right, implied, implies, alike}
use Rattle.patterns.proofs.Contents.{occurs_made, occurs_found}
use Rattle.pages.specs.Inner.Gaps.{has_gap}
use Rattle.reach.specs.Inner.Closures.{ClosedUnder}
use Rattle.reach.specs.Inner.Outlines.{gap_among, Outline}
use Rattle.reach.specs.Inner.Promises.{EdgeTable, GraphKept, OutlinesTo, LedContents}
use Rattle.reach.proofs.Sets.{not_in_zero}
use Rattle.reach.proofs.Outlining.{contents_from, contents_own, contents_brought}
use Rattle.reach.proofs.Reaching.{edge_yields, edge_gap, gap_edge}

-- What a template leads to.
module _ (targets contents : List ℕ) (yields : ℕ) where
  abbrev Led : ℕ → ℕ → Type 0
  Led n r = LedContents n targets contents yields r

  led_yields : (n r : ℕ) (L : Led n r) (k : ℕ) → member L.led k ≡ true → member yields n ≡ true
  led_yields n r L k h =
      L.closure.least (λ _. member yields n) (λ i e. and_right (eqb i n) (member yields n) (sym (L.is_start i) ∙ e)) (λ i j e p. e) k h

  led_itself : (n r : ℕ) (L : Led n r) → member yields n ≡ true → member L.led n ≡ true
  led_itself n r L y = L.closure.starts n (L.is_start n ∙ and_both _ _ (eqb_same n) y)

  led_through : (n m r q : ℕ) (L : Led n r) (M : Led m q) → member L.led m ≡ true → (k : ℕ) → member M.led k ≡ true → member L.led k ≡ true
  led_through n m r q L M h = M.closure.least (member L.led)
      (λ i e. subst (λ (j : ℕ). member L.led j ≡ true) (sym (eqb-true i m (and_left (eqb i m) (member yields m) (sym (M.is_start i) ∙ e)))) h)
      L.closure.closed

  led_content : (n r : ℕ) (L : Led n r) (c : ℕ) → member r c ≡ true → (k : ℕ) × (member L.led k ≡ true) × (member (get_or contents k 0) c ≡ true)
  led_content n r L c e = ⊎_elim (λ z. absurd (not_in_zero c z)) (λ h. h) (L.united.no_other c e)

module _ (φs : List Items) (G : Summary) (graph contents gaps : List ℕ) (count yields : ℕ) (kept : GraphKept φs G graph count)
    (outlines : OutlinesTo φs count contents gaps) (exact : YieldsExact φs G (member yields)) (targets : List ℕ) (t : EdgeTable G gaps count yields targets)
    (r : List ℕ) (led : (n : ℕ) → n ≤ count → LedContents n targets contents yields (get_or r n 0)) where
  outline : (n : ℕ) → n ≤ length φs → Outline (template_at φs n) (get_or contents n 0) (get_or gaps n 0)
  outline n h = let same = kept.counts in let few = kept.few in outlines n (omega arith) (omega arith)

  led_there : (n : ℕ) → n ≤ length φs → LedContents n targets contents yields (get_or r n 0)
  led_there n h = let same = kept.counts in led n (omega arith)

  abbrev E : Sets
  E n c = member (get_or r n 0) c

  -- The sets leave nothing out that a round adds.
  complete : (n c : ℕ) → n ≤ length φs → Yields φs G n → contents_of φs G E n (template_at φs n) c ≡ true → E n c ≡ true
  complete n c h y e = ⊎_elim own (λ (g, i, b). brought g i (below_any (suc (length φs)) (λ m. G (edge n g m) && E m c) b)) (contents_from φs G E n c (template_at φs n) e)
    where
      L : LedContents n targets contents yields (get_or r n 0)
      L = led_there n h

      itself : member L.led n ≡ true
      itself = led_itself targets contents yields n (get_or r n 0) L ((exact n h).1 y)

      own : is_in c (word (template_at φs n)) ≡ true → E n c ≡ true
      own i = L.united.adds n c itself ((outline n h).contents c ∙ i)

      brought : (g : ℕ) → gap_among (template_at φs n) g ≡ true → (m : ℕ) × (m < suc (length φs)) × ((G (edge n g m) && E m c) ≡ true) → E n c ≡ true
      brought g i (m, l, p) =
          let M = led_there m (omega arith) in
          let (k, in_led, in_contents) = led_content targets contents yields m (get_or r m 0) M c (and_right (G (edge n g m)) (E m c) p) in
          let open_gap : has_gap (get_or gaps n 0) g ≡ true = sym ((outline n h).gaps g) ∙ i in
          let same = kept.counts in
          let to_m = gap_edge G gaps targets count yields t kept.few n g m (omega arith) (ltb-true g 8 (and_left (ltb g 8) (member (get_or gaps n 0) g) open_gap))
          (and_right (ltb g 8) (member (get_or gaps n 0) g) open_gap) (and_left (G (edge n g m)) (E m c) p) (led_yields targets contents yields m (get_or r m 0) M k in_led) in
          L.united.adds k c (led_through targets contents yields n m (get_or r n 0) (get_or r m 0) L M (L.closure.closed n m itself to_m) k in_led) in_contents

  module _ (C : Sets) (is : ContentsExact φs G C) where
    -- What a round adds is in exact sets.
    settled : (m c : ℕ) → m ≤ length φs → member yields m ≡ true → contents_of φs G C m (template_at φs m) c ≡ true → C m c ≡ true
    settled m c h y e =
        let (page, d) = (exact m h).0 y in
        (is m c h).1 (occurs_made φs G kept.bounded C (λ k b l. (is k b l).0) d c e)

    -- Of the templates that n leads to: pages come of them, and what stands in theirs can stand in those of n.
    module _ (n c : ℕ) (h : n ≤ length φs) where
      L : LedContents n targets contents yields (get_or r n 0)
      L = led_there n h

      abbrev hands : ℕ → Bool
      hands k = leb k count && (member yields k && (not (C k c) || C n c))

      handed : (k : ℕ) → hands k ≡ true → (k ≤ count) × (member yields k ≡ true) × (C k c ≡ true → C n c ≡ true)
      handed k e =
          let q = and_right (leb k count) (member yields k && (not (C k c) || C n c)) e in (
            leb-true k count (and_left (leb k count) (member yields k && (not (C k c) || C n c)) e),
            and_left (member yields k) (not (C k c) || C n c) q,
            implied (C k c) (C n c) (and_right (member yields k) (not (C k c) || C n c) q),
          )

      hand : (k : ℕ) → k ≤ count → member yields k ≡ true → (C k c ≡ true → C n c ≡ true) → hands k ≡ true
      hand k l y f = and_both _ _ (le-leb k count l) (and_both _ _ y (implies (C k c) (C n c) f))

      first_hands : (k : ℕ) → member L.start k ≡ true → hands k ≡ true
      first_hands k e =
          let p = sym (L.is_start k) ∙ e in
          let same = kept.counts in
          let q : k ≡ n = eqb-true k n (and_left (eqb k n) (member yields n) p) in
          hand k (omega arith) (subst (λ (j : ℕ). member yields j ≡ true) (sym q) (and_right (eqb k n) (member yields n) p)) (λ i. subst (λ (j : ℕ). C j c ≡ true) q i)

      next_hands : ClosedUnder targets hands
      next_hands i k e p =
          let (there, y, f) = handed i e in
          let same = kept.counts in
          let (g, low, in_gaps, is_edge) = edge_gap G gaps targets count yields t kept.few i k p in
          let k_there : k ≤ length φs = kept.bounded.edges i g k is_edge in
          hand k (omega arith) (edge_yields G gaps targets count yields t kept.few i k p)
          (λ in_k. f (settled i c (omega arith) y (contents_brought φs G C i c (template_at φs i) g ((outline i (omega arith)).gaps g ∙ and_both _ _ (lt-ltb g 8 low) in_gaps)
          (any_below_lem (suc (length φs)) (λ m. G (edge i g m) && C m c) k (omega arith) (and_both _ _ is_edge in_k)))))

      sound : E n c ≡ true → C n c ≡ true
      sound e =
          let same = kept.counts in
          let (k, in_led, in_contents) = led_content targets contents yields n (get_or r n 0) L c e in
          let (there, y, f) = handed k (L.closure.least hands first_hands next_hands k in_led) in
          f (settled k c (omega arith) y (contents_own φs G C k c (template_at φs k) (sym ((outline k (omega arith)).contents c) ∙ in_contents)))

      found : C n c ≡ true → E n c ≡ true
      found e = let (page, d, i) = (is n c h).0 e in complete n c h (page, d) (occurs_found φs G kept.bounded E complete d c i)

      pub contents_same : E n c ≡ C n c
      contents_same = alike (E n c) (C n c) sound found
