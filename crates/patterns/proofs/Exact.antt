-- Pattern sets are exact. `found`: sets that a round does not leave hold the pattern of every page that is derived. `made`: every
-- pattern of a round is that of a page that is derived. So the sets of a round after which nothing changes hold exactly the patterns
-- of the pages that come of each template; and what is worked out from them for any items of a template, as the contents of an
-- element, is exact too.
use Prim.Native.Nat.{ℕ, zero, suc, ◌≤◌, ◌<◌}
use native.Mathlib.Omega.{arith}
use mathlib.Core.Path.{◌≡◌, refl, sym, ap, ap₂, ◌∙◌}
use mathlib.Core.List.{List, [], ◌∷◌}
use mathlib.Core.Bool.{true, ◌&&◌, false≢true}
use mathlib.Core.Logic.{◌↔◌}
use lib.ListN.{length}
use borrow.Author.Tests.{eqb-true, eq-eqb}
use Rattle.pages.specs.Items.{Item, text, blank, gap, element, Items, none, more, one, ◌⋈◌}
use Rattle.pages.specs.RightPages.{word}
use Rattle.programs.specs.Program.{template_at}
use Rattle.summaries.specs.Proposal.{edge}
use Rattle.summaries.specs.Summaries.{Summary}
use Rattle.summaries.specs.Languages.{Derives, ItemDerives, nothing, item_then, text_stays, blank_stays, gap_filled, element_keeps}
use Rattle.patterns.specs.Inner.Morphisms.{Morphism}
use Rattle.patterns.specs.Inner.Given.{Bounded}
use Rattle.patterns.specs.Inner.Rounds.{Set, Sets, only, any_below, iterate, attributes_take, all_take, item_takes, product, patterns, item_patterns, round, rounds, Settled}
use Rattle.patterns.specs.Inner.Exactness.{Derivable, Exact}
use Rattle.patterns.proofs.Tests.{eqb_same, any_below_lem, below_any}
use Rattle.sets.proofs.Booleans.{and_both, and_left, and_right}
use Rattle.patterns.proofs.Words.{word_⋈}
use Rattle.patterns.proofs.Lawful.{Lawful}
use Rattle.patterns.proofs.Attributes.{filled_take, take_filled}

module _ (φs : List Items) (G : Summary) (R : Morphism) where
  -- Sets that a round does not leave, and sets that hold only derived patterns.
  abbrev pub Kept : Sets → Type 0
  Kept X = (n x : ℕ) → n ≤ length φs → round φs G R X n x ≡ true → X n x ≡ true

  abbrev pub Sound : Sets → Type 0
  Sound X = (n x : ℕ) → n ≤ length φs → X n x ≡ true → Derivable φs G R n (template_at φs n) x

-- Members of a product.
pub in_product : (R : Morphism) (A B : Set) (x y z : ℕ) → x < R.size → y < R.size → A x ≡ true → B y ≡ true → z ≡ R.op x y
    → product R A B z ≡ true
in_product R A B x y z hx hy a b e = any_below_lem R.size (λ x'. A x' && any_below R.size (λ y'. B y' && only (R.op x' y') z)) x hx
    (and_both _ _ a (any_below_lem R.size (λ y'. B y' && only (R.op x y') z) y hy (and_both _ _ b (eq-eqb z (R.op x y) e))))

pub record Factors (R : Morphism) (A B : Set) (z : ℕ) : Type 0 where
  pub first : ℕ
  pub second : ℕ
  pub first_below : first < R.size
  pub second_below : second < R.size
  pub in_first_lem : A first ≡ true
  pub in_second : B second ≡ true
  pub joined : z ≡ R.op first second

pub factors : (R : Morphism) (A B : Set) (z : ℕ) → product R A B z ≡ true → Factors R A B z
factors R A B z e =
    let (x, hx, p) = below_any R.size (λ x'. A x' && any_below R.size (λ y'. B y' && only (R.op x' y') z)) e in
    let (y, hy, q) = below_any R.size (λ y'. B y' && only (R.op x y') z)
    (and_right (A x) (any_below R.size (λ y'. B y' && only (R.op x y') z)) p) in
    record {
      first = x;
      second = y;
      first_below = hx;
      second_below = hy;
      in_first_lem = and_left (A x) (any_below R.size (λ y'. B y' && only (R.op x y') z)) p;
      in_second = and_left (B y) (only (R.op x y) z) q;
      joined = eqb-true z (R.op x y) (and_right (B y) (only (R.op x y) z) q);
    }

module _ (φs : List Items) (G : Summary) (bounded : Bounded φs G) (R : Morphism) (lawful : Lawful R) where
  -- Where there is a pattern, every gap has something to take.
  mutual
    unfolding patterns all_take

    pub pattern_takes : (φ : Items) (X : Sets) (n x : ℕ) → patterns φs G R X n φ x ≡ true → all_take φs G R X n φ ≡ true
    pattern_takes none X n x e = refl
    pattern_takes (more i φ) X n x e =
        let f = factors R (item_patterns φs G R X n i) (patterns φs G R X n φ) x e in
        and_both _ _ (item_pattern_takes i X n f.first f.first_below f.in_first_lem) (pattern_takes φ X n f.second f.in_second)

    item_pattern_takes : (i : Item) (X : Sets) (n x : ℕ) → x < R.size → item_patterns φs G R X n i x ≡ true → item_takes φs G R X n i ≡ true
    item_pattern_takes text X n x h e = refl
    item_pattern_takes blank X n x h e = refl
    item_pattern_takes (gap g) X n x h e =
        let (m, hm, p) = below_any (suc (length φs)) (λ m. G (edge n g m) && X m x) e in
        any_below_lem (suc (length φs)) (λ m'. G (edge n g m') && any_below R.size (X m')) m hm
        (and_both _ _ (and_left (G (edge n g m)) (X m x) p) (any_below_lem R.size (X m) x h (and_right (G (edge n g m)) (X m x) p)))
    item_pattern_takes (element e' mark δ φ) X n x h e =
        and_left (attributes_take G n δ && all_take φs G R X n φ) (only (R.of (e' ∷ [])) x) e

  module _ (X : Sets) (kept : Kept φs G R X) where
    mutual
      unfolding round patterns word

      pub found : {n : ℕ} {φ page : Items} → Derives φs G n φ page → patterns φs G R X n φ (R.of (word page)) ≡ true
      found nothing = eqb_same (R.of [])
      found {n} (item_then {i = i} {φ = φ} {u = u} {v = v} {w = w} d ds e) =
          in_product R (item_patterns φs G R X n i) (patterns φs G R X n φ) (R.of (word u)) (R.of (word v)) (R.of (word w))
          (lawful.below (word u)) (lawful.below (word v)) (found_item d) (found ds)
          (ap (λ (χ : Items). R.of (word χ)) e ∙ ap R.of (word_⋈ u v) ∙ lawful.joins (word u) (word v))

      found_item : {n : ℕ} {i : Item} {u : Items} → ItemDerives φs G n i u → item_patterns φs G R X n i (R.of (word u)) ≡ true
      found_item text_stays = eqb_same (R.of (0 ∷ []))
      found_item blank_stays = eqb_same (R.of [])
      found_item (gap_filled {n = n} {g = g} {φ' = φ'} m e d) =
          any_below_lem (suc (length φs)) (λ m'. G (edge n g m') && X m' (R.of (word φ'))) m
          (let h : m ≤ length φs = bounded.edges n g m e in omega arith)
          (and_both _ _ e (kept m (R.of (word φ')) (bounded.edges n g m e) (found d)))
      found_item (element_keeps {n = n} {e = e} {φ = φ} {φ' = φ'} a d) =
          and_both _ _ (and_both _ _ (filled_take φs G bounded a) (pattern_takes φ X n (R.of (word φ')) (found d))) (eqb_same (R.of (e ∷ [])))

  module _ (X : Sets) (sound : Sound φs G R X) where
    -- Items whose gaps all have something to take yield a page.
    mutual
      unfolding all_take

      pub filled_items : (φ : Items) (n : ℕ) → all_take φs G R X n φ ≡ true → (page : Items) × Derives φs G n φ page
      filled_items none n e = (none, nothing)
      filled_items (more i φ) n e =
          let (u, d) = filled_item i n (and_left (item_takes φs G R X n i) (all_take φs G R X n φ) e) in
          let (v, ds) = filled_items φ n (and_right (item_takes φs G R X n i) (all_take φs G R X n φ) e) in
          (u ⋈ v, item_then d ds refl)

      filled_item : (i : Item) (n : ℕ) → item_takes φs G R X n i ≡ true → (u : Items) × ItemDerives φs G n i u
      filled_item text n e = (one text, text_stays)
      filled_item blank n e = (one blank, blank_stays)
      filled_item (gap g) n e =
          let (m, hm, p) = below_any (suc (length φs)) (λ m'. G (edge n g m') && any_below R.size (X m')) e in
          let (x, hx, q) = below_any R.size (X m) (and_right (G (edge n g m)) (any_below R.size (X m)) p) in
          let (page, d, r) = sound m x (omega arith) q in
          (page, gap_filled m (and_left (G (edge n g m)) (any_below R.size (X m)) p) d)
      filled_item (element e' mark δ φ) n e =
          let (δ', a) = take_filled φs G bounded n δ (and_left (attributes_take G n δ) (all_take φs G R X n φ) e) in
          let (φ', d) = filled_items φ n (and_right (attributes_take G n δ) (all_take φs G R X n φ) e) in
          (one (element e' mark δ' φ'), element_keeps a d)

    mutual
      unfolding patterns word

      pub made : (φ : Items) (n x : ℕ) → patterns φs G R X n φ x ≡ true → Derivable φs G R n φ x
      made none n x e = (none, nothing, sym (eqb-true x (R.of []) e))
      made (more i φ) n x e =
          let f = factors R (item_patterns φs G R X n i) (patterns φs G R X n φ) x e in
          let (u, d, p) = made_item i n f.first f.in_first_lem in
          let (v, ds, q) = made φ n f.second f.in_second in (
            u ⋈ v,
            item_then d ds refl,
            ap R.of (word_⋈ u v) ∙ lawful.joins (word u) (word v) ∙ ap₂ R.op p q ∙ sym f.joined,
          )

      made_item : (i : Item) (n x : ℕ) → item_patterns φs G R X n i x ≡ true
          → (u : Items) × ItemDerives φs G n i u × (R.of (word u) ≡ x)
      made_item text n x e = (one text, text_stays, sym (eqb-true x (R.of (0 ∷ [])) e))
      made_item blank n x e = (one blank, blank_stays, sym (eqb-true x (R.of []) e))
      made_item (gap g) n x e =
          let (m, hm, p) = below_any (suc (length φs)) (λ m'. G (edge n g m') && X m' x) e in
          let (page, d, q) = sound m x (omega arith) (and_right (G (edge n g m)) (X m x) p) in
          (page, gap_filled m (and_left (G (edge n g m)) (X m x) p) d, q)
      made_item (element e' mark δ φ) n x e =
          let t = and_left (attributes_take G n δ && all_take φs G R X n φ) (only (R.of (e' ∷ [])) x) e in
          let (δ', a) = take_filled φs G bounded n δ (and_left (attributes_take G n δ) (all_take φs G R X n φ) t) in
          let (φ', d) = filled_items φ n (and_right (attributes_take G n δ) (all_take φs G R X n φ) t) in (
            one (element e' mark δ' φ'),
            element_keeps a d,
            sym (eqb-true x (R.of (e' ∷ [])) (and_right (attributes_take G n δ && all_take φs G R X n φ) (only (R.of (e' ∷ [])) x) e)),
          )

  -- From derived patterns a round works out derived ones; so every pattern of every round is derived.
  pub round_sound : (X : Sets) → Sound φs G R X → Sound φs G R (round φs G R X)
  unfolding round
  round_sound X sound n x h e = made X sound (template_at φs n) n x e

  pub rounds_sound : (t : ℕ) → Sound φs G R (rounds φs G R t)
  unfolding rounds iterate
  rounds_sound zero n x h e = absurd (false≢true e)
  rounds_sound (suc t) n x h e = round_sound (rounds φs G R t) (rounds_sound t) n x h e

  -- Derived patterns, to which a round adds none, are all that there are.
  pub exact_of : (X : Sets) → Sound φs G R X → Kept φs G R X → Exact φs G R X
  unfolding round
  exact_of X sound kept n x h = (sound n x h, λ (page, d, p). kept n x h (rw (← p) (found X kept d)))

  settled_kept : (X : Sets) → Sound φs G R X → Settled φs G R X → Kept φs G R X
  settled_kept X sound settled n x h e =
      let (page, d, p) = round_sound X sound n x h e in
      sym (settled n x h (rw (← p) (lawful.below (word page)))) ∙ e

  -- The sets of a round after which nothing changes are exact.
  pub exact : (t : ℕ) → Settled φs G R (rounds φs G R t) → Exact φs G R (rounds φs G R t)
  exact t settled = exact_of (rounds φs G R t) (rounds_sound t) (settled_kept (rounds φs G R t) (rounds_sound t) settled)

  -- From exact sets the patterns of any items of a template are exact, as of the contents of an element in it.
  pub contents_exact : (X : Sets) → Exact φs G R X → (n : ℕ) (φ : Items) (x : ℕ) → patterns φs G R X n φ x ≡ true ↔ Derivable φs G R n φ x
  unfolding round
  contents_exact X ex n φ x = (made X sound φ n x, λ (page, d, p). rw (← p) (found X kept d))
    where
      sound : Sound φs G R X
      sound m y h = (ex m y h).0

      kept : Kept φs G R X
      kept m y h e = (ex m y h).1 (made X sound (template_at φs m) m y e)

  -- From exact sets every gap of items has something to take exactly if some page comes of them.
  pub takes_exact : (X : Sets) → Exact φs G R X → (n : ℕ) (φ : Items) → all_take φs G R X n φ ≡ true ↔ ((page : Items) × Derives φs G n φ page)
  takes_exact X ex n φ = (
    filled_items X (λ m y h. (ex m y h).0) φ n,
    λ (page, d). pattern_takes φ X n (R.of (word page)) ((contents_exact X ex n φ (R.of (word page))).1 (page, d, refl)),
  )
