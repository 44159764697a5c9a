-- The templates from which pages come, and those that are reached: the tests are exact.
use Prim.Native.Nat.{ℕ, zero, suc, ◌≤◌}
use native.Mathlib.Omega.{arith}
use mathlib.Core.Path.{◌≡◌, refl, sym, subst}
use mathlib.Core.List.{List}
use mathlib.Core.Bool.{Bool, true, ◌&&◌, ◌||◌, false≢true}
use mathlib.Core.Logic.{⊎_elim}
use lib.ListN.{length}
use borrow.Author.Tests.{eqb-true}
use Rattle.pages.specs.Items.{Item, text, blank, gap, element, Items, none, more, gap_in, gap_in_item}
use Rattle.pages.specs.RightPages.{word}
use Rattle.programs.specs.Program.{template_at}
use Rattle.summaries.specs.Proposal.{root, edge}
use Rattle.summaries.specs.Summaries.{Summary}
use Rattle.patterns.specs.Inner.Morphisms.{Morphism}
use Rattle.patterns.specs.Inner.Given.{Bounded}
use Rattle.patterns.specs.Inner.Rounds.{Set, Sets, any_below, any_template, iterate}
use Rattle.patterns.specs.Inner.Reached.{Yields, Reached, from_root, through_gap, leads_to, item_leads_to, reach_round, reach_rounds}
use Rattle.patterns.specs.Inner.Exactness.{Exact, YieldsExact, ReachedExact}
use Rattle.patterns.proofs.Tests.{eqb_same, any_below_lem, below_any}
use Rattle.sets.proofs.Booleans.{or_left, or_right, or_cases, and_both, and_left, and_right}
use Rattle.patterns.proofs.Lawful.{Lawful}

module _ (φs : List Items) (G : Summary) where
  -- Pages come of a template exactly if its set, for any morphism, is not empty.
  pub yields_exact : (R : Morphism) → Lawful R → (X : Sets) → Exact φs G R X → YieldsExact φs G (λ n. any_below R.size (X n))
  yields_exact R lawful X ex n h = (to, back)
    where
      to : any_below R.size (X n) ≡ true → Yields φs G n
      to e =
          let (x, hx, p) = below_any R.size (X n) e in
          let (page, d, q) = (ex n x h).0 p in
          (page, d)

      back : Yields φs G n → any_below R.size (X n) ≡ true
      back (page, d) = any_below_lem R.size (X n) (R.of (word page)) (lawful.below (word page)) ((ex n (R.of (word page)) h).1 (page, d, refl))

-- A gap with an edge to template m.
module _ (G : Summary) (n m : ℕ) where
  mutual
    unfolding leads_to gap_in

    leads : (φ : Items) → leads_to G n m φ ≡ true → (g : ℕ) × (gap_in φ g ≡ true) × (G (edge n g m) ≡ true)
    leads none e = absurd (false≢true e)
    leads (more i φ) e = ⊎_elim
        (λ t. let (g, h, p) = item_leads i t in (g, or_left (gap_in_item i g) (gap_in φ g) h, p))
        (λ t. let (g, h, p) = leads φ t in (g, or_right (gap_in_item i g) (gap_in φ g) h, p))
        (or_cases (item_leads_to G n m i) (leads_to G n m φ) e)

    item_leads : (i : Item) → item_leads_to G n m i ≡ true → (g : ℕ) × (gap_in_item i g ≡ true) × (G (edge n g m) ≡ true)
    item_leads text e = absurd (false≢true e)
    item_leads blank e = absurd (false≢true e)
    item_leads (gap g) e = (g, eqb_same g, e)
    item_leads (element e' mark δ φ) e = leads φ e

  mutual
    unfolding leads_to gap_in

    gap_leads : (φ : Items) (g : ℕ) → gap_in φ g ≡ true → G (edge n g m) ≡ true → leads_to G n m φ ≡ true
    gap_leads none g h e = absurd (false≢true h)
    gap_leads (more i φ) g h e = ⊎_elim
        (λ t. or_left (item_leads_to G n m i) (leads_to G n m φ) (item_gap_leads i g t e))
        (λ t. or_right (item_leads_to G n m i) (leads_to G n m φ) (gap_leads φ g t e))
        (or_cases (gap_in_item i g) (gap_in φ g) h)

    item_gap_leads : (i : Item) (g : ℕ) → gap_in_item i g ≡ true → G (edge n g m) ≡ true → item_leads_to G n m i ≡ true
    item_gap_leads text g h e = absurd (false≢true h)
    item_gap_leads blank g h e = absurd (false≢true h)
    item_gap_leads (gap k) g h e = subst (λ (j : ℕ). G (edge n j m) ≡ true) (sym (eqb-true k g h)) e
    item_gap_leads (element e' mark δ φ) g h e = gap_leads φ g h e

module _ (φs : List Items) (G : Summary) where
  -- Templates that are reached, and sets of templates that a round does not leave.
  abbrev pub ReachedSound : Set → Type 0
  ReachedSound S = (n : ℕ) → n ≤ length φs → S n ≡ true → Reached φs G n

  abbrev pub ReachedKept : Set → Set → Type 0
  ReachedKept Y S = (n : ℕ) → n ≤ length φs → reach_round φs G Y S n ≡ true → S n ≡ true

module _ (φs : List Items) (G : Summary) (bounded : Bounded φs G) where
  pub reached_there : {n : ℕ} → Reached φs G n → n ≤ length φs
  reached_there (from_root {r = r} g y) = bounded.roots r g
  reached_there (through_gap {n = n} {g = g} {m = m} r h e y) = bounded.edges n g m e

  module _ (Y : Set) (yields : YieldsExact φs G Y) where
    -- Sets that a round does not leave hold every template that is reached.
    pub reached_found : (S : Set) → ReachedKept φs G Y S → {n : ℕ} → Reached φs G n → S n ≡ true
    unfolding reach_round
    reached_found S kept (from_root {r = r} g y) = kept r (bounded.roots r g)
        (and_both _ _ ((yields r (bounded.roots r g)).1 y)
        (or_left (G (root r)) (any_template φs (λ m. S m && leads_to G m r (template_at φs m))) g))
    reached_found S kept (through_gap {n = n} {g = g} {m = m} r h e y) = kept m (bounded.edges n g m e)
        (and_both _ _ ((yields m (bounded.edges n g m e)).1 y)
        (or_right (G (root m)) (any_template φs (λ k. S k && leads_to G k m (template_at φs k)))
        (any_below_lem (suc (length φs)) (λ k. S k && leads_to G k m (template_at φs k)) n
        (let le : n ≤ length φs = reached_there r in omega arith)
        (and_both _ _ (reached_found S kept r) (gap_leads G n m (template_at φs n) g h e)))))

    -- From templates that are reached a round finds such.
    pub reach_round_sound : (S : Set) → ReachedSound φs G S → ReachedSound φs G (reach_round φs G Y S)
    unfolding reach_round
    reach_round_sound S sound n h e =
        let y : Yields φs G n = (yields n h).0 (and_left (Y n) (G (root n) || any_template φs from) e) in
        ⊎_elim
        (λ g. from_root g y)
        (λ a.
        let (m, hm, p) = below_any (suc (length φs)) from a in
        let (g, k, q) = leads G m n (template_at φs m) (and_right (S m) (leads_to G m n (template_at φs m)) p) in
        through_gap (sound m (omega arith) (and_left (S m) (leads_to G m n (template_at φs m)) p)) k q y)
        (or_cases (G (root n)) (any_template φs from) (and_right (Y n) (G (root n) || any_template φs from) e))
      where
        from : ℕ → Bool
        from m = S m && leads_to G m n (template_at φs m)

    -- Templates that are reached, to which a round adds none, are all that are.
    pub reached_exact : (S : Set) → ReachedSound φs G S → ReachedKept φs G Y S → ReachedExact φs G S
    reached_exact S sound kept n h = (sound n h, reached_found S kept)

    pub reach_rounds_sound : (t : ℕ) → ReachedSound φs G (reach_rounds φs G Y t)
    unfolding reach_rounds iterate
    reach_rounds_sound zero n h e = absurd (false≢true e)
    reach_rounds_sound (suc t) n h e = reach_round_sound (reach_rounds φs G Y t) (reach_rounds_sound t) n h e
