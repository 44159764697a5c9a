-- The contents that can stand in the pages of a template, and among what comes of any of its items: the sets are exact.
use Prim.Native.Nat.{ℕ, zero, suc, ◌≤◌, ◌<◌}
use native.Mathlib.Omega.{arith}
use mathlib.Core.Path.{◌≡◌, refl, sym, ap, subst, ◌∙◌}
use mathlib.Core.List.{List}
use mathlib.Core.Bool.{Bool, true, false, ◌&&◌, ◌||◌, or-false, false≢true}
use mathlib.Core.Logic.{◌↔◌, ◌⊎◌, inl, inr, ⊎_elim}
use lib.ListN.{length}
use lib.Dec.{eqb}
use borrow.Author.Tests.{eqb-true}
use Rattle.vocabularies.specs.Vocabulary.{is_in}
use Rattle.pages.specs.Items.{Item, text, element, Items, one, ◌⋈◌}
use Rattle.pages.specs.RightPages.{word, word_item, SomeElement, SomeElementOf}
use Rattle.programs.specs.Program.{template_at}
use Rattle.summaries.specs.Proposal.{edge}
use Rattle.summaries.specs.Summaries.{Summary}
use Rattle.summaries.specs.Languages.{Derives, ItemDerives, nothing, item_then, text_stays, blank_stays, gap_filled, element_keeps}
use Rattle.patterns.specs.Inner.Given.{Bounded, contents, NamesInRange}
use Rattle.patterns.specs.Inner.Rounds.{Set, Sets, iterate}
use Rattle.patterns.specs.Inner.Reached.{Yields, contents_of, item_contents, content_round, content_rounds}
use Rattle.patterns.specs.Inner.Exactness.{Occurs, ContentsExact, YieldsExact}
use Rattle.patterns.proofs.Tests.{any_below_lem, below_any}
use Rattle.sets.proofs.Booleans.{or_left, or_right, or_cases, and_both, and_left, and_right}
use Rattle.patterns.proofs.Words.{in_append, word_⋈}

module _ (φs : List Items) (G : Summary) where
  -- Contents that stand in pages, and sets of contents that a round does not leave.
  abbrev pub ContentsSound : Sets → Type 0
  ContentsSound C = (n c : ℕ) → n ≤ length φs → C n c ≡ true → Occurs φs G n (template_at φs n) c

  abbrev pub ContentsKept : Set → Sets → Type 0
  ContentsKept Y C = (n c : ℕ) → n ≤ length φs → c < contents → content_round φs G Y C n c ≡ true → C n c ≡ true

-- A content of items one after the other.
in_left : (c : ℕ) (u v : Items) → is_in c (word u) ≡ true → is_in c (word (u ⋈ v)) ≡ true
in_left c u v e = ap (is_in c) (word_⋈ u v) ∙ in_append c (word u) (word v) ∙ or_left (is_in c (word u)) (is_in c (word v)) e

in_right : (c : ℕ) (u v : Items) → is_in c (word v) ≡ true → is_in c (word (u ⋈ v)) ≡ true
in_right c u v e = ap (is_in c) (word_⋈ u v) ∙ in_append c (word u) (word v) ∙ or_right (is_in c (word u)) (is_in c (word v)) e

in_cases : (c : ℕ) (u v : Items) → is_in c (word (u ⋈ v)) ≡ true → (is_in c (word u) ≡ true) ⊎ (is_in c (word v) ≡ true)
in_cases c u v e = or_cases (is_in c (word u)) (is_in c (word v)) (sym (ap (is_in c) (word_⋈ u v) ∙ in_append c (word u) (word v)) ∙ e)

-- Of one content.
one_in : (b : Bool) → (b || false) ≡ true → b ≡ true
one_in b e = sym (or-false b) ∙ e

module _ (φs : List Items) (G : Summary) (named : NamesInRange φs) where
  mutual
    unfolding SomeElement word word_item is_in

    pub occurs_small : {n : ℕ} {φ page : Items} → Derives φs G n φ page → ((c : ℕ) → SomeElement (λ e mark δ χ. e ≡ c) φ → c < contents)
        → (c : ℕ) → is_in c (word page) ≡ true → c < contents
    occurs_small nothing small c h = absurd (false≢true h)
    occurs_small (item_then {u = u} {v = v} d ds e) small c h = ⊎_elim
        (λ t. item_occurs_small d (λ b s. small b (inl s)) c t)
        (λ t. occurs_small ds (λ b s. small b (inr s)) c t)
        (in_cases c u v (subst (λ (χ : Items). is_in c (word χ) ≡ true) e h))

    item_occurs_small : {n : ℕ} {i : Item} {u : Items} → ItemDerives φs G n i u → ((c : ℕ) → SomeElementOf (λ e mark δ χ. e ≡ c) i → c < contents)
        → (c : ℕ) → is_in c (word u) ≡ true → c < contents
    item_occurs_small text_stays small c h = let z : c ≡ 0 = eqb-true c 0 (one_in (eqb c 0) h) in omega arith
    item_occurs_small blank_stays small c h = absurd (false≢true h)
    item_occurs_small (gap_filled m e d) small c h = occurs_small d (named m) c h
    item_occurs_small (element_keeps {e = e} a d) small c h = small c (inl (sym (eqb-true c e (one_in (eqb c e) h))))

  -- What stands in a page is a content in range.
  pub occurs_in_range : (n c : ℕ) → Occurs φs G n (template_at φs n) c → c < contents
  occurs_in_range n c (page, d, h) = occurs_small d (named n) c h

module _ (φs : List Items) (G : Summary) (bounded : Bounded φs G) where
  -- What C tells of a template it tells of a page.
  module _ (C : Sets) (complete : (n c : ℕ) → n ≤ length φs → Yields φs G n → contents_of φs G C n (template_at φs n) c ≡ true → C n c ≡ true) where
    mutual
      unfolding contents_of word word_item is_in

      pub occurs_found : {n : ℕ} {φ page : Items} → Derives φs G n φ page → (c : ℕ) → is_in c (word page) ≡ true → contents_of φs G C n φ c ≡ true
      occurs_found nothing c h = absurd (false≢true h)
      occurs_found {n} (item_then {i = i} {φ = φ} {u = u} {v = v} d ds e) c h = ⊎_elim
          (λ t. or_left (item_contents φs G C n i c) (contents_of φs G C n φ c) (item_occurs_found d c t))
          (λ t. or_right (item_contents φs G C n i c) (contents_of φs G C n φ c) (occurs_found ds c t))
          (in_cases c u v (subst (λ (χ : Items). is_in c (word χ) ≡ true) e h))

      item_occurs_found : {n : ℕ} {i : Item} {u : Items} → ItemDerives φs G n i u → (c : ℕ) → is_in c (word u) ≡ true → item_contents φs G C n i c ≡ true
      item_occurs_found text_stays c h = one_in (eqb c 0) h
      item_occurs_found blank_stays c h = absurd (false≢true h)
      item_occurs_found (gap_filled {n = n} {g = g} {φ' = φ'} m e d) c h =
          any_below_lem (suc (length φs)) (λ m'. G (edge n g m') && C m' c) m
          (let le : m ≤ length φs = bounded.edges n g m e in omega arith)
          (and_both _ _ e (complete m c (bounded.edges n g m e) (φ', d) (occurs_found d c h)))
      item_occurs_found (element_keeps {e = e} a d) c h = one_in (eqb c e) h

  module _ (C : Sets) (sound : ContentsSound φs G C) where
    -- Where items yield a page, they yield one with any content that the sets tell.
    mutual
      unfolding contents_of word word_item is_in

      pub occurs_made : {n : ℕ} {φ page : Items} → Derives φs G n φ page → (c : ℕ) → contents_of φs G C n φ c ≡ true → Occurs φs G n φ c
      occurs_made nothing c e = absurd (false≢true e)
      occurs_made {n} (item_then {i = i} {φ = φ} {u = u} {v = v} d ds p) c e = ⊎_elim
          (λ t. let (u', d', h) = item_occurs_made d c t in (u' ⋈ v, item_then d' ds refl, in_left c u' v h))
          (λ t. let (v', ds', h) = occurs_made ds c t in (u ⋈ v', item_then d ds' refl, in_right c u v' h))
          (or_cases (item_contents φs G C n i c) (contents_of φs G C n φ c) e)

      item_occurs_made : {n : ℕ} {i : Item} {u : Items} → ItemDerives φs G n i u → (c : ℕ) → item_contents φs G C n i c ≡ true
          → (u' : Items) × ItemDerives φs G n i u' × (is_in c (word u') ≡ true)
      item_occurs_made text_stays c e = (one text, text_stays, or_left (eqb c 0) false e)
      item_occurs_made blank_stays c e = absurd (false≢true e)
      item_occurs_made (gap_filled {n = n} {g = g} m e' d) c e =
          let (m', h, p) = below_any (suc (length φs)) (λ k. G (edge n g k) && C k c) e in
          let (page, d', q) = sound m' c (omega arith) (and_right (G (edge n g m')) (C m' c) p) in
          (page, gap_filled m' (and_left (G (edge n g m')) (C m' c) p) d', q)
      item_occurs_made (element_keeps {e = e'} {mark = mark} {δ' = δ'} {φ' = φ'} a d) c e =
          (one (element e' mark δ' φ'), element_keeps a d, or_left (eqb c e') false e)

  module _ (Y : Set) (yields : YieldsExact φs G Y) where
    -- From contents that stand in pages a round finds such.
    pub content_round_sound : (C : Sets) → ContentsSound φs G C → ContentsSound φs G (content_round φs G Y C)
    unfolding content_round
    content_round_sound C sound n c h e =
        let (page, d) = (yields n h).0 (and_left (Y n) (contents_of φs G C n (template_at φs n) c) e) in
        occurs_made C sound d c (and_right (Y n) (contents_of φs G C n (template_at φs n) c) e)

    -- Contents that stand in pages, to which a round adds none, are all that do.
    pub contents_exact : NamesInRange φs → (C : Sets) → ContentsSound φs G C → ContentsKept φs G Y C → ContentsExact φs G C
    unfolding content_round
    contents_exact named C sound kept n c h = (sound n c h, λ (page, d, i). complete n c h (page, d) (occurs_found C complete d c i))
      where
        complete : (m b : ℕ) → m ≤ length φs → Yields φs G m → contents_of φs G C m (template_at φs m) b ≡ true → C m b ≡ true
        complete m b k y e = kept m b k (occurs_in_range φs G named m b (occurs_made C sound y.1 b e)) (and_both _ _ ((yields m k).1 y) e)

    pub content_rounds_sound : (t : ℕ) → ContentsSound φs G (content_rounds φs G Y t)
    unfolding content_rounds iterate
    content_rounds_sound zero n c h e = absurd (false≢true e)
    content_rounds_sound (suc t) n c h e = content_round_sound (content_rounds φs G Y t) (content_rounds_sound t) n c h e

  -- From exact sets the contents of any items of a template of which pages come are exact.
  pub items_contents_exact : (C : Sets) → ContentsExact φs G C → (n : ℕ) (φ page : Items) → Derives φs G n φ page
      → (c : ℕ) → contents_of φs G C n φ c ≡ true ↔ Occurs φs G n φ c
  items_contents_exact C ex n φ page d c = (
    occurs_made C (λ m b h. (ex m b h).0) d c,
    λ (page', d', i). occurs_found C (λ m b h y e. (ex m b h).1 (occurs_made C (λ m' b' h'. (ex m' b' h').0) y.1 b e)) d' c i,
  )
