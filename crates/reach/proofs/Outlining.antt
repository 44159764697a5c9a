-- Outlines of items, and the contents that can stand among them.
use Prim.Native.Nat.{ℕ, ◌≤◌, ◌<◌}
use native.Mathlib.Omega.{arith}
use mathlib.Core.Path.{◌≡◌, refl, sym, ap, subst, ◌∙◌}
use mathlib.Core.List.{List}
use mathlib.Core.Bool.{Bool, true, false, ◌&&◌, ◌||◌, or-false, and-false, false≢true}
use mathlib.Core.Logic.{◌⊎◌, inl, inr, ⊎_elim}
use lib.ListN.{length, get_or, get_or-eq_default}
use lib.Dec.{eqb, ltb}
use borrow.Author.Tests.{eqb-true, lt-ltb, ltb-true, ltb-false}
use Rattle.sets.specs.Sets.{member}
use Rattle.sets.proofs.Laws.{member_zero}
use Rattle.vocabularies.specs.Vocabulary.{is_in}
use Rattle.pages.specs.Items.{Attribute, Item, text, blank, gap, element, Items, none, more}
use Rattle.pages.specs.RightPages.{word, word_item}
use Rattle.summaries.specs.Proposal.{edge}
use Rattle.summaries.specs.Summaries.{Summary}
use Rattle.patterns.specs.Inner.Given.{contents}
use Rattle.patterns.specs.Inner.Rounds.{Sets, any_template}
use Rattle.patterns.specs.Inner.Reached.{contents_of, item_contents}
use Rattle.patterns.proofs.Tests.{eqb_same}
use Rattle.sets.proofs.Booleans.{or_left, or_right, or_cases, and_both, and_left, and_right, alike}
use Rattle.pages.specs.Inner.Gaps.{has_gap}
use Rattle.reach.specs.Inner.Closures.{United}
use Rattle.reach.specs.Inner.Outlines.{is_gap, gap_among, Outline}
use Rattle.reach.specs.Inner.Walking.{Brings}
use Rattle.reach.proofs.Sets.{not_in_zero, moved_first}

no_gap : (g : ℕ) → has_gap 0 g ≡ false
no_gap g = rw (member_zero g) (and-false (ltb g 8))

gap_is : (k g : ℕ) → k < 8 → eqb k g ≡ (ltb g 8 && eqb g k)
gap_is k g h = alike (eqb k g) (ltb g 8 && eqb g k)
    (λ e. let q : k ≡ g = eqb-true k g e in and_both _ _ (lt-ltb g 8 (omega arith)) (subst (λ (n : ℕ). eqb n k ≡ true) q (eqb_same k)))
    (λ e. let q : g ≡ k = eqb-true g k (and_right (ltb g 8) (eqb g k) e) in subst (λ (n : ℕ). eqb k n ≡ true) (sym q) (eqb_same k))

-- ---- outlines, one item after the other

-- The outline of items, with contents and gaps that stood before them.
pub record Outlined (inside gaps : ℕ) (φ : Items) (inside' gaps' : ℕ) : Type 0 where
  pub contents_in : (c : ℕ) → member inside' c ≡ (member inside c || is_in c (word φ))
  pub gaps_in : (g : ℕ) → has_gap gaps' g ≡ (has_gap gaps g || gap_among φ g)

pub outlined_none : (inside gaps : ℕ) → Outlined inside gaps none inside gaps
unfolding word is_in gap_among
outlined_none inside gaps = record { contents_in = λ c. sym (or-false (member inside c)); gaps_in = λ g. sym (or-false (has_gap gaps g)) }

pub outlined_all : (φ : Items) (inside gaps : ℕ) → Outlined 0 0 φ inside gaps → Outline φ inside gaps
outlined_all φ inside gaps o = record {
  contents = λ c. o.contents_in c ∙ rw (member_zero c);
  gaps = λ g. sym (o.gaps_in g ∙ ap (λ (b : Bool). b || gap_among φ g) (no_gap g));
}

module _ (inside gaps : ℕ) (φ : Items) (inside'' gaps'' : ℕ) where
  content_first : (e inside' : ℕ) → ((k : ℕ) → member inside' k ≡ (eqb k e || member inside k)) → ((c : ℕ) → member inside'' c ≡ (member inside' c || is_in c (word φ)))
      → (c : ℕ) → member inside'' c ≡ (member inside c || (eqb c e || is_in c (word φ)))
  content_first e inside' is all c = all c ∙ ap (λ (b : Bool). b || is_in c (word φ)) (is c) ∙ moved_first (eqb c e) (member inside c) (is_in c (word φ))

  pub outlined_text : (inside' : ℕ) → ((k : ℕ) → member inside' k ≡ (eqb k 0 || member inside k)) → Outlined inside' gaps φ inside'' gaps''
      → Outlined inside gaps (more text φ) inside'' gaps''
  unfolding word word_item is_in gap_among
  outlined_text inside' is o = record { contents_in = content_first 0 inside' is o.contents_in; gaps_in = o.gaps_in }

  pub outlined_blank : Outlined inside gaps φ inside'' gaps'' → Outlined inside gaps (more blank φ) inside'' gaps''
  unfolding word word_item is_in gap_among
  outlined_blank o = record { contents_in = o.contents_in; gaps_in = o.gaps_in }

  pub outlined_gap : (k gaps' : ℕ) → k < 8 → ((j : ℕ) → member gaps' j ≡ (eqb j k || member gaps j)) → Outlined inside gaps' φ inside'' gaps''
      → Outlined inside gaps (more (gap k) φ) inside'' gaps''
  unfolding word word_item is_in gap_among
  outlined_gap k gaps' low is o = record {
    contents_in = o.contents_in;
    gaps_in = λ g. o.gaps_in g ∙ ap (λ (b : Bool). b || gap_among φ g) (with_gap g) ∙ moved_first (eqb k g) (has_gap gaps g) (gap_among φ g);
  }
    where
      spread : (t u v : Bool) → (t && (u || v)) ≡ ((t && u) || (t && v))
      spread true u v = refl
      spread false u v = refl

      with_gap : (g : ℕ) → has_gap gaps' g ≡ (eqb k g || has_gap gaps g)
      with_gap g =
          ap (λ (b : Bool). ltb g 8 && b) (is g) ∙ spread (ltb g 8) (eqb g k) (member gaps g) ∙ ap (λ (b : Bool). b || has_gap gaps g) (sym (gap_is k g low))

  pub outlined_element : (e mark : ℕ) (δ : List Attribute) (χ : Items) (inside' : ℕ) → ((k : ℕ) → member inside' k ≡ (eqb k e || member inside k))
      → Outlined inside' gaps φ inside'' gaps'' → Outlined inside gaps (more (element e mark δ χ) φ) inside'' gaps''
  unfolding word word_item is_in gap_among
  outlined_element e mark δ χ inside' is o = record { contents_in = content_first e inside' is o.contents_in; gaps_in = o.gaps_in }

-- ---- the contents that can stand among items

module _ (φs : List Items) (G : Summary) (C : Sets) (n c : ℕ) where
  abbrev brought : ℕ → Bool
  brought g = any_template φs (λ m. G (edge n g m) && C m c)

  item_in : (i : Item) (φ : Items) → item_contents φs G C n i c ≡ true
      → (is_in c (word (more i φ)) ≡ true) ⊎ ((g : ℕ) × (gap_among (more i φ) g ≡ true) × (brought g ≡ true))
  unfolding contents_of word word_item is_in gap_among
  item_in text φ e = inl (or_left (eqb c 0) (is_in c (word φ)) e)
  item_in blank φ e = absurd (false≢true e)
  item_in (gap g) φ e = inr (g, or_left (eqb g g) (gap_among φ g) (eqb_same g), e)
  item_in (element e' mark δ χ) φ e = inl (or_left (eqb c e') (is_in c (word φ)) e)

  later_in : (i : Item) (φ : Items) → is_in c (word φ) ≡ true → is_in c (word (more i φ)) ≡ true
  unfolding word word_item is_in
  later_in text φ e = or_right (eqb c 0) (is_in c (word φ)) e
  later_in blank φ e = e
  later_in (gap g) φ e = e
  later_in (element e' mark δ χ) φ e = or_right (eqb c e') (is_in c (word φ)) e

  pub contents_from : (φ : Items) → contents_of φs G C n φ c ≡ true
      → (is_in c (word φ) ≡ true) ⊎ ((g : ℕ) × (gap_among φ g ≡ true) × (brought g ≡ true))
  unfolding contents_of gap_among
  contents_from none e = absurd (false≢true e)
  contents_from (more i φ) e = ⊎_elim
      (item_in i φ)
      (λ t. ⊎_elim
      (λ h. inl (later_in i φ h))
      (λ (g, h, b). inr (g, or_right (is_gap i g) (gap_among φ g) h, b))
      (contents_from φ t))
      (or_cases (item_contents φs G C n i c) (contents_of φs G C n φ c) e)

  pub contents_own : (φ : Items) → is_in c (word φ) ≡ true → contents_of φs G C n φ c ≡ true
  unfolding contents_of word word_item is_in
  contents_own none e = absurd (false≢true e)
  contents_own (more text φ) e = ⊎_elim (or_left (eqb c 0) (contents_of φs G C n φ c)) (λ t. or_right (eqb c 0) (contents_of φs G C n φ c) (contents_own φ t)) (or_cases (eqb c 0) (is_in c (word φ)) e)
  contents_own (more blank φ) e = contents_own φ e
  contents_own (more (gap g) φ) e = or_right (brought g) (contents_of φs G C n φ c) (contents_own φ e)
  contents_own (more (element e' mark δ χ) φ) e = ⊎_elim (or_left (eqb c e') (contents_of φs G C n φ c)) (λ t. or_right (eqb c e') (contents_of φs G C n φ c) (contents_own φ t)) (or_cases (eqb c e') (is_in c (word φ)) e)

  item_brings : (i : Item) (g : ℕ) → is_gap i g ≡ true → brought g ≡ true → item_contents φs G C n i c ≡ true
  unfolding contents_of
  item_brings text g h b = absurd (false≢true h)
  item_brings blank g h b = absurd (false≢true h)
  item_brings (gap k) g h b = subst (λ (j : ℕ). brought j ≡ true) (sym (eqb-true k g h)) b
  item_brings (element e mark δ χ) g h b = absurd (false≢true h)

  pub contents_brought : (φ : Items) (g : ℕ) → gap_among φ g ≡ true → brought g ≡ true → contents_of φs G C n φ c ≡ true
  unfolding contents_of gap_among
  contents_brought none g h b = absurd (false≢true h)
  contents_brought (more i φ) g h b = ⊎_elim
      (λ t. or_left (item_contents φs G C n i c) (contents_of φs G C n φ c) (item_brings i g t b))
      (λ t. or_right (item_contents φs G C n i c) (contents_of φs G C n φ c) (contents_brought φ g t b))
      (or_cases (is_gap i g) (gap_among φ g) h)

  -- By the outline, and the contents that gaps can bring.
  pub contents_by : (brings : List ℕ) → length brings ≡ 8 → Brings φs G C n brings → c < contents → (φ : Items) (inside gaps r : ℕ) → Outline φ inside gaps
      → United inside gaps brings r → member r c ≡ contents_of φs G C n φ c
  contents_by brings long brought_is low φ inside gaps r o u = alike (member r c) (contents_of φs G C n φ c) to back
    where
      by_gap : (g : ℕ) → member gaps g ≡ true → member (get_or brings g 0) c ≡ true → (b : Bool) → ltb g 8 ≡ b → contents_of φs G C n φ c ≡ true
      by_gap g h t true l = contents_brought φ g (o.gaps g ∙ and_both _ _ l h) (sym (brought_is g c (ltb-true g 8 l) low) ∙ t)
      by_gap g h t false l =
          let past : 8 ≤ g = ltb-false g 8 l in
          absurd (not_in_zero c (subst (λ (w : ℕ). member w c ≡ true) (get_or-eq_default brings 0 {n = g} (omega arith)) t))

      to : member r c ≡ true → contents_of φs G C n φ c ≡ true
      to e = ⊎_elim (λ t. contents_own φ (sym (o.contents c) ∙ t)) (λ (g, h, t). by_gap g h t (ltb g 8) refl) (u.no_other c e)

      back : contents_of φs G C n φ c ≡ true → member r c ≡ true
      back e = ⊎_elim
          (λ t. u.keeps c (o.contents c ∙ t))
          (λ (g, h, b).
          let p : has_gap gaps g ≡ true = sym (o.gaps g) ∙ h in
          let l : g < 8 = ltb-true g 8 (and_left (ltb g 8) (member gaps g) p) in
          u.adds g c (and_right (ltb g 8) (member gaps g) p) (brought_is g c l low ∙ b))
          (contents_from φ e)
