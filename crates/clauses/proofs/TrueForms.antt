-- The patterns under which a formula is true, form by form: at each pattern the formula is judged as at an element.
use Rattle.std.specs.Prelude.{Some, None}
use Prim.Native.Nat.{ℕ, ◌^◌, ◌<◌, ◌≤◌}
use mathlib.Core.Path.{◌≡◌, refl, sym, ap, ap₂, ◌∙◌}
use mathlib.Core.List.{List, [], ◌∷◌}
use mathlib.Core.Bool.{Bool, true, false, not, ◌&&◌, ◌||◌, false≢true}
use native.Mathlib.Omega.{arith}
use lib.ListN.{length}
use lib.Dec.{ltb}
use lib.Pow.{pow_pos, pow_mono}
use borrow.Author.Tests.{ltb-true, ltb-false}
use Rattle.sets.specs.Sets.{member}
use Rattle.sets.proofs.Laws.{member_high}
use Rattle.vocabularies.specs.Vocabulary.{conj, disj, neg, truth, attr, content, order, value}
use Rattle.vocabularies.specs.VocabularyReading.{binary, unary, leaf}
use Rattle.vocabularies.specs.Inner.Promises.{Begins}
use Rattle.vocabularies.specs.declared.Facts.{Facts}
use Rattle.vocabularies.specs.Facts.{Fact, carried, present, ordered, valued}
use Rattle.judging.specs.Inner.Judgement.{truth_of}
use Rattle.judging.proofs.Evaluation.{conj_held, disj_held, neg_held, truth_held, attr_held, content_held, order_held, value_held}
use Rattle.patterns.specs.Inner.Patterns.{atoms_by}
use Rattle.patterns.specs.Inner.Rounds.{any_below}
use Rattle.patterns.proofs.Tests.{any_below_lem, below_any}
use Rattle.sets.proofs.Booleans.{and_left, refuted}
use Rattle.pattern_sets.specs.Inner.PatternSets.{holds, IsEmpty}
use Rattle.pattern_sets.specs.Inner.Images.{AllFlagged}
use Rattle.pattern_sets.proofs.Tables.{below, passed}
use Rattle.schemes.specs.Inner.Promises.{Places}
use Rattle.schemes.proofs.FactPlaces.{flag_placed}
use Rattle.clauses.specs.declared.Truths.{Truths}
use Rattle.clauses.specs.Inner.Promises.{FlaggedBy, UnbrokenBy, TruePatterns, ClauseFails}

-- ---- the sets of which truths are made

pub all_held : (x : ℕ) → x < 256
    → holds (0xFFFF_FFFF_FFFF_FFFF ∷ 0xFFFF_FFFF_FFFF_FFFF ∷ 0xFFFF_FFFF_FFFF_FFFF ∷ 0xFFFF_FFFF_FFFF_FFFF ∷ []) x ≡ true
unfolding holds member
all_held x h =
    passed (holds (0xFFFF_FFFF_FFFF_FFFF ∷ 0xFFFF_FFFF_FFFF_FFFF ∷ 0xFFFF_FFFF_FFFF_FFFF ∷ 0xFFFF_FFFF_FFFF_FFFF ∷ []) x)
    (below 256 (holds (0xFFFF_FFFF_FFFF_FFFF ∷ 0xFFFF_FFFF_FFFF_FFFF ∷ 0xFFFF_FFFF_FFFF_FFFF ∷ 0xFFFF_FFFF_FFFF_FFFF ∷ [])) tt x h)

-- A pattern of at most eight facts.
pub small : (fs : List Fact) → length fs ≤ 8 → (x : ℕ) → x < 2 ^ length fs → x < 256
small fs few x h = let p : 2 ^ length fs ≤ 2 ^ 8 = pow_mono few in omega arith

module _ (t : Facts) where
  pub flagged_placed : (f : Fact) (place : ℕ) (r : List ℕ) → Places t f (Some place) → AllFlagged place r → FlaggedBy t f r
  flagged_placed f place r placed all fs h few x b =
      all x (small fs few x b) ∙ ap (member x) (placed.place fs h few).1 ∙ sym (flag_placed fs f x b)

  -- A fact that is not there has no flag.
  pub flagged_nowhere : (f : Fact) (r : List ℕ) → Places t f None → ((x : ℕ) → holds r x ≡ false) → FlaggedBy t f r
  flagged_nowhere f r absent none fs h few x b =
      none x ∙ sym (flag_placed fs f x b ∙ ap (member x) (absent.place fs h few) ∙ member_high (length fs) x (length fs) b (omega arith))

-- ---- the forms, in the order of source 000's grammar

module _ (t : Facts) {v : List ℕ} {at : ℕ} where
  module _ {next : ℕ} (r₁ r₂ r : Truths) where
    pub true_conj : Begins v at (binary conj) next → TruePatterns t v next r₁ → TruePatterns t v r₁.next.at r₂ → r.next ≡ r₂.next
        → ((x : ℕ) → holds r.set x ≡ (holds r₁.set x && holds r₂.set x)) → TruePatterns t v at r
    true_conj B H₁ H₂ ends both fs h few x b =
        rw (ends, both x) (conj_held (atoms_by fs x) B (H₁ fs h few x b) (H₂ fs h few x b))

    pub true_disj : Begins v at (binary disj) next → TruePatterns t v next r₁ → TruePatterns t v r₁.next.at r₂ → r.next ≡ r₂.next
        → ((x : ℕ) → holds r.set x ≡ (holds r₁.set x || holds r₂.set x)) → TruePatterns t v at r
    true_disj B H₁ H₂ ends either fs h few x b =
        rw (ends, either x) (disj_held (atoms_by fs x) B (H₁ fs h few x b) (H₂ fs h few x b))

  pub true_neg : {next : ℕ} (r₁ r : Truths) → Begins v at (unary neg) next → TruePatterns t v next r₁ → r.next ≡ r₁.next
      → ((x : ℕ) → x < 256 → holds r.set x ≡ not (holds r₁.set x)) → TruePatterns t v at r
  true_neg r₁ r B H ends others fs h few x b =
      rw (ends, others x (small fs few x b)) (neg_held (atoms_by fs x) B (H fs h few x b))

  module _ (r : Truths) where
    pub true_truth : Begins v at (leaf truth) r.next.at → ((x : ℕ) → x < 256 → holds r.set x ≡ true) → TruePatterns t v at r
    true_truth B all fs h few x b = rw (all x (small fs few x b)) (truth_held (atoms_by fs x) B)

    pub true_attr : {a : ℕ} → Begins v at (leaf (attr a)) r.next.at → FlaggedBy t (carried a) r.set → TruePatterns t v at r
    unfolding atoms_by
    true_attr B flags fs h few x b = attr_held (atoms_by fs x) B (flags fs h few x b)

    pub true_content : {c : ℕ} → Begins v at (leaf (content c)) r.next.at → FlaggedBy t (present c) r.set → TruePatterns t v at r
    unfolding atoms_by
    true_content B flags fs h few x b = content_held (atoms_by fs x) B (flags fs h few x b)

    pub true_order : {c d : ℕ} → Begins v at (leaf (order c d)) r.next.at → UnbrokenBy t (ordered c d) r.set → TruePatterns t v at r
    unfolding atoms_by
    true_order B unbroken fs h few x b = order_held (atoms_by fs x) B (unbroken fs h few x b)

    pub true_value : {a m : ℕ} → Begins v at (leaf (value a m)) r.next.at → UnbrokenBy t (valued a m) r.set → TruePatterns t v at r
    unfolding atoms_by
    true_value B unbroken fs h few x b = value_held (atoms_by fs x) B (unbroken fs h few x b)

-- ---- a clause that fails

module _ (t : Facts) (v : List ℕ) (at : ℕ) (truths : Truths) (words falsehoods wrong : List ℕ) (none : Bool)
    (true_at : TruePatterns t v at truths) (others : (x : ℕ) → x < 256 → holds falsehoods x ≡ not (holds truths.set x))
    (both : (y : ℕ) → holds wrong y ≡ (holds words y && holds falsehoods y)) (empty : IsEmpty wrong none) where
  pub tells_failure : ClauseFails t words v at (record { fails = not none; next = truths.next })
  tells_failure fs h few E held f depth end ψ reads = ((true_of 0 (pow_pos (length fs))).0, told none empty)
    where
      true_of : (x : ℕ) → x < 2 ^ length fs → (truths.next.at ≡ end) × (holds truths.set x ≡ truth_of (atoms_by fs x) ψ)
      true_of x b = true_at fs h few x b f depth end ψ reads

      same : (x : ℕ) → x < 2 ^ length fs → holds wrong x ≡ (E x && not (truth_of (atoms_by fs x) ψ))
      same x b = both x ∙ ap₂ ◌&&◌ (held.inside x b) (others x (small fs few x b) ∙ ap not (true_of x b).1)

      below_size : (x : ℕ) → holds wrong x ≡ true → x < 2 ^ length fs
      below_size x e = go (ltb x (2 ^ length fs)) refl
        where
          go : (b : Bool) → ltb x (2 ^ length fs) ≡ b → x < 2 ^ length fs
          go true l = ltb-true x (2 ^ length fs) l
          go false l = absurd (false≢true (sym (held.outside x (ltb-false x (2 ^ length fs) l)) ∙ and_left (holds words x) (holds falsehoods x) (sym (both x) ∙ e)))

      told : (b : Bool) → IsEmpty wrong b → not b ≡ any_below (2 ^ length fs) (λ x. E x && not (truth_of (atoms_by fs x) ψ))
      told true nothing = sym (refuted (any_below (2 ^ length fs) (λ x. E x && not (truth_of (atoms_by fs x) ψ)))
          (λ e. let (x, b, q) = below_any (2 ^ length fs) (λ x. E x && not (truth_of (atoms_by fs x) ψ)) e in false≢true (sym (nothing x) ∙ same x b ∙ q)))
      told false (x, l, e) =
          let b = below_size x e in
          sym (any_below_lem (2 ^ length fs) (λ x. E x && not (truth_of (atoms_by fs x) ψ)) x b (sym (same x b) ∙ e))
