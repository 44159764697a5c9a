-- A graph while items are taken from it.
use Prim.Native.Nat.{ℕ, ◌+◌, ◌*◌, ◌^◌, ◌<◌}
use mathlib.Core.Path.{◌≡◌, refl, sym, subst, ◌∙◌}
use mathlib.Core.List.{List}
use mathlib.Core.Logic.{◌⊎◌, inl, inr}
use mathlib.Core.Bool.{Bool, true, false, ◌&&◌, false≢true}
use native.Mathlib.Omega.{arith}
use lib.ListN.{length, get_or, set, length-set}
use lib.Seq.{get_or-set_same, get_or-set_other}
use lib.Dec.{eqb}
use borrow.Author.Tests.{eqb-true, eqb-false}
use Rattle.sets.specs.Sets.{member}
use Rattle.sets.proofs.Laws.{member_zero}
use Rattle.summaries.specs.Proposal.{Claim, root, edge, string, gap_from, attribute_gap_from, claim, any_at}
use Rattle.summaries.specs.Summaries.{Summary, says_claim}
use Rattle.summaries.specs.Inner.Listed.{HoldingFits, meaning_of}
use Rattle.summaries.specs.declared.Claim as Declared
use Rattle.summaries.specs.declared.Claim.TheVariants.{Root, Edge, String, AnyString, GapFrom, AttributeGapFrom}
use Rattle.graphs.specs.declared.Slot.{Slot}
use Rattle.graphs.specs.Inner.Graphs.{claim_word, is_kept, holds, Keeps, Forgotten}
use Rattle.graphs.specs.Inner.Promises.{SlotOf, OtherWord}
use Rattle.sets.proofs.Booleans.{or_left, or_right, or_cases, and_both, and_left, and_right, alike, refuted}
use Rattle.graphs.proofs.Claims.{says_alone}

-- A word is emptied.
module _ (words : List ℕ) (i : ℕ) (inside : i < length words) where
  abbrev emptied : List ℕ
  emptied = set words i 0

  word_then : (w : ℕ) → (get_or emptied w 0 ≡ 0) ⊎ (get_or emptied w 0 ≡ get_or words w 0)
  word_then w = go (eqb w i) refl
    where
      go : (t : Bool) → eqb w i ≡ t → (get_or emptied w 0 ≡ 0) ⊎ (get_or emptied w 0 ≡ get_or words w 0)
      go true e = inl (rw (eqb-true w i e) (get_or-set_same words i 0 0 inside))
      go false e = inr (get_or-set_other words i w 0 0 (eqb-false w i e))

  bit_before : (w k : ℕ) → member (get_or emptied w 0) k ≡ true → member (get_or words w 0) k ≡ true
  bit_before w k h = elim (word_then w) [
    | inl e ↦ absurd (false≢true (sym (member_zero k) ∙ (rw e at h)))
    | inr e ↦ rw e at h
  ]

  held_before : (c : Claim) → holds emptied c ≡ true → holds words c ≡ true
  held_before (root n) h = bit_before 0 n h
  held_before (edge n g m) h = bit_before (32 + n * 8 + g) m h
  held_before (string n k s) h = elim (or_cases (is_kept emptied (any_at n k)) (is_kept emptied (claim (string n k s))) h) [
    | inl e ↦ or_left _ _ (bit_before (17 + k) n e)
    | inr e ↦ or_right (is_kept words (any_at n k)) _ (bit_before (288 + n * 8 + k) s e)
  ]
  held_before (gap_from g n) h = bit_before (1 + g) n h
  held_before (attribute_gap_from k n) h = bit_before (9 + k) n h

  narrow_then : ((w : ℕ) → get_or words w 0 < 2 ^ 64) → (w : ℕ) → get_or emptied w 0 < 2 ^ 64
  narrow_then h w = elim (word_then w) [
    | inl e ↦ rw e (omega arith)
    | inr e ↦ rw e (h w)
  ]

-- Nothing of what an item says is held where both of its words are empty.
module _ (graph : List ℕ) where
  empty : (w k : ℕ) → get_or graph w 0 ≡ 0 → member (get_or graph w 0) k ≡ false
  empty w k e = rw e (member_zero k)

  empty_claim : (d : Claim) → get_or graph (claim_word d) 0 ≡ 0 → ((n h s : ℕ) → d ≡ string n h s → get_or graph (17 + h) 0 ≡ 0) → holds graph d ≡ false
  empty_claim (root n) e f = empty 0 n e
  empty_claim (edge n g m) e f = empty (32 + n * 8 + g) m e
  empty_claim (string n h s) e f = rw (empty (17 + h) n (f n h s refl)) (empty (288 + n * 8 + h) s e)
  empty_claim (gap_from g n) e f = empty (1 + g) n e
  empty_claim (attribute_gap_from h n) e f = empty (9 + h) n e

  empty_any : (n h : ℕ) → get_or graph (17 + h) 0 ≡ 0 → get_or graph (288 + n * 8 + h) 0 ≡ 0 → (c : Claim) → says_claim (any_at n h) c ≡ true → holds graph c ≡ false
  empty_any n h e f (root m) q = absurd (false≢true q)
  empty_any n h e f (edge m g k) q = absurd (false≢true q)
  empty_any n h e f (string m k s) q =
      let a : m ≡ n = eqb-true m n (and_left _ _ q) in
      let b : k ≡ h = eqb-true k h (and_right (eqb m n) _ q) in
      rw (a, b, empty (17 + h) n e) (empty (288 + n * 8 + h) s f)
  empty_any n h e f (gap_from g m) q = absurd (false≢true q)
  empty_any n h e f (attribute_gap_from k m) q = absurd (false≢true q)

  module _ (slot : Slot) (w : ℕ) (own : get_or graph slot.word 0 ≡ 0) (other : get_or graph w 0 ≡ 0) where
    at_own : (y : ℕ) → slot.word ≡ y → get_or graph y 0 ≡ 0
    at_own y e = subst (λ (i : ℕ). get_or graph i 0 ≡ 0) e own

    at_other : (y : ℕ) → w ≡ y → get_or graph y 0 ≡ 0
    at_other y e = subst (λ (i : ℕ). get_or graph i 0 ≡ 0) e other

    -- A claim that is no string has one word.
    one_word : (d : Claim) → slot.word ≡ claim_word d → ((n h s : ℕ) → d ≡ string n h s → ⊥) → (c : Claim) → says_claim (claim d) c ≡ true → holds graph c ≡ false
    one_word d e n c q = rw (← says_alone d c q) (empty_claim d (at_own (claim_word d) e) (λ m h s f. absurd (n m h s f)))

    pub says_nothing : (item : Declared.Claim) → SlotOf item slot → OtherWord item w → HoldingFits (meaning_of item) → (c : Claim) → says_claim (meaning_of item) c ≡ true → holds graph c ≡ false
    says_nothing (Root n) is o f = one_word (root n) (is.word_is f) (λ m h s e. let z : ◌≡◌ {A = ℕ} 0 1 = cc in omega arith)
    says_nothing (Edge n g m) is o f = one_word (edge n g m) (is.word_is f) (λ k h s e. let z : ◌≡◌ {A = ℕ} 0 1 = cc in omega arith)
    says_nothing (String n h s) is o f = λ c q.
        rw (← says_alone (string n h s) c q)
        (empty_claim (string n h s) (at_own _ (is.word_is f)) (λ m k t e. let same : h ≡ k = cc in rw (← same) (at_other _ (o f.1))))
    says_nothing (AnyString n h) is o f = empty_any n h (at_own _ (is.word_is f)) (at_other _ (o f.0 f.1))
    says_nothing (GapFrom g n) is o f = one_word (gap_from g n) (is.word_is f) (λ m h s e. let z : ◌≡◌ {A = ℕ} 0 1 = cc in omega arith)
    says_nothing (AttributeGapFrom h n) is o f = one_word (attribute_gap_from h n) (is.word_is f) (λ m k s e. let z : ◌≡◌ {A = ℕ} 0 1 = cc in omega arith)

-- Both words are emptied.
module _ (graph : List ℕ) (i w : ℕ) (in_own : i < length graph) (few : w < length graph) where
  abbrev half : List ℕ
  half = set graph i 0

  abbrev both : List ℕ
  both = set half w 0

  in_other : w < length half
  in_other = simp length-set few

  own_empty : get_or both i 0 ≡ 0
  own_empty = elim (word_then half w in_other i) [
    | inl e ↦ e
    | inr e ↦ e ∙ get_or-set_same graph i 0 0 in_own
  ]

  other_empty : get_or both w 0 ≡ 0
  other_empty = get_or-set_same half w 0 0 in_other

  held_at_first : (c : Claim) → holds both c ≡ true → holds graph c ≡ true
  held_at_first c e = held_before graph i in_own c (held_before half w in_other c e)

  part_kept : (R : Summary) → Keeps graph R → Keeps both (λ c. R c && holds both c)
  part_kept R keeps = record {
    room = simp length-set keeps.room;
    same = λ c g. alike _ _ (λ e. and_right (R c) _ e) (λ e. and_both _ _ (keeps.same c g ∙ held_at_first c e) e);
    narrow = narrow_then half w in_other (narrow_then graph i in_own keeps.narrow);
  }

pub forgets : (item : Declared.Claim) (graph : List ℕ) (slot : Slot) (w : ℕ) → SlotOf item slot → (w < 544) × OtherWord item w
    → HoldingFits (meaning_of item) → (R : Summary) → Keeps graph R → Forgotten (meaning_of item) R (set (set graph slot.word 0) w 0)
forgets item graph slot w is other fits R keeps =
    let room = keeps.room in
    let l : slot.word < length graph = let a = is.word_fits in omega arith in
    let m : w < length graph = let a = other.0 in omega arith in
    record {
      left = λ c. R c && holds (both graph slot.word w l m) c;
      keeps = part_kept graph slot.word w l m R keeps;
      within = λ c e. and_left _ _ e;
      gone = λ c q. refuted _ λ e.
          false≢true (sym (says_nothing (both graph slot.word w l m) slot w (own_empty graph slot.word w l m) (other_empty graph slot.word w l m) item is other.1 fits c q) ∙ and_right (R c) _ e);
    }
