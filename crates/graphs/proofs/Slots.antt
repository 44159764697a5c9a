-- Each item has a word and a bit of its own.
use Prim.Native.Nat.{ℕ, ◌+◌, ◌-◌, ◌*◌, ◌/◌, ◌%◌, ◌<◌}
use mathlib.Core.Path.{◌≡◌, refl, sym, ◌∙◌}
use mathlib.Core.List.{List}
use mathlib.Core.Bool.{Bool, true, false, cond, ◌&&◌, ◌||◌}
use native.Mathlib.Omega.{arith}
use lib.ListN.{length, get_or, set}
use lib.Seq.{get_or-set_same, get_or-set_other}
use lib.Dec.{eqb, ltb}
use borrow.Author.Tests.{eq-eqb, eqb-true, eqb-false, lt-ltb, le-ltb}
use Rattle.sets.specs.Sets.{member}
use Rattle.sets.proofs.Laws.{member_zero}
use Rattle.summaries.specs.Proposal.{Claim, root, edge, string, gap_from, attribute_gap_from, Holding, claim, any_at, one_string, any_string}
use Rattle.summaries.specs.Summaries.{says_claim}
use Rattle.graphs.specs.Inner.Graphs.{claim_word, claim_bit, holding_word, holding_bit, is_kept, holds, InWords}
use Rattle.sets.proofs.Booleans.{and_both, and_left, and_right, alike, refuted}
use Rattle.graphs.proofs.Claims.{says_itself, says_alone}

-- The item of a word and a bit.
item_of : ℕ → ℕ → Holding
item_of w b =
    cond (ltb w 1) (claim (root b))
    (cond (ltb w 9) (claim (gap_from (w - 1) b))
    (cond (ltb w 17) (claim (attribute_gap_from (w - 9) b))
    (cond (ltb w 32) (any_at b (w - 17))
    (cond (ltb w 288) (claim (edge ((w - 32) / 8) ((w - 32) % 8) b))
    (claim (string ((w - 288) / 8) ((w - 288) % 8) b))))))

abbrev pub InSlots : Holding → Type 0
InSlots (claim c) = InWords c
InSlots (any_at n h) = h < 8
InSlots (one_string s) = ⊥
InSlots any_string = ⊥

item_of_lem : (x : Holding) → InSlots x → item_of (holding_word x) (holding_bit x) ≡ x
unfolding item_of
item_of_lem (claim (root n)) f = refl
item_of_lem (claim (edge n g m)) f =
    let a : (32 + n * 8 + g - 32) / 8 ≡ n = omega arith in
    let b : (32 + n * 8 + g - 32) % 8 ≡ g = omega arith in
    rw (le-ltb (32 + n * 8 + g) 1 (omega arith), le-ltb (32 + n * 8 + g) 9 (omega arith), le-ltb (32 + n * 8 + g) 17 (omega arith), le-ltb (32 + n * 8 + g) 32 (omega arith), lt-ltb (32 + n * 8 + g) 288 (omega arith), a, b)
item_of_lem (claim (string n h s)) f =
    let a : (288 + n * 8 + h - 288) / 8 ≡ n = omega arith in
    let b : (288 + n * 8 + h - 288) % 8 ≡ h = omega arith in
    rw (le-ltb (288 + n * 8 + h) 1 (omega arith), le-ltb (288 + n * 8 + h) 9 (omega arith), le-ltb (288 + n * 8 + h) 17 (omega arith), le-ltb (288 + n * 8 + h) 32 (omega arith), le-ltb (288 + n * 8 + h) 288 (omega arith), a, b)
item_of_lem (claim (gap_from g n)) f =
    let a : 1 + g - 1 ≡ g = omega arith in
    rw (le-ltb (1 + g) 1 (omega arith), lt-ltb (1 + g) 9 (omega arith), a)
item_of_lem (claim (attribute_gap_from h n)) f =
    let a : 9 + h - 9 ≡ h = omega arith in
    rw (le-ltb (9 + h) 1 (omega arith), le-ltb (9 + h) 9 (omega arith), lt-ltb (9 + h) 17 (omega arith), a)
item_of_lem (any_at n h) f =
    let a : 17 + h - 17 ≡ h = omega arith in
    rw (le-ltb (17 + h) 1 (omega arith), le-ltb (17 + h) 9 (omega arith), le-ltb (17 + h) 17 (omega arith), lt-ltb (17 + h) 32 (omega arith), a)
item_of_lem (one_string s) f = absurd f
item_of_lem any_string f = absurd f

abbrev same_slot : Holding → Holding → Bool
same_slot y x = eqb (holding_word y) (holding_word x) && eqb (holding_bit x) (holding_bit y)

same_item : (y x : Holding) → InSlots y → InSlots x → same_slot y x ≡ true → y ≡ x
same_item y x f g e =
    let w : holding_word y ≡ holding_word x = eqb-true _ _ (and_left _ _ e) in
    let b : holding_bit x ≡ holding_bit y = eqb-true _ _ (and_right (eqb (holding_word y) (holding_word x)) _ e) in
    let q : item_of (holding_word y) (holding_bit y) ≡ item_of (holding_word x) (holding_bit x) = rw (w, b) in
    sym (item_of_lem y f) ∙ q ∙ item_of_lem x g

-- Whether the slot of an item is a claim's, as the item says it.
same_claim : (d c : Claim) → InWords d → InWords c → same_slot (claim d) (claim c) ≡ says_claim (claim d) c
same_claim d c f g = alike _ _
    (λ e. let q : claim d ≡ claim c = same_item (claim d) (claim c) f g e in let q' : d ≡ c = cc in rw q' (says_itself c))
    (λ e. let q : d ≡ c = says_alone d c e in rw q (and_both _ _ (eq-eqb (claim_word c) (claim_word c) refl) (eq-eqb (claim_bit c) (claim_bit c) refl)))

claim_any : (d : Claim) (n h : ℕ) → InWords d → h < 8 → same_slot (claim d) (any_at n h) ≡ false
claim_any d n h f g = refuted _ λ e.
    let q : claim d ≡ any_at n h = same_item (claim d) (any_at n h) f g e in
    let z : ◌≡◌ {A = ℕ} 0 1 = cc in
    omega arith

any_claim : (n h : ℕ) (c : Claim) → h < 8 → InWords c → same_slot (any_at n h) (claim c) ≡ false
any_claim n h c f g = refuted _ λ e.
    let q : any_at n h ≡ claim c = same_item (any_at n h) (claim c) f g e in
    let z : ◌≡◌ {A = ℕ} 0 1 = cc in
    omega arith

same_any : (n h m k : ℕ) → h < 8 → k < 8 → same_slot (any_at n h) (any_at m k) ≡ (eqb m n && eqb k h)
same_any n h m k f g = alike _ _
    (λ e. let q : any_at n h ≡ any_at m k = same_item (any_at n h) (any_at m k) f g e in
    let a : m ≡ n = cc in
    let b : k ≡ h = cc in
    and_both _ _ (eq-eqb m n a) (eq-eqb k h b))
    (λ e. let a : m ≡ n = eqb-true m n (and_left _ _ e) in
    let b : k ≡ h = eqb-true k h (and_right (eqb m n) _ e) in
    and_both _ _ (eq-eqb (17 + h) (17 + k) (omega arith)) (eq-eqb m n a))

-- The two ways that a string is held.
before_both : (a k l : Bool) → ((false || k) || (a || l)) ≡ (a || (k || l))
before_both true true l = refl
before_both true false l = refl
before_both false k l = refl

before_first : (a k l : Bool) → ((a || k) || (false || l)) ≡ (a || (k || l))
before_first true k l = refl
before_first false k l = refl

-- A word with one bit more.
module _ (words : List ℕ) (i v b : ℕ) (inside : i < length words) (more : (k : ℕ) → member v k ≡ (eqb k b || member (get_or words i 0) k)) where
  stored : (w k : ℕ) → member (get_or (set words i v) w 0) k ≡ ((eqb i w && eqb k b) || member (get_or words w 0) k)
  stored w k = go (eqb i w) refl
    where
      go : (t : Bool) → eqb i w ≡ t → member (get_or (set words i v) w 0) k ≡ ((t && eqb k b) || member (get_or words w 0) k)
      go true e = rw (← eqb-true i w e, get_or-set_same words i v 0 inside) (more k)
      go false e = rw (get_or-set_other words i w v 0 (λ q. eqb-false i w e (sym q)))

  module _ (y : Holding) (word_is : i ≡ holding_word y) (bit_is : b ≡ holding_bit y) (f : InSlots y) where
    kept : (x : Holding) → is_kept (set words i v) x ≡ (same_slot y x || is_kept words x)
    kept x = rw (← word_is, ← bit_is) (stored (holding_word x) (holding_bit x))

    by_slot : (c : Claim) → same_slot y (claim c) ≡ says_claim y c → is_kept (set words i v) (claim c) ≡ (says_claim y c || is_kept words (claim c))
    by_slot c e = rw (← e) (kept (claim c))

  -- What the words hold then: what the item says, and what they held.
  module _ (d : Claim) (word_is : i ≡ holding_word (claim d)) (bit_is : b ≡ holding_bit (claim d)) (f : InWords d) where
    by_claim : (c : Claim) → InWords c → is_kept (set words i v) (claim c) ≡ (says_claim (claim d) c || is_kept words (claim c))
    by_claim c g = by_slot (claim d) word_is bit_is f c (same_claim d c f g)

    pub holds_claim : (c : Claim) → InWords c → holds (set words i v) c ≡ (says_claim (claim d) c || holds words c)
    holds_claim (root n) g = by_claim (root n) g
    holds_claim (edge n k m) g = by_claim (edge n k m) g
    holds_claim (string n h s) g =
        rw (kept (claim d) word_is bit_is f (any_at n h), claim_any d n h f g.1, by_claim (string n h s) g)
        (before_both (says_claim (claim d) (string n h s)) (is_kept words (any_at n h)) (is_kept words (claim (string n h s))))
    holds_claim (gap_from k n) g = by_claim (gap_from k n) g
    holds_claim (attribute_gap_from h n) g = by_claim (attribute_gap_from h n) g

  module _ (n h : ℕ) (word_is : i ≡ holding_word (any_at n h)) (bit_is : b ≡ holding_bit (any_at n h)) (f : h < 8) where
    pub holds_any : (c : Claim) → InWords c → holds (set words i v) c ≡ (says_claim (any_at n h) c || holds words c)
    holds_any (root m) g = by_slot (any_at n h) word_is bit_is f (root m) (any_claim n h (root m) f g)
    holds_any (edge m k l) g = by_slot (any_at n h) word_is bit_is f (edge m k l) (any_claim n h (edge m k l) f g)
    holds_any (string m k s) g =
        rw (kept (any_at n h) word_is bit_is f (any_at m k), same_any n h m k f g.1, kept (any_at n h) word_is bit_is f (claim (string m k s)), any_claim n h (string m k s) f g)
        (before_first (says_claim (any_at n h) (string m k s)) (is_kept words (any_at m k)) (is_kept words (claim (string m k s))))
    holds_any (gap_from k m) g = by_slot (any_at n h) word_is bit_is f (gap_from k m) (any_claim n h (gap_from k m) f g)
    holds_any (attribute_gap_from k m) g = by_slot (any_at n h) word_is bit_is f (attribute_gap_from k m) (any_claim n h (attribute_gap_from k m) f g)

-- No word holds anything at first.
pub holds_none : (words : List ℕ) → ((i : ℕ) → get_or words i 0 ≡ 0) → (c : Claim) → holds words c ≡ false
holds_none words e (root n) = rw (e 0) (member_zero n)
holds_none words e (edge n g m) = rw (e (32 + n * 8 + g)) (member_zero m)
holds_none words e (string n h s) = rw (e (17 + h), e (288 + n * 8 + h), member_zero n) (member_zero s)
holds_none words e (gap_from g n) = rw (e (1 + g)) (member_zero n)
holds_none words e (attribute_gap_from h n) = rw (e (9 + h)) (member_zero n)
