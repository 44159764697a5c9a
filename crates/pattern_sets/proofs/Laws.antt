-- What holds of sets of patterns as words.
use Rattle.std.specs.Prelude.{None}
use Prim.Native.Nat.{ℕ, zero, suc, ◌+◌, ◌*◌, ◌/◌, ◌%◌, ◌^◌, ◌<◌, ◌≤◌}
use mathlib.Core.Path.{◌≡◌, refl, sym, ap, subst, ◌∙◌}
use mathlib.Core.List.{List, [], ◌∷◌}
use mathlib.Core.Bool.{Bool, true, false, ◌||◌, false≢true}
use mathlib.Core.Logic.{inl, inr}
use native.Mathlib.Omega.{arith}
use native.Mathlib.Decide.{ℕ_discrete}
use lib.ListN.{length, get_or, set, get_or-eq_default}
use lib.Seq.{get_or-set_same, get_or-set_other}
use lib.Dec.{eqb, ltb}
use Rattle.std.proofs.lemmas.Grind.{same_number_lists}
use borrow.Author.Tests.{eq-eqb, ne_eqb, ltb-true, ltb-false}
use Rattle.sets.specs.Sets.{member}
use Rattle.sets.specs.Inner.Promises.{NextMember, MemberFrom}
use Rattle.sets.proofs.Laws.{member_zero, same_members}
use Rattle.pattern_sets.specs.Inner.PatternSets.{holds, First, NextPattern, Same}
use Rattle.pattern_sets.proofs.Members.{find}
use Rattle.sets.proofs.Booleans.{or_absent}

-- A number is told by its quotient and its remainder.
same_rest : (x y : ℕ) → y / 64 ≡ x / 64 → eqb (y % 64) (x % 64) ≡ eqb y x
same_rest x y q = go (ℕ_discrete y x)
  where
    go : Dec (y ≡ x) → eqb (y % 64) (x % 64) ≡ eqb y x
    go (yes e) = eq-eqb (y % 64) (x % 64) (ap (λ (n : ℕ). n % 64) e) ∙ sym (eq-eqb y x e)
    go (no n) = ne_eqb (y % 64) (x % 64) (λ e. n (omega arith)) ∙ sym (ne_eqb y x n)

pub with_pattern : (s : List ℕ) (x w : ℕ) → x / 64 < length s
    → ((k : ℕ) → member w k ≡ (eqb k (x % 64) || member (get_or s (x / 64) 0) k))
    → (y : ℕ) → holds (set s (x / 64) w) y ≡ (eqb y x || holds s y)
unfolding holds
with_pattern s x w h e y = go (ℕ_discrete (y / 64) (x / 64))
  where
    go : Dec (y / 64 ≡ x / 64) → holds (set s (x / 64) w) y ≡ (eqb y x || holds s y)
    go (yes q) =
        let r : get_or (set s (x / 64) w) (y / 64) 0 ≡ w = rw q (get_or-set_same s (x / 64) w 0 h) in
        rw (r, e, same_rest x y q, q)
    go (no n) =
        let r : get_or (set s (x / 64) w) (y / 64) 0 ≡ get_or s (y / 64) 0 = get_or-set_other s (x / 64) (y / 64) w 0 n in
        rw (r, ne_eqb y x (λ q. n (ap (λ (k : ℕ). k / 64) q)))

-- Words, each made of two by an operation on their members.
module _ (op : Bool → Bool → Bool) (nothing : op false false ≡ false) (a b words : List ℕ) (la : length a ≡ 4) (lb : length b ≡ 4) (lw : length words ≡ 4)
    (each : (i : ℕ) → i < 4 → (k : ℕ) → member (get_or words i 0) k ≡ op (member (get_or a i 0) k) (member (get_or b i 0) k)) where
  word_by_word : (i k : ℕ) → member (get_or words i 0) k ≡ op (member (get_or a i 0) k) (member (get_or b i 0) k)
  word_by_word i k = go (ltb i 4) refl
    where
      go : (t : Bool) → ltb i 4 ≡ t → member (get_or words i 0) k ≡ op (member (get_or a i 0) k) (member (get_or b i 0) k)
      go true e = each i (ltb-true i 4 e) k
      go false e =
          let l : 4 ≤ i = ltb-false i 4 e in
          let x : get_or a i 0 ≡ 0 = get_or-eq_default a 0 (omega arith) in
          let y : get_or b i 0 ≡ 0 = get_or-eq_default b 0 (omega arith) in
          let z : get_or words i 0 ≡ 0 = get_or-eq_default words 0 (omega arith) in
          rw (x, y, z, member_zero) (sym nothing)

  pub pattern_by_pattern : (y : ℕ) → holds words y ≡ op (holds a y) (holds b y)
  unfolding holds
  pattern_by_pattern y = word_by_word (y / 64) (y % 64)

-- ---- the first pattern from a place on

-- Past 255 there is no pattern.
pub holds_high : (s : List ℕ) → length s ≡ 4 → (x : ℕ) → 256 ≤ x → holds s x ≡ false
unfolding holds
holds_high s l x h =
    let e : get_or s (x / 64) 0 ≡ 0 = get_or-eq_default s 0 (omega arith) in
    rw (e, member_zero)

pub held_small : (s : List ℕ) → length s ≡ 4 → (x : ℕ) → holds s x ≡ true → x < 256
held_small s l x h = go (ltb x 256) refl
  where
    go : (t : Bool) → ltb x 256 ≡ t → x < 256
    go true e = ltb-true x 256 e
    go false e = absurd (false≢true (sym (holds_high s l x (ltb-false x 256 e)) ∙ h))

module _ (s : List ℕ) (from : ℕ) where
  -- What a loop knows of the patterns before the place that it has come to.
  pub record Passed (at : ℕ) : Type 0 where
    pub after : from ≤ at
    pub skips : (x : ℕ) → from ≤ x → x < at → holds s x ≡ false

  pub passed_all : length s ≡ 4 → (at : ℕ) → 256 ≤ at → Passed at → NextPattern s from None
  passed_all four at h p x l = go (ltb x 256) refl
    where
      go : (t : Bool) → ltb x 256 ≡ t → holds s x ≡ false
      go true e = let m : x < 256 = ltb-true x 256 e in p.skips x l (omega arith)
      go false e = holds_high s four x (ltb-false x 256 e)

  -- In word i, of which the places before k are passed.
  module _ (i k : ℕ) (p : Passed (i * 64 + k)) where
    in_word : (x : ℕ) → x / 64 ≡ i → member (get_or s i 0) (x % 64) ≡ holds s x
    unfolding holds
    in_word x q = rw q

    passed_word : (n : ℕ) → n ≤ 64 → ((x : ℕ) → k ≤ x → x < n → member (get_or s i 0) x ≡ false)
        → (x : ℕ) → from ≤ x → x < i * 64 + n → holds s x ≡ false
    passed_word n few none x l m = go (ltb x (i * 64 + k)) refl
      where
        go : (t : Bool) → ltb x (i * 64 + k) ≡ t → holds s x ≡ false
        go true e = p.skips x l (ltb-true x (i * 64 + k) e)
        go false e =
            let j : i * 64 + k ≤ x = ltb-false x (i * 64 + k) e in
            sym (in_word x (omega arith)) ∙ none (x % 64) (omega arith) (omega arith)

    pub passed_more : k < 64 → NextMember (get_or s i 0) k None → Passed ((i + 1) * 64 + 0)
    passed_more small none = record {
      after = omega (arith, p.after);
      skips = λ x l m. passed_word 64 (omega arith) (λ y h _. none y h) x l (omega arith);
    }

    pub found : (n : ℕ) → i < 4 → MemberFrom (get_or s i 0) k n → First s from (i * 64 + n)
    found n h f = record {
      after = omega (arith, p.after, f.after);
      within = omega (arith, f.within);
      is_held = let w : n < 64 = f.within in
          sym (in_word (i * 64 + n) (omega arith)) ∙ ap (member (get_or s i 0)) (omega arith) ∙ f.is_held;
      skips = passed_word n (omega (arith, f.within)) f.skips;
    }

-- ---- the empty set, and two sets that are the same

no_word : (i : ℕ) → ◌≡◌ {A = ℕ} (get_or (0 ∷ 0 ∷ 0 ∷ 0 ∷ []) i 0) 0
no_word zero = refl
no_word (suc zero) = refl
no_word (suc (suc zero)) = refl
no_word (suc (suc (suc zero))) = refl
no_word (suc (suc (suc (suc i)))) = refl

pub holds_empty : (x : ℕ) → holds (0 ∷ 0 ∷ 0 ∷ 0 ∷ []) x ≡ false
unfolding holds
holds_empty x = ap (λ (n : ℕ). member n (x % 64)) (no_word (x / 64)) ∙ member_zero (x % 64)

-- One pattern, in the word in which it stands.
pub only_pattern : (x w : ℕ) → ((k : ℕ) → member w k ≡ (eqb k (x % 64) || member 0 k)) → (i : ℕ) → i < 4 → x / 64 ≡ i
    → (y : ℕ) → holds (set (0 ∷ 0 ∷ 0 ∷ 0 ∷ []) i w) y ≡ eqb y x
only_pattern x w e i low q y =
    subst (λ (j : ℕ). holds (set (0 ∷ 0 ∷ 0 ∷ 0 ∷ []) j w) y ≡ eqb y x) q
    (with_pattern (0 ∷ 0 ∷ 0 ∷ 0 ∷ []) x w (omega arith) (λ k. e k ∙ ap (λ (n : ℕ). eqb k (x % 64) || member n k) (sym (no_word (x / 64)))) y
    ∙ or_absent (eqb y x) (holds_empty y))

-- Sets of four words are the same, or there is a pattern that one alone has.
module _ (a b : List ℕ) (la : length a ≡ 4) (lb : length b ≡ 4) (fits : (i : ℕ) → i < 4 → (get_or a i 0 < 2 ^ 64) × (get_or b i 0 < 2 ^ 64)) where
  same_words : ((x : ℕ) → x < 256 → holds a x ≡ holds b x) → (i : ℕ) → i < 4 → get_or a i 0 ≡ get_or b i 0
  unfolding holds
  same_words all i h = same_members 64 (get_or a i 0) (get_or b i 0) (fits i h).0 (fits i h).1 (λ k l.
      let q : (i * 64 + k) / 64 ≡ i = omega arith in
      let r : (i * 64 + k) % 64 ≡ k = omega arith in
      rw (q, r) at (all (i * 64 + k) (omega arith)))

  pub tells_same : (t : Bool) → (t ≡ true → a ≡ b) → (a ≡ b → t ≡ true) → Same a b t
  tells_same true is back = λ x. ap (λ (s : List ℕ). holds s x) (is refl)
  tells_same false is back = elim (find (holds a) (holds b) 256) [
    | inl w ↦ w
    | inr all ↦ absurd (false≢true (back (same_number_lists a b (omega arith) (λ i l. same_words all i (omega arith)))))
  ]
