-- Words of contents, one content at a time.
use Prim.Native.Nat.{ℕ, ◌+◌, ◌^◌, ◌≤◌, ◌<◌}
use mathlib.Core.Path.{◌≡◌, refl, sym, ap, ◌∙◌}
use mathlib.Core.List.{List, [], ◌∷◌, ◌++◌}
use mathlib.Core.Bool.{Bool, true, false, cond, ◌&&◌, ◌||◌, and-false, or-false, or-true, or_comm, false≢true}
use native.Mathlib.Omega.{arith}
use lib.ListN.{length, get_or, set}
use lib.Seq.{get_or-set_same, get_or-set_other}
use lib.Dec.{eqb, ltb}
use borrow.Author.Tests.{eq-eqb, ne_eqb, eqb-true, eqb-false, ltb-true, ltb-false, lt-ltb, le-ltb}
use Rattle.sets.specs.Sets.{member}
use Rattle.sets.specs.Inner.Promises.{count_below}
use Rattle.sets.proofs.Laws.{member_zero, member_high}
use Rattle.sets.proofs.Counts.{count_more}
use Rattle.vocabularies.specs.Vocabulary.{is_in}
use Rattle.judging.specs.Inner.Judgement.{precedes}
use Rattle.judging.specs.declared.Standing.{Standing}
use Rattle.judging.specs.Inner.Promises.{nowhere, first_place, last_place, Containing}
use Rattle.judging.proofs.Booleans.{by_test, or_then_left, or_then_right}

-- The members of a word are below its width.
pub member_small : (set k : ℕ) → set < 2 ^ 64 → member set k ≡ true → k < 64
member_small set k fits is = by_test (ltb k 64)
    (λ e. ltb-true k 64 e)
    (λ e. absurd (false≢true (sym (member_high 64 set k fits (ltb-false k 64 e)) ∙ is)))

-- What is not in the word follows nothing in it.
pub none_precedes : (w : List ℕ) (d c : ℕ) → is_in c w ≡ false → precedes w d c ≡ false
unfolding precedes is_in
none_precedes [] d c n = refl
none_precedes (x ∷ w) d c n = by_test (eqb c x)
    (λ e. absurd (false≢true (sym n ∙ rw e)))
    (λ e.
    let o : is_in c w ≡ false = rw e at n in
    rw (o, and-false (eqb x d)) (none_precedes w d c o))

eqb_sym : (a b : ℕ) → eqb a b ≡ eqb b a
eqb_sym a b = by_test (eqb b a) (λ e. rw e (eq-eqb a b (sym (eqb-true b a e)))) (λ e. rw e (ne_eqb a b (λ q. eqb-false b a e (sym q))))

-- It stands before nothing in it, either.
pub precedes_none : (w : List ℕ) (d c : ℕ) → is_in d w ≡ false → precedes w d c ≡ false
unfolding precedes is_in
precedes_none [] d c n = refl
precedes_none (x ∷ w) d c n = by_test (eqb d x)
    (λ e. absurd (false≢true (sym n ∙ rw e)))
    (λ e.
    let o : is_in d w ≡ false = rw e at n in
    rw (eqb_sym x d, e) (precedes_none w d c o))

is_in_more : (k c : ℕ) (w : List ℕ) → is_in k (w ++ (c ∷ [])) ≡ (is_in k w || eqb k c)
unfolding is_in
is_in_more k c [] = or-false (eqb k c)
is_in_more k c (x ∷ w) = by_test (eqb k x) (λ e. rw e) (λ e. rw e (is_in_more k c w))

regrouped : (x i k p d : Bool) → ((x && (i || k)) || (p || (k && d))) ≡ (((x && i) || p) || (k && (x || d)))
regrouped false i false p d = refl
regrouped false i true p d = refl
regrouped true true false p d = refl
regrouped true false false p d = refl
regrouped true true true p d = refl
regrouped true false true true d = refl
regrouped true false true false d = refl

-- What the content c, set at the end, follows.
precedes_more : (d k c : ℕ) (w : List ℕ) → precedes (w ++ (c ∷ [])) d k ≡ (precedes w d k || (eqb k c && is_in d w))
unfolding precedes is_in
precedes_more d k c [] = rw (and-false (eqb c d), and-false (eqb k c))
precedes_more d k c (x ∷ w) =
    rw (is_in_more k c w, precedes_more d k c w, eqb_sym d x)
    (regrouped (eqb x d) (is_in k w) (eqb k c) (precedes w d k) (is_in d w))

-- One content more, behind all others: it stands last there, and first too, if it was not inside. Then it is counted.
module _ (w : List ℕ) (contents : ℕ) (order : List Standing) (count : ℕ) (C : Containing w contents order count) (c : ℕ) (room : c < length order)
    (r : ℕ) (with_content : (k : ℕ) → member r k ≡ (eqb k c || member contents k))
    (first : ℕ) (is_first : first ≡ cond (is_in c w) (first_place order c) count)
    (count' : ℕ) (is_count : count' ≡ cond (is_in c w) count (count + 1)) where
  abbrev here : Standing
  here = record { first = first; last = count }

  abbrev more : List Standing
  more = set order c here

  abbrev longer : List ℕ
  longer = w ++ (c ∷ [])

  row_here : get_or more c nowhere ≡ here
  row_here = get_or-set_same order c here nowhere room

  row_other : (k : ℕ) → (k ≡ c → ⊥) → get_or more k nowhere ≡ get_or order k nowhere
  row_other k n = get_or-set_other order c k here nowhere n

  first_here : first_place more c ≡ first
  first_here = ap (λ (row : Standing). row.first) row_here

  in_before : (k : ℕ) → is_in k longer ≡ true → eqb k c ≡ false → is_in k w ≡ true
  in_before k is e = or_then_left (is_in k w) (eqb k c) e (sym (is_in_more k c w) ∙ is)

  count_new : is_in c w ≡ false → count' ≡ count + 1
  count_new out = is_count ∙ rw out

  count_grows : count ≤ count'
  count_grows = by_test (is_in c w)
      (λ i. let e : count' ≡ count = is_count ∙ rw i in omega (arith, e))
      (λ i. omega (arith, count_new i))

  -- Where contents of the word stand first.
  first_more : (k : ℕ) → is_in k w ≡ true → first_place more k ≡ first_place order k
  first_more k is = by_test (eqb k c)
      (λ e.
      let q : k ≡ c = eqb-true k c e in
      rw q (first_here ∙ is_first ∙ rw (← q, is)))
      (λ e. ap (λ (row : Standing). row.first) (row_other k (eqb-false k c e)))

  first_new : is_in c w ≡ false → first_place more c ≡ count
  first_new out = first_here ∙ is_first ∙ rw out

  last_here : last_place more c ≡ count
  last_here = ap (λ (row : Standing). row.last) row_here

  last_other : (k : ℕ) → eqb k c ≡ false → last_place more k ≡ last_place order k
  last_other k e = ap (λ (row : Standing). row.last) (row_other k (eqb-false k c e))

  first_within : (k : ℕ) → is_in k longer ≡ true → first_place more k < count'
  first_within k is = by_test (is_in k w)
      (λ i. omega (arith, first_more k i, (C.before k i).0, count_grows))
      (λ i.
      let e : eqb k c ≡ true = or_then_right (is_in k w) (eqb k c) i (sym (is_in_more k c w) ∙ is) in
      let q : k ≡ c = eqb-true k c e in
      let out : is_in c w ≡ false = rw q at i in
      rw q (omega (arith, first_new out, count_new out)))

  last_within : (k : ℕ) → is_in k longer ≡ true → last_place more k ≤ count'
  last_within k is = by_test (eqb k c)
      (λ e. let q : k ≡ c = eqb-true k c e in rw q (omega (arith, last_here, count_grows)))
      (λ e. omega (arith, last_other k e, (C.before k (in_before k is e)).1, count_grows))

  ordered_more : (k d : ℕ) → is_in k longer ≡ true → is_in d longer ≡ true → ltb (first_place more d) (last_place more k) ≡ precedes longer d k
  ordered_more k d is is' = rw (precedes_more d k c w) (by_test (eqb k c)
      (λ e.
      let q : k ≡ c = eqb-true k c e in
      rw (e, q, last_here) (by_test (is_in d w)
      (λ i. rw (i, first_more d i, lt-ltb _ _ (C.before d i).0) (sym (or-true (precedes w d c))))
      (λ i.
      let z : d ≡ c = eqb-true d c (or_then_right (is_in d w) (eqb d c) i (sym (is_in_more d c w) ∙ is')) in
      rw (i, precedes_none w d c i) (rw (z, first_new (rw z at i)) (le-ltb count count (omega arith))))))
      (λ e.
      let in_word : is_in k w ≡ true = in_before k is e in
      rw (e, last_other k e, or-false (precedes w d k)) (by_test (is_in d w)
      (λ i. rw (first_more d i) (C.ordered k d in_word i))
      (λ i.
      let z : d ≡ c = eqb-true d c (or_then_right (is_in d w) (eqb d c) i (sym (is_in_more d c w) ∙ is')) in
      rw (precedes_none w d k i) (rw (z, first_new (rw z at i)) (le-ltb count (last_place order k) (C.before k in_word).1))))))

  pub one_content : Containing longer r more count'
  one_content = record {
    has = λ k. with_content k ∙ rw (is_in_more k c w, C.has k) (or_comm (eqb k c) (is_in k w));
    before = λ k is. (first_within k is, last_within k is);
    ordered = ordered_more;
  }

-- A content that is inside makes no other set; one that is not is one more to count.
pub with_held : (set c : ℕ) → member set c ≡ true → (k : ℕ) → member set k ≡ (eqb k c || member set k)
with_held set c is k = by_test (eqb k c)
    (λ e. rw (e, eqb-true k c e) is)
    (λ e. rw e)

pub counted_more : (set r count c : ℕ) → c < 64 → member set c ≡ false → ((k : ℕ) → member r k ≡ (eqb k c || member set k))
    → count ≤ count_below 64 (member set) → count + 1 ≤ count_below 64 (member r)
counted_more set r count c small out with_content counted =
    let l : count_below 64 (member set) < count_below 64 (member r) = count_more 64 (member set) (member r)
    (λ k h is. with_content k ∙ rw is (or-true (eqb k c))) c small out (with_content c ∙ rw (eq-eqb c c refl)) in
    omega arith

-- The tables of no content: any will do.
pub no_content_lem : (order : List Standing) → Containing [] 0 order 0
unfolding is_in
no_content_lem order = record {
  has = λ k. member_zero k;
  before = λ c is. absurd (false≢true is);
  ordered = λ c d is. absurd (false≢true is);
}
