-- Words that only gain members.
use Prim.Native.Nat.{ℕ, zero, suc, ◌+◌, ◌/◌, ◌%◌, ◌^◌, ◌≤◌, ◌<◌}
use mathlib.Core.Path.{◌≡◌, refl, sym, ap, ◌∙◌}
use mathlib.Core.List.{List, [], ◌∷◌}
use mathlib.Core.Bool.{Bool, true, false, not, ◌||◌, false≢true}
use native.Mathlib.Omega.{arith}
use lib.ListN.{length, get_or, set, length-set}
use lib.Seq.{set-get_or}
use lib.Dec.{eqb}
use borrow.Author.Tests.{eqb-true, eqb-false, eq-eqb, ne_eqb}
use Rattle.sets.specs.Sets.{member}
use Rattle.sets.proofs.Laws.{member_zero, member_head, member_tail}
use Rattle.sets.proofs.Members.{no_members}
use Rattle.graphs.specs.Inner.Growth.{sum, Grows}
use Rattle.sets.proofs.Booleans.{or_left, or_right}

-- A set with more members is a higher number.
pub members_more : (n a b : ℕ) → a < 2 ^ n → ((k : ℕ) → member a k ≡ true → member b k ≡ true) → a ≤ b
members_more zero a b l w = omega arith
members_more (suc n) a b l w =
    let tails : a / 2 ≤ b / 2 = members_more n (a / 2) (b / 2) (omega arith) (λ k e. sym (member_tail b k) ∙ w (suc k) (member_tail a k ∙ e)) in
    let h = head (eqb (a % 2) 1) refl in
    omega arith
  where
    head : (t : Bool) → eqb (a % 2) 1 ≡ t → a % 2 ≤ b % 2
    head true e = let q = eqb-true (b % 2) 1 (sym (member_head b) ∙ w 0 (member_head a ∙ e)) in omega arith
    head false e = let q = eqb-false (a % 2) 1 e in omega arith

pub sum_set : (ns : List ℕ) (i v : ℕ) → i < length ns → sum (set ns i v) + get_or ns i 0 ≡ sum ns + v
unfolding sum
sum_set [] i v l = absurd (omega arith)
sum_set (n ∷ ns) zero v l = omega arith
sum_set (n ∷ ns) (suc i) v l = let e = sum_set ns i v (omega arith) in omega arith

pub unchanged_grows : (ns : List ℕ) → Grows ns ns false
unchanged_grows ns = record { same_length = refl; more = omega arith; strictly = λ e. absurd (false≢true e); unchanged = λ e. refl }

-- One change after another.
pub grows_both : (a b c : List ℕ) (s t : Bool) → Grows a b s → Grows b c t → Grows a c (s || t)
grows_both a b c true t G H = record {
  same_length = H.same_length ∙ G.same_length;
  more = omega (arith, G.more, H.more);
  strictly = λ e. omega (arith, G.strictly refl, H.more);
  unchanged = λ e. absurd (false≢true (sym e));
}
grows_both a b c false t G H = record {
  same_length = H.same_length ∙ G.same_length;
  more = omega (arith, G.more, H.more);
  strictly = λ e. omega (arith, G.more, H.strictly e);
  unchanged = λ e. H.unchanged e ∙ G.unchanged refl;
}

-- A union has a member where either set has one.
module _ (a b both : ℕ) (a_fits : a < 2 ^ 64) (b_fits : b < 2 ^ 64) (both_fits : both < 2 ^ 64) (either : (k : ℕ) → member both k ≡ (member a k || member b k)) where
  some_of_union : not (eqb both 0) ≡ (not (eqb a 0) || not (eqb b 0))
  some_of_union = go (eqb a 0) (eqb b 0) refl refl
    where
      none : a ≡ 0 → b ≡ 0 → both ≡ 0
      none e f = no_members both both_fits λ k l. either k ∙ rw (e, f, member_zero k) refl

      more_than_a : a ≤ both
      more_than_a = members_more 64 a both a_fits λ k m. either k ∙ or_left _ _ m

      more_than_b : b ≤ both
      more_than_b = members_more 64 b both b_fits λ k m. either k ∙ or_right (member a k) _ m

      go : (t u : Bool) → eqb a 0 ≡ t → eqb b 0 ≡ u → not (eqb both 0) ≡ (not t || not u)
      go true true e f = ap not (eq-eqb both 0 (none (eqb-true a 0 e) (eqb-true b 0 f)))
      go true false e f = let n = eqb-false b 0 f in ap not (ne_eqb both 0 λ z. n (omega (arith, more_than_b)))
      go false u e f = let n = eqb-false a 0 e in ap not (ne_eqb both 0 λ z. n (omega (arith, more_than_a)))

  -- One change after another, by what is gained.
  pub grows_gained : (ns ms ks : List ℕ) → Grows ns ms (not (eqb a 0)) → Grows ms ks (not (eqb b 0)) → Grows ns ks (not (eqb both 0))
  grows_gained ns ms ks G H = rw some_of_union (grows_both ns ms ks _ _ G H)

-- One word grows.
pub word_grows : (ns : List ℕ) (i v : ℕ) → i < length ns → get_or ns i 0 ≤ v → Grows ns (set ns i v) (not (eqb v (get_or ns i 0)))
word_grows ns i v l h = go (eqb v (get_or ns i 0)) refl
  where
    go : (t : Bool) → eqb v (get_or ns i 0) ≡ t → Grows ns (set ns i v) (not t)
    go true e = let q : v ≡ get_or ns i 0 = eqb-true v (get_or ns i 0) e in rw (q, set-get_or ns i 0) (unchanged_grows ns)
    go false e =
        let q = eqb-false v (get_or ns i 0) e in
        let s = sum_set ns i v l in
        record {
          same_length = length-set ns i v;
          more = omega arith;
          strictly = λ z. let d : get_or ns i 0 < v = strict q in omega arith;
          unchanged = λ z. absurd (false≢true (sym z));
        }
      where
        strict : (v ≡ get_or ns i 0 → ⊥) → get_or ns i 0 < v
        strict n = omega arith
