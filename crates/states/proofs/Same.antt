-- Entries at two points whose words are the same.
use Prim.Native.Nat.{ℕ, ◌+◌, ◌-◌, ◌*◌, ◌≤◌, ◌<◌}
use mathlib.Core.Path.{◌≡◌, refl, sym, ap, ◌∙◌}
use mathlib.Core.List.{List}
use mathlib.Core.Bool.{Bool, true, false, ◌&&◌}
use native.Mathlib.Omega.{arith}
use lib.ListN.{length, get_or, take, drop, length-drop}
use lib.Seq.{ext_get_or, get_or-take, get_or-drop, length-take-le}
use lib.Dec.{eqb}
use lib.Bits.{bit_and, bit_or, bit_xor, and_le_l, and_le_r, or_add_and, xor_add_and}
use borrow.Author.Tests.{eqb-true, eqb-false}
use Rattle.graphs.specs.Inner.Graphs.{holds}
use Rattle.states.specs.Inner.States.{graph_place, strings_place, graph_words, in_words}
use Rattle.states.specs.Inner.Promises.{string_words, SameEntry}
use Rattle.states.proofs.Entries.{template_entry, string_entry, word_first, word_second}

-- Words without a difference are the same.
no_difference : (d x y : ℕ) → bit_or d (bit_xor x y) ≡ 0 → (d ≡ 0) × (x ≡ y)
no_difference d x y e =
    let both : bit_or d (bit_xor x y) + bit_and d (bit_xor x y) ≡ d + bit_xor x y = or_add_and d (bit_xor x y) in
    let l : bit_and d (bit_xor x y) ≤ d = and_le_l d (bit_xor x y) in
    let r : bit_and d (bit_xor x y) ≤ bit_xor x y = and_le_r d (bit_xor x y) in
    let none : bit_xor x y ≡ 0 = omega arith in
    let sum : bit_xor x y + bit_and x y * 2 ≡ x + y = xor_add_and x y in
    let m : bit_and x y ≤ x = and_le_l x y in
    let n : bit_and x y ≤ y = and_le_r x y in
    (omega arith, omega arith)

module _ (work : List ℕ) (a b : ℕ) where
  -- Without a difference so far the words so far are the same.
  abbrev pub SameSoFar : ℕ → ℕ → Type 0
  SameSoFar i differences = differences ≡ 0 → (k : ℕ) → k < i → get_or work (a + k) 0 ≡ get_or work (b + k) 0

  pub same_more : (i d : ℕ) → SameSoFar i d → SameSoFar (i + 1) (bit_or d (bit_xor (get_or work (a + i) 0) (get_or work (b + i) 0)))
  same_more i d same e k l = go (eqb k i) refl
    where
      none : (d ≡ 0) × (get_or work (a + i) 0 ≡ get_or work (b + i) 0)
      none = no_difference d (get_or work (a + i) 0) (get_or work (b + i) 0) e

      go : (t : Bool) → eqb k i ≡ t → get_or work (a + k) 0 ≡ get_or work (b + k) 0
      go true q = rw (eqb-true k i q) none.1
      go false q = let n = eqb-false k i q in same none.0 k (omega arith)

  pub same_all : (count i : ℕ) → a + count ≤ length work → b + count ≤ length work → count ≤ i → ((k : ℕ) → k < i → get_or work (a + k) 0 ≡ get_or work (b + k) 0)
      → take count (drop a work) ≡ take count (drop b work)
  same_all count i l m all same = ext_get_or 0 (take count (drop a work)) (take count (drop b work)) (long a l ∙ sym (long b m)) λ k h.
      let n : k < count = omega (arith, long a l) in
      word a k n ∙ same k (omega arith) ∙ sym (word b k n)
    where
      long : (at : ℕ) → at + count ≤ length work → length (take count (drop at work)) ≡ count
      long at h = length-take-le count (drop at work) (omega (arith, length-drop at work))

      word : (at k : ℕ) → k < count → get_or (take count (drop at work)) k 0 ≡ get_or work (at + k) 0
      word at k h = get_or-take count (drop at work) k 0 h ∙ get_or-drop at work k 0

moved : (work : List ℕ) (count a b a' b' : ℕ) → a ≡ a' → b ≡ b' → take count (drop a work) ≡ take count (drop b work) → take count (drop a' work) ≡ take count (drop b' work)
moved work count a b a' b' f g e = rw (← f, ← g) e

module _ (points : ℕ) (work : List ℕ) (p q : ℕ) (l : p < points) (m : q < points) (a b : ℕ) where
  pub same_template : (v : ℕ) → v < 4 → a ≡ graph_place p v → b ≡ graph_place q v → take 544 (drop a work) ≡ take 544 (drop b work) → SameEntry points work p q v
  same_template v n f g same =
      let e : graph_words work p v ≡ graph_words work q v = moved work 544 a b (graph_place p v) (graph_place q v) f g same in
      record {
        template = λ h c. template_entry points work p v l h c ∙ ap (λ (words : List ℕ). in_words c && holds words c) e ∙ sym (template_entry points work q v m h c);
        string = λ h s. absurd (omega arith);
      }

  pub same_string : (v : ℕ) → 4 ≤ v → v < 8 → a ≡ strings_place p (v - 4) → b ≡ strings_place q (v - 4) → take 2 (drop a work) ≡ take 2 (drop b work) → SameEntry points work p q v
  same_string v n few f g same =
      let e : string_words work p (v - 4) ≡ string_words work q (v - 4) = moved work 2 a b (strings_place p (v - 4)) (strings_place q (v - 4)) f g same in
      record {
        template = λ h c. absurd (omega arith);
        string = λ h s.
            string_entry points work p (v - 4) l (omega arith) s
            ∙ rw (word_first work p (v - 4), word_second work p (v - 4), word_first work q (v - 4), word_second work q (v - 4), e) refl
            ∙ sym (string_entry points work q (v - 4) m (omega arith) s);
      }
