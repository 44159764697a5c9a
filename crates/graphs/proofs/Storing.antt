-- A graph in which one word is stored anew: nothing is held otherwise that has another word.
use Prim.Native.Nat.{ℕ, ◌+◌, ◌*◌, ◌^◌, ◌<◌}
use mathlib.Core.Path.{◌≡◌, refl, sym, ap, ◌∙◌}
use mathlib.Core.List.{List}
use mathlib.Core.Bool.{Bool, true, false, ◌&&◌, ◌||◌, or-false, or_assoc, or_comm, and-true, and-false}
use native.Mathlib.Omega.{arith}
use lib.ListN.{length, get_or, set, length-set}
use lib.Seq.{get_or-set_same, get_or-set_other}
use lib.Dec.{eqb}
use borrow.Author.Tests.{eqb-true, eqb-false}
use Rattle.sets.specs.Sets.{member}
use Rattle.sets.proofs.Laws.{member_zero}
use Rattle.summaries.specs.Proposal.{Claim, root, edge, string, gap_from, attribute_gap_from, Holding, claim, any_at}
use Rattle.summaries.specs.Summaries.{Summary}
use Rattle.graphs.specs.Inner.Graphs.{holding_word, holding_bit, is_kept, holds, InWords, Keeps}
use Rattle.graphs.specs.Inner.Promises.{added_at, rootless, without_gap, without_attribute_gap}

-- Summaries that hold the same claims are kept by the same graphs.
pub keeps_same : (graph : List ℕ) (R S : Summary) → ((c : Claim) → InWords c → S c ≡ R c) → Keeps graph R → Keeps graph S
keeps_same graph R S e K = record { room = K.room; same = λ c g. e c g ∙ K.same c g; narrow = K.narrow }

module _ (words : List ℕ) (i v : ℕ) (inside : i < length words) where
  pub stored_narrow : ((k : ℕ) → get_or words k 0 < 2 ^ 64) → v < 2 ^ 64 → (k : ℕ) → get_or (set words i v) k 0 < 2 ^ 64
  stored_narrow h l k = go (eqb k i) refl
    where
      go : (t : Bool) → eqb k i ≡ t → get_or (set words i v) k 0 < 2 ^ 64
      go true e = rw (eqb-true k i e, get_or-set_same words i v 0 inside) l
      go false e = rw (get_or-set_other words i k v 0 (eqb-false k i e)) (h k)

  there : (x : Holding) → holding_word x ≡ i → is_kept (set words i v) x ≡ member v (holding_bit x)
  there x e = rw (e, get_or-set_same words i v 0 inside)

  other : (x : Holding) → (holding_word x ≡ i → ⊥) → is_kept (set words i v) x ≡ is_kept words x
  other x n = rw (get_or-set_other words i (holding_word x) v 0 n)

-- What a stored word makes of what is kept, by what it makes of each claim.
stored_keeps : (words : List ℕ) (i v : ℕ) → v < 2 ^ 64 → i < 544 → (change : Summary → Summary)
    → ((R : Summary) → Keeps words R → (c : Claim) → InWords c → change R c ≡ holds (set words i v) c)
    → (R : Summary) → Keeps words R → Keeps (set words i v) (change R)
stored_keeps words i v l low change e R K =
    let room = K.room in
    record {
      room = simp length-set K.room;
      same = e R K;
      narrow = stored_narrow words i v (omega arith) K.narrow l;
    }

-- ---- a word emptied

module _ (words : List ℕ) (R : Summary) (K : Keeps words R) where
  roots_dropped : (c : Claim) → InWords c → rootless R c ≡ holds (set words 0 0) c
  roots_dropped c w =
      let room = K.room in
      let inside : 0 < length words = omega arith in
      go c w inside
    where
      go : (c : Claim) → InWords c → 0 < length words → rootless R c ≡ holds (set words 0 0) c
      go (root n) w l = sym (there words 0 0 l (claim (root n)) refl ∙ member_zero n)
      go (edge n k m) w l = K.same (edge n k m) w ∙ sym (other words 0 0 l (claim (edge n k m)) (λ e. omega arith))
      go (string n k s) w l = K.same (string n k s) w ∙ sym (rw (other words 0 0 l (any_at n k) (λ e. omega arith), other words 0 0 l (claim (string n k s)) (λ e. omega arith)))
      go (gap_from k n) w l = K.same (gap_from k n) w ∙ sym (other words 0 0 l (claim (gap_from k n)) (λ e. omega arith))
      go (attribute_gap_from k n) w l = K.same (attribute_gap_from k n) w ∙ sym (other words 0 0 l (claim (attribute_gap_from k n)) (λ e. omega arith))

  module _ (g : ℕ) (low : g < 8) where
    origins_dropped : (c : Claim) → InWords c → without_gap g R c ≡ holds (set words (1 + g) 0) c
    origins_dropped c w = let room = K.room in go c w (omega arith)
      where
        go : (c : Claim) → InWords c → 1 + g < length words → without_gap g R c ≡ holds (set words (1 + g) 0) c
        go (root n) w l = K.same (root n) w ∙ sym (other words (1 + g) 0 l (claim (root n)) (λ e. omega arith))
        go (edge n k m) w l = K.same (edge n k m) w ∙ sym (other words (1 + g) 0 l (claim (edge n k m)) (λ e. omega arith))
        go (string n k s) w l = K.same (string n k s) w ∙ sym (rw (other words (1 + g) 0 l (any_at n k) (λ e. omega arith), other words (1 + g) 0 l (claim (string n k s)) (λ e. omega arith)))
        go (gap_from k n) w l = by (eqb k g) refl
          where
            by : (t : Bool) → eqb k g ≡ t → without_gap g R (gap_from k n) ≡ holds (set words (1 + g) 0) (gap_from k n)
            by true e = rw e (sym (there words (1 + g) 0 l (claim (gap_from k n)) (ap (λ (j : ℕ). 1 + j) (eqb-true k g e)) ∙ member_zero n))
            by false e = rw e (K.same (gap_from k n) w ∙ sym (other words (1 + g) 0 l (claim (gap_from k n)) (λ q. eqb-false k g e (omega arith))))
        go (attribute_gap_from k n) w l = K.same (attribute_gap_from k n) w ∙ sym (other words (1 + g) 0 l (claim (attribute_gap_from k n)) (λ e. omega arith))

    attribute_origins_dropped : (c : Claim) → InWords c → without_attribute_gap g R c ≡ holds (set words (9 + g) 0) c
    attribute_origins_dropped c w = let room = K.room in go c w (omega arith)
      where
        go : (c : Claim) → InWords c → 9 + g < length words → without_attribute_gap g R c ≡ holds (set words (9 + g) 0) c
        go (root n) w l = K.same (root n) w ∙ sym (other words (9 + g) 0 l (claim (root n)) (λ e. omega arith))
        go (edge n k m) w l = K.same (edge n k m) w ∙ sym (other words (9 + g) 0 l (claim (edge n k m)) (λ e. omega arith))
        go (string n k s) w l = K.same (string n k s) w ∙ sym (rw (other words (9 + g) 0 l (any_at n k) (λ e. omega arith), other words (9 + g) 0 l (claim (string n k s)) (λ e. omega arith)))
        go (gap_from k n) w l = K.same (gap_from k n) w ∙ sym (other words (9 + g) 0 l (claim (gap_from k n)) (λ e. omega arith))
        go (attribute_gap_from k n) w l = by (eqb k g) refl
          where
            by : (t : Bool) → eqb k g ≡ t → without_attribute_gap g R (attribute_gap_from k n) ≡ holds (set words (9 + g) 0) (attribute_gap_from k n)
            by true e = rw e (sym (there words (9 + g) 0 l (claim (attribute_gap_from k n)) (ap (λ (j : ℕ). 9 + j) (eqb-true k g e)) ∙ member_zero n))
            by false e = rw e (K.same (attribute_gap_from k n) w ∙ sym (other words (9 + g) 0 l (claim (attribute_gap_from k n)) (λ q. eqb-false k g e (omega arith))))

-- ---- a word with more members

put_first : (a b c : Bool) → ((a || b) || c) ≡ ((c || a) || b)
put_first a b c = or_comm (a || b) c ∙ sym (or_assoc c a b)

module _ (words : List ℕ) (R : Summary) (K : Keeps words R) (n g : ℕ) (few : n < 32) (low : g < 8) (v : ℕ) where
  module _ (to : ℕ → Bool) (either : (k : ℕ) → member v k ≡ (member (get_or words (288 + n * 8 + g) 0) k || to k)) where
    named_added : (c : Claim) → InWords c → added_at true g to (λ k. eqb k n) R c ≡ holds (set words (288 + n * 8 + g) v) c
    named_added c w = let room = K.room in go c w (omega arith)
      where
        go : (c : Claim) → InWords c → 288 + n * 8 + g < length words → added_at true g to (λ k. eqb k n) R c ≡ holds (set words (288 + n * 8 + g) v) c
        go (root m) w l = K.same (root m) w ∙ sym (other words (288 + n * 8 + g) v l (claim (root m)) (λ e. omega arith))
        go (edge m k t) w l =
            let f = w.0 in
            let h = w.1 in
            rw (or-false (R (edge m k t))) (K.same (edge m k t) w ∙ sym (other words (288 + n * 8 + g) v l (claim (edge m k t)) (λ e. omega arith)))
        go (string m k s) w l = rw (other words (288 + n * 8 + g) v l (any_at m k) (λ e. let h = w.1 in omega arith)) (by (eqb k g) refl (eqb m n) refl)
          where
            by : (a : Bool) → eqb k g ≡ a → (b : Bool) → eqb m n ≡ b → (R (string m k s) || (a && (to s && b))) ≡ (is_kept words (any_at m k) || is_kept (set words (288 + n * 8 + g) v) (claim (string m k s)))
            by true e true q =
                let p : k ≡ g = eqb-true k g e in
                let r : m ≡ n = eqb-true m n q in
                rw (p, r, and-true (to s), K.same (string n g s) (few, low), get_or-set_same words (288 + n * 8 + g) v 0 l, either s)
                (or_assoc (is_kept words (any_at n g)) (is_kept words (claim (string n g s))) (to s))
            by true e false q =
                rw (and-false (to s), or-false (R (string m k s)), other words (288 + n * 8 + g) v l (claim (string m k s)) (λ z. let h = w.1 in let f = eqb-false m n q in f (omega arith))) (K.same (string m k s) w)
            by false e b q =
                rw (or-false (R (string m k s)), other words (288 + n * 8 + g) v l (claim (string m k s)) (λ z. let h = w.1 in let f = eqb-false k g e in f (omega arith))) (K.same (string m k s) w)
        go (gap_from k m) w l = K.same (gap_from k m) w ∙ sym (other words (288 + n * 8 + g) v l (claim (gap_from k m)) (λ e. omega arith))
        go (attribute_gap_from k m) w l = K.same (attribute_gap_from k m) w ∙ sym (other words (288 + n * 8 + g) v l (claim (attribute_gap_from k m)) (λ e. omega arith))

  module _ (either : (k : ℕ) → member v k ≡ (eqb k n || member (get_or words (17 + g) 0) k)) where
    any_added : (c : Claim) → InWords c → added_at true g (λ s. true) (λ k. eqb k n) R c ≡ holds (set words (17 + g) v) c
    any_added c w = let room = K.room in go c w (omega arith)
      where
        go : (c : Claim) → InWords c → 17 + g < length words → added_at true g (λ s. true) (λ k. eqb k n) R c ≡ holds (set words (17 + g) v) c
        go (root m) w l = K.same (root m) w ∙ sym (other words (17 + g) v l (claim (root m)) (λ e. omega arith))
        go (edge m k t) w l =
            rw (or-false (R (edge m k t))) (K.same (edge m k t) w ∙ sym (other words (17 + g) v l (claim (edge m k t)) (λ e. omega arith)))
        go (string m k s) w l = rw (other words (17 + g) v l (claim (string m k s)) (λ e. omega arith)) (by (eqb k g) refl)
          where
            by : (a : Bool) → eqb k g ≡ a → (R (string m k s) || (a && eqb m n)) ≡ (is_kept (set words (17 + g) v) (any_at m k) || is_kept words (claim (string m k s)))
            by true e =
                let p : k ≡ g = eqb-true k g e in
                rw (p, K.same (string m g s) (w.0, low), get_or-set_same words (17 + g) v 0 l, either m)
                (put_first (is_kept words (any_at m g)) (is_kept words (claim (string m g s))) (eqb m n))
            by false e =
                rw (or-false (R (string m k s)), other words (17 + g) v l (any_at m k) (λ z. let f = eqb-false k g e in f (omega arith))) (K.same (string m k s) w)
        go (gap_from k m) w l = K.same (gap_from k m) w ∙ sym (other words (17 + g) v l (claim (gap_from k m)) (λ e. omega arith))
        go (attribute_gap_from k m) w l = K.same (attribute_gap_from k m) w ∙ sym (other words (17 + g) v l (claim (attribute_gap_from k m)) (λ e. omega arith))

-- ---- the same of whole graphs

pub roots_drop : (words : List ℕ) (R : Summary) → Keeps words R → Keeps (set words 0 0) (rootless R)
roots_drop words = stored_keeps words 0 0 (omega arith) (omega arith) rootless (roots_dropped words)

module _ (words : List ℕ) (g : ℕ) (low : g < 8) (i : ℕ) where
  pub origins_drop : i ≡ 1 + g → (R : Summary) → Keeps words R → Keeps (set words i 0) (without_gap g R)
  origins_drop e = rw e (stored_keeps words (1 + g) 0 (omega arith) (omega arith) (without_gap g) (λ R K. origins_dropped words R K g low))

  pub attribute_origins_drop : i ≡ 9 + g → (R : Summary) → Keeps words R → Keeps (set words i 0) (without_attribute_gap g R)
  attribute_origins_drop e = rw e (stored_keeps words (9 + g) 0 (omega arith) (omega arith) (without_attribute_gap g) (λ R K. attribute_origins_dropped words R K g low))

module _ (words : List ℕ) (n g : ℕ) (few : n < 32) (low : g < 8) where
  pub named_add : (i v : ℕ) → i ≡ 288 + n * 8 + g → v < 2 ^ 64 → (to : ℕ → Bool) → ((k : ℕ) → member v k ≡ (member (get_or words i 0) k || to k))
      → (R : Summary) → Keeps words R → Keeps (set words i v) (added_at true g to (λ k. eqb k n) R)
  named_add i v e l to either =
      rw e (stored_keeps words (288 + n * 8 + g) v l (omega arith) (added_at true g to (λ k. eqb k n)) (λ R K. named_added words R K n g few low v to (rw e at either)))

  pub any_add : (i v : ℕ) → i ≡ 17 + g → v < 2 ^ 64 → ((k : ℕ) → member v k ≡ (eqb k n || member (get_or words i 0) k))
      → (R : Summary) → Keeps words R → Keeps (set words i v) (added_at true g (λ s. true) (λ k. eqb k n) R)
  any_add i v e l either =
      rw e (stored_keeps words (17 + g) v l (omega arith) (added_at true g (λ s. true) (λ k. eqb k n)) (λ R K. any_added words R K n g few low v (rw e at either)))
