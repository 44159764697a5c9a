-- Adding at the templates of a set, one template after the other.
use Prim.Native.Nat.{ℕ, ◌+◌, ◌≤◌, ◌<◌}
use mathlib.Core.Path.{◌≡◌, refl, sym}
use mathlib.Core.List.{List}
use mathlib.Core.Bool.{Bool, true, false, ◌&&◌, ◌||◌, or-false, or_assoc, or_comm, and-false, and-or_distrib_left}
use native.Mathlib.Omega.{arith}
use lib.Dec.{eqb, ltb}
use borrow.Author.Tests.{eqb-true, eqb-false, lt-ltb, ltb-true, ltb-false}
use Rattle.std.specs.Prelude.{Option, Some, None}
use Rattle.sets.specs.Sets.{member}
use Rattle.sets.specs.Inner.Promises.{NextMember}
use Rattle.sets.proofs.Steps.{is_before, none_between}
use Rattle.summaries.specs.Proposal.{Claim, root, edge, string, gap_from, attribute_gap_from}
use Rattle.summaries.specs.Summaries.{Summary}
use Rattle.graphs.specs.Inner.Graphs.{InWords, Keeps}
use Rattle.graphs.specs.Inner.Promises.{added_at}
use Rattle.graphs.proofs.Storing.{keeps_same}

-- The templates of a set before what is next.
abbrev pub before : Option ℕ → ℕ → ℕ → Bool
before next templates n = is_before next n && member templates n

-- No template is left: what is next is none, or nothing is.
abbrev pub IsPast : Option ℕ → Type 0
IsPast None = Unit {0}
IsPast (Some m) = 32 ≤ m

module _ (templates : ℕ) where
  before_none : (next : Option ℕ) (n : ℕ) → NextMember templates 0 next → before next templates n ≡ false
  before_none next n F = go (is_before next n) refl
    where
      go : (t : Bool) → is_before next n ≡ t → (t && member templates n) ≡ false
      go true e = none_between templates 0 next F n (omega arith) e
      go false e = refl

  passed : (m n : ℕ) (next : Option ℕ) → n ≤ m → NextMember templates (m + 1) next → is_before next n ≡ true
  passed m n None l F = refl
  passed m n (Some k) l F = let a : m + 1 ≤ k = F.after in lt-ltb n k (omega arith)

  before_next : (m : ℕ) (next : Option ℕ) (n : ℕ) → member templates m ≡ true → NextMember templates (m + 1) next → before next templates n ≡ (eqb n m || before (Some m) templates n)
  before_next m next n is F = go (ltb n m) refl (eqb n m) refl
    where
      go : (t : Bool) → ltb n m ≡ t → (u : Bool) → eqb n m ≡ u → before next templates n ≡ (u || (t && member templates n))
      go true e true q = let l = ltb-true n m e in let z = eqb-true n m q in absurd (omega arith)
      go true e false q = let l = ltb-true n m e in rw (passed m n next (omega arith) F)
      go false e true q = let z : n ≡ m = eqb-true n m q in rw (passed m n next (omega arith) F, z) is
      go false e false q = later (is_before next n) refl
        where
          later : (t : Bool) → is_before next n ≡ t → (t && member templates n) ≡ false
          later true l =
              let a = ltb-false n m e in
              let b = eqb-false n m q in
              none_between templates (m + 1) next F n (omega arith) l
          later false l = refl

  before_all : (next : Option ℕ) (n : ℕ) → IsPast next → n < 32 → before next templates n ≡ member templates n
  before_all None n l h = refl
  before_all (Some m) n l h = rw (lt-ltb n m (omega arith))

module _ (attribute : Bool) (g : ℕ) (more : ℕ → Bool) (templates : ℕ) (graph : List ℕ) (R : Summary) where
  -- The templates before what is next have it.
  abbrev pub AddedTo : Option ℕ → Type 0
  AddedTo next = Keeps graph (added_at attribute g more (before next templates) R)

  unset : (r a b p : Bool) → p ≡ false → (r || (a && (b && p))) ≡ r
  unset r a b p e = rw (e, and-false b, and-false a) (or-false r)

  begins_same : (next : Option ℕ) → NextMember templates 0 next → (attribute' : Bool) (c : Claim) → added_at attribute' g more (before next templates) R c ≡ R c
  begins_same next F a (root n) = refl
  begins_same next F true (edge n k l) = or-false (R (edge n k l))
  begins_same next F false (edge n k l) = unset (R (edge n k l)) (eqb k g) (more l) (before next templates n) (before_none templates next n F)
  begins_same next F true (string n k s) = unset (R (string n k s)) (eqb k g) (more s) (before next templates n) (before_none templates next n F)
  begins_same next F false (string n k s) = or-false (R (string n k s))
  begins_same next F a (gap_from k n) = refl
  begins_same next F a (attribute_gap_from k n) = refl

  pub adding_begins : (next : Option ℕ) → NextMember templates 0 next → Keeps graph R → AddedTo next
  adding_begins next F K = keeps_same graph R _ (λ c g. begins_same next F attribute c) K

  ends_same : (next : Option ℕ) → IsPast next → (attribute' : Bool) (c : Claim) → InWords c → added_at attribute' g more (member templates) R c ≡ added_at attribute' g more (before next templates) R c
  ends_same next l a (root n) w = refl
  ends_same next l true (edge n k o) w = refl
  ends_same next l false (edge n k o) w = rw (before_all templates next n l w.0)
  ends_same next l true (string n k s) w = rw (before_all templates next n l w.0)
  ends_same next l false (string n k s) w = refl
  ends_same next l a (gap_from k n) w = refl
  ends_same next l a (attribute_gap_from k n) w = refl

  pub adding_ends : (next : Option ℕ) → IsPast next → AddedTo next → Keeps graph (added_at attribute g more (member templates) R)
  adding_ends next l K = keeps_same graph _ _ (ends_same next l attribute) K

one_more : (r a b e p : Bool) → (r || (a && (b && (e || p)))) ≡ ((r || (a && (b && p))) || (a && (b && e)))
one_more r a b e p =
    rw (and-or_distrib_left b e p, and-or_distrib_left a (b && e) (b && p), or_comm (a && (b && e)) (a && (b && p)))
    (sym (or_assoc r (a && (b && p)) (a && (b && e))))

module _ (attribute : Bool) (g : ℕ) (more : ℕ → Bool) (templates m : ℕ) (next : Option ℕ) (is : member templates m ≡ true) (F : NextMember templates (m + 1) next) (R : Summary) where
  goes_same : (attribute' : Bool) (c : Claim) → added_at attribute' g more (before next templates) R c ≡ added_at attribute' g more (λ k. eqb k m) (added_at attribute' g more (before (Some m) templates) R) c
  goes_same a (root n) = refl
  goes_same true (edge n k l) = sym (or-false _)
  goes_same false (edge n k l) = rw (before_next templates m next n is F) (one_more (R (edge n k l)) (eqb k g) (more l) (eqb n m) (before (Some m) templates n))
  goes_same true (string n k s) = rw (before_next templates m next n is F) (one_more (R (string n k s)) (eqb k g) (more s) (eqb n m) (before (Some m) templates n))
  goes_same false (string n k s) = sym (or-false _)
  goes_same a (gap_from k n) = refl
  goes_same a (attribute_gap_from k n) = refl

  pub adding_goes : m < 32 → g < 8 → (graph after : List ℕ)
      → (m < 32 → g < 8 → (S : Summary) → Keeps graph S → Keeps after (added_at attribute g more (λ k. eqb k m) S)) → AddedTo attribute g more templates graph R (Some m)
      → AddedTo attribute g more templates after R next
  adding_goes f h graph after adds K = keeps_same after _ _ (λ c w. goes_same attribute c) (adds f h (added_at attribute g more (before (Some m) templates) R) K)
