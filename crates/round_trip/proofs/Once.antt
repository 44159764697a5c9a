-- What stands in a list once is new each time that it is read: not among what was read before it.
use Prim.Native.Nat.{ℕ}
use mathlib.Core.Path.{◌≡◌, refl, sym}
use mathlib.Core.List.{List, [], ◌∷◌, map}
use mathlib.Core.Bool.{Bool, false}
use lib.Dec.{eqb}
use borrow.Author.Tests.{eqb-false, ne_eqb}
use Rattle.sets.proofs.Booleans.{or_neither}
use Rattle.vocabularies.specs.Vocabulary.{Rule, is_in}
use Rattle.pages.specs.Items.{Attribute}

-- None of the numbers passes the test.
abbrev pub NoneOf : (ℕ → Bool) → List ℕ → Type 0
NoneOf p [] = Unit {0}
NoneOf p (n ∷ ns) = (p n ≡ false) × NoneOf p ns

pub none_of_none : (ns : List ℕ) → NoneOf (λ _. false) ns
none_of_none [] = tt
none_of_none (n ∷ ns) = (refl, none_of_none ns)

-- A test that n passes besides: none of the numbers passes it, if n is not among them.
pub none_after : (p p' : ℕ → Bool) (n : ℕ) → ((m : ℕ) → p m ≡ false → eqb n m ≡ false → p' m ≡ false)
    → (ns : List ℕ) → is_in n ns ≡ false → NoneOf p ns → NoneOf p' ns
unfolding is_in
none_after p p' n h [] i c = tt
none_after p p' n h (m ∷ ms) i c =
    let both = or_neither (eqb n m) (is_in n ms) i in
    (h m c.0 both.0, none_after p p' n h ms both.1 c.1)

-- Conversely, if none passes it, n is not among them.
pub none_before : (p p' : ℕ → Bool) (n : ℕ) → ((m : ℕ) → p' m ≡ false → (p m ≡ false) × (eqb n m ≡ false))
    → (ns : List ℕ) → NoneOf p' ns → (is_in n ns ≡ false) × NoneOf p ns
unfolding is_in
none_before p p' n h [] c = (refl, tt)
none_before p p' n h (m ∷ ms) c =
    let here = h m c.0 in
    let rest = none_before p p' n h ms c.1 in
    (rw (here.1, rest.0), (here.0, rest.1))

pub eqb_turned : (n m : ℕ) → eqb n m ≡ false → eqb m n ≡ false
eqb_turned n m e = ne_eqb m n (λ q. eqb-false n m e (sym q))

pub not_among : (n m : ℕ) (before : List ℕ) → is_in m (n ∷ before) ≡ false → (is_in m before ≡ false) × (eqb n m ≡ false)
unfolding is_in
not_among n m before e = let both = or_neither (eqb m n) (is_in m before) e in (both.1, eqb_turned m n both.0)

-- What must stand once: the names of attributes, the elements of rules.
abbrev pub names : List Attribute → List ℕ
names δ = map (λ a. a.name) δ

abbrev pub elements : List Rule → List ℕ
elements rs = map (λ r. r.element) rs
