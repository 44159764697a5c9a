-- Each test of the judgement decides what section 6 says of it.
use Prim.Native.Nat.{ℕ, zero, suc, ◌≤◌, ◌<◌, suc-le-suc}
use native.Mathlib.Omega.{arith}
use native.Mathlib.Decide.{dec_le}
use mathlib.Core.Path.{◌≡◌, refl, sym, ap}
use mathlib.Core.List.Memᴰ
use mathlib.Core.List.{List, [], ◌∷◌}
use mathlib.Core.Bool.{true, false, not}
use mathlib.Core.Logic.Iff
use mathlib.Core.Logic.{◌↔◌, ◌⊎◌, inl, inr, ⊎_elim}
use lib.ListN.{length, get_or}
use Rattle.sets.specs.Sets.{member}
use Rattle.vocabularies.specs.Vocabulary.{Formula, conj, disj, neg, truth, attr, content, order, value, is_in}
use Rattle.pages.specs.Items.{Value, string, open_gap, Attribute, Items}
use Rattle.pages.specs.RightPages.{◌∈◌, names, word, Exists, Before, Meets}
use Rattle.judging.specs.Inner.Judgement.{truth_of, precedes, has_string, holds_value, atoms_of}
use Rattle.agreement.proofs.Deciding.{Decided, holds, fails, true_iff, false_iff, decided_iff, decided_and, decided_or, decided_not, decided_test, decided_eq}

module _ {A : Type 0} where
  pub member_cons : {a b : A} {l : List A} → ((a ≡ b) ⊎ (a ∈ l)) ↔ (a ∈ (b ∷ l))
  member_cons = (⊎_elim Memᴰ.head Memᴰ.tail, Memᴰ.cases_cons)

pub decided_member : (n : ℕ) (l : List ℕ) → Decided (n ∈ l) (is_in n l)
unfolding is_in
decided_member n [] = fails Memᴰ.not-nil
decided_member n (m ∷ l) = decided_iff member_cons (decided_or (decided_eq n m) (decided_member n l))

-- A member of a word is what stands at some place of it.
pub exists_cons : (w : List ℕ) (x c : ℕ) → ((c ≡ x) ⊎ Exists w c) ↔ Exists (x ∷ w) c
exists_cons w x c = (⊎_elim (λ e. (0, omega arith, sym e)) (λ t. (suc t.0, suc-le-suc t.1, t.2)), λ t. placed t.0 t.1 t.2)
  where
    placed : (i : ℕ) → i < length (x ∷ w) → get_or (x ∷ w) i 0 ≡ c → (c ≡ x) ⊎ Exists w c
    placed zero h e = inl (sym e)
    placed (suc i) h e = inr (i, omega arith, e)

pub decided_exists : (w : List ℕ) (c : ℕ) → Decided (Exists w c) (is_in c w)
unfolding is_in
decided_exists [] c = fails (λ t. omega (arith, t.1))
decided_exists (x ∷ w) c = decided_iff (exists_cons w x c) (decided_or (decided_eq c x) (decided_exists w c))

-- Some d stands before a c.
abbrev pub Precedes : List ℕ → ℕ → ℕ → Type 0
Precedes w d c = (j : ℕ) × (i : ℕ) × (j < i) × (i < length w) × (get_or w j 0 ≡ d) × (get_or w i 0 ≡ c)

precedes_cons : (w : List ℕ) (x d c : ℕ) → (((x ≡ d) × Exists w c) ⊎ Precedes w d c) ↔ Precedes (x ∷ w) d c
precedes_cons w x d c = (⊎_elim first later, λ t. placed t.0 t.1 t.2 t.3 t.4 t.5)
  where
    first : (x ≡ d) × Exists w c → Precedes (x ∷ w) d c
    first t = (0, suc t.1.0, omega arith, suc-le-suc t.1.1, t.0, t.1.2)

    later : Precedes w d c → Precedes (x ∷ w) d c
    later t = (suc t.0, suc t.1, suc-le-suc t.2, suc-le-suc t.3, t.4, t.5)

    placed : (j i : ℕ) → j < i → i < length (x ∷ w) → get_or (x ∷ w) j 0 ≡ d → get_or (x ∷ w) i 0 ≡ c → ((x ≡ d) × Exists w c) ⊎ Precedes w d c
    placed zero zero h l e e' = absurd (omega arith)
    placed zero (suc i) h l e e' = inl (e, (i, omega arith, e'))
    placed (suc j) zero h l e e' = absurd (omega arith)
    placed (suc j) (suc i) h l e e' = inr (j, i, omega arith, omega arith, e, e')

decided_precedes : (w : List ℕ) (d c : ℕ) → Decided (Precedes w d c) (precedes w d c)
unfolding is_in precedes
decided_precedes [] d c = fails (λ t. omega (arith, t.3))
decided_precedes (x ∷ w) d c = decided_iff (precedes_cons w x d c) (decided_or (decided_and (decided_eq x d) (decided_exists w c)) (decided_precedes w d c))

before_unless : (w : List ℕ) (c d : ℕ) → (Precedes w d c → ⊥) ↔ Before w c d
before_unless w c d = (λ n i j hi hj e e'. unless n i j (dec_le i j) hi e e', refuted)
  where
    refuted : Before w c d → Precedes w d c → ⊥
    refuted b t = omega (arith, b t.1 t.0 t.3 (omega arith) t.5 t.4, t.2)

    unless : (Precedes w d c → ⊥) → (i j : ℕ) → Dec (i ≤ j) → i < length w → get_or w i 0 ≡ c → get_or w j 0 ≡ d → i ≤ j
    unless n i j (yes h) hi e e' = h
    unless n i j (no h) hi e e' = absurd (n (j, i, omega arith, hi, e', e))

-- `16 c d`: no d stands before a c.
pub decided_before : (w : List ℕ) (c d : ℕ) → Decided (Before w c d) (not (precedes w d c))
decided_before w c d = decided_iff (before_unless w c d) (decided_not (decided_precedes w d c))

-- Some attribute a has a string of the set m.
abbrev pub Holds : List Attribute → ℕ → ℕ → Type 0
Holds δ a m = (s : ℕ) × (record { name = a; value = string s } ∈ δ) × (member m s ≡ true)

-- An attribute is itself such a one.
abbrev pub HoldsFirst : Attribute → ℕ → ℕ → Type 0
HoldsFirst x a m = (x.name ≡ a) × ((s : ℕ) × (x.value ≡ string s) × (member m s ≡ true))

same_attribute : (x : Attribute) {a : ℕ} {v : Value} → x.name ≡ a → x.value ≡ v → record { name = a; value = v } ≡ x
same_attribute x n e = rw (← n, ← e)

holds_cons : (x : Attribute) (δ : List Attribute) (a m : ℕ) → (HoldsFirst x a m ⊎ Holds δ a m) ↔ Holds (x ∷ δ) a m
holds_cons x δ a m = (⊎_elim first later, λ t. placed t.0 t.2 (Memᴰ.cases_cons t.1))
  where
    first : HoldsFirst x a m → Holds (x ∷ δ) a m
    first t = (t.1.0, Memᴰ.head (same_attribute x t.0 t.1.1), t.1.2)

    later : Holds δ a m → Holds (x ∷ δ) a m
    later t = (t.0, Memᴰ.tail t.1, t.2)

    placed : (s : ℕ) → member m s ≡ true → (record { name = a; value = string s } ≡ x) ⊎ (record { name = a; value = string s } ∈ δ)
        → HoldsFirst x a m ⊎ Holds δ a m
    placed s h (inl e) = inl (ap (λ y. y.name) (sym e), (s, ap (λ y. y.value) (sym e), h))
    placed s h (inr i) = inr (s, i, h)

-- The string of an attribute is in the set; an attribute gap is none.
abbrev InSet : Value → ℕ → Type 0
InSet v m = (s : ℕ) × (v ≡ string s) × (member m s ≡ true)

string_in_lem : (s m : ℕ) → (member m s ≡ true) ↔ InSet (string s) m
string_in_lem s m = (λ h. (s, refl, h), λ t. back t.0 t.1 t.2)
  where
    back : (s' : ℕ) → string s ≡ string s' → member m s' ≡ true → member m s ≡ true
    back s' e h = let same : s ≡ s' = cc in rw same h

gap_out : (h m : ℕ) → InSet (open_gap h) m → ⊥
gap_out h m t = let e = t.1 in let z : ◌≡◌ {A = ℕ} 0 1 = cc in omega arith

decided_string : (v : Value) (m : ℕ) → Decided (InSet v m) (has_string v m)
decided_string (string s) m = decided_iff (string_in_lem s m) (decided_test (member m s))
decided_string (open_gap h) m = fails (gap_out h m)

pub decided_holds : (δ : List Attribute) (a m : ℕ) → Decided (Holds δ a m) (holds_value δ a m)
unfolding holds_value
decided_holds [] a m = fails (λ t. Memᴰ.not-nil t.1)
decided_holds (x ∷ δ) a m =
    decided_iff (holds_cons x δ a m) (decided_or (decided_and (decided_eq x.name a) (decided_string x.value m)) (decided_holds δ a m))

-- A formula's test, from those of its atoms.
pub decided_meets : (δ : List Attribute) (φ : Items) (ψ : Formula) → Decided (Meets δ φ ψ) (truth_of (atoms_of δ (word φ)) ψ)
unfolding truth_of atoms_of Meets
decided_meets δ φ (conj ψ₁ ψ₂) = decided_and (decided_meets δ φ ψ₁) (decided_meets δ φ ψ₂)
decided_meets δ φ (disj ψ₁ ψ₂) = decided_or (decided_meets δ φ ψ₁) (decided_meets δ φ ψ₂)
decided_meets δ φ (neg ψ) = decided_not (decided_meets δ φ ψ)
decided_meets δ φ truth = holds tt
decided_meets δ φ (attr a) = decided_member a (names δ)
decided_meets δ φ (content c) = decided_exists (word φ) c
decided_meets δ φ (order c d) = decided_before (word φ) c d
decided_meets δ φ (value a m) = decided_or (decided_not (decided_member a (names δ))) (decided_holds δ a m)

-- The same, each as one equivalence.
pub is_in_iff : (n : ℕ) (l : List ℕ) → (is_in n l ≡ true) ↔ (n ∈ l)
is_in_iff n l = true_iff (decided_member n l)

pub exists_iff : (w : List ℕ) (c : ℕ) → (is_in c w ≡ true) ↔ Exists w c
exists_iff w c = true_iff (decided_exists w c)

pub before_iff : (w : List ℕ) (c d : ℕ) → (precedes w d c ≡ false) ↔ Before w c d
before_iff w c d = Iff.trans (false_iff (decided_precedes w d c)) (before_unless w c d)

pub holds_iff : (δ : List Attribute) (a m : ℕ) → (holds_value δ a m ≡ true) ↔ Holds δ a m
holds_iff δ a m = true_iff (decided_holds δ a m)

pub meets_iff : (δ : List Attribute) (φ : Items) (ψ : Formula) → (truth_of (atoms_of δ (word φ)) ψ ≡ true) ↔ Meets δ φ ψ
meets_iff δ φ ψ = true_iff (decided_meets δ φ ψ)

pub meets_not_iff : (δ : List Attribute) (φ : Items) (ψ : Formula) → (truth_of (atoms_of δ (word φ)) ψ ≡ false) ↔ (Meets δ φ ψ → ⊥)
meets_not_iff δ φ ψ = false_iff (decided_meets δ φ ψ)
