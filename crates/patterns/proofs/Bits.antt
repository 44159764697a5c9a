-- Patterns bit by bit, for code that keeps them in words: bit i of a pattern is the flag of fact i, and a number below 2 ^ k with
-- these bits is the pattern. The facts of a clause are distinct, so the flag of fact i is bit i of any number.
use Prim.Native.Nat.{ℕ, zero, suc, ◌+◌, ◌*◌, ◌/◌, ◌%◌, ◌^◌, ◌<◌}
use native.Mathlib.Nat.{div-div-eq-div-mul, div-one, pow-succ'}
use native.Mathlib.Omega.{arith}
use mathlib.Core.Path.{◌≡◌, refl, sym, ap, ◌∙◌}
use mathlib.Core.List.{List, [], ◌∷◌, ◌++◌}
use mathlib.Core.Bool.{Bool, true, false, cond, true≢false}
use mathlib.Core.Logic.{⊎_elim}
use lib.ListN.{length, get_or, length-append, get_or-append}
use lib.Seq.{get_or-append_seam}
use lib.Dec.{eqb}
use borrow.Author.Tests.{eqb-true, eqb-false}
use Rattle.sets.specs.Sets.{member}
use Rattle.vocabularies.specs.Vocabulary.{Formula, conj, disj, neg, truth, attr, content, order, value, is_in}
use Rattle.vocabularies.specs.Facts.{Fact, carried, present, ordered, valued, same_fact, is_among, add, with_facts, facts_of}
use Rattle.judging.specs.Inner.Judgement.{precedes}
use Rattle.patterns.specs.Inner.Patterns.{breaks_value, flagged, numbered, pattern_of, flag_in}
use Rattle.sets.proofs.Booleans.{or_left, or_right, refuted, either}
use Rattle.patterns.proofs.Facts.{fact_same}
use Rattle.patterns.proofs.Clauses.{lowest, higher, numbered_same}

-- Fact i of a list.
abbrev pub fact_at : List Fact → ℕ → Fact
fact_at fs i = get_or fs i (present 0)

pub member_zero : (x : ℕ) → member x 0 ≡ eqb (x % 2) 1
unfolding member
member_zero x = ap (λ (y : ℕ). eqb (y % 2) 1) (div-one x)

pub member_suc : (x i : ℕ) → member x (suc i) ≡ member (x / 2) i
unfolding member
member_suc x i = ap (λ (y : ℕ). eqb (y % 2) 1) (ap (λ (k : ℕ). x / k) (pow-succ' 2 i) ∙ sym (div-div-eq-div-mul x 2 (2 ^ i)))

-- Bit i of a pattern is the flag of fact i.
pub numbered_bit : (fs : List Fact) (flag : Fact → Bool) (i : ℕ) → i < length fs → member (numbered fs flag) i ≡ flag (fact_at fs i)
unfolding numbered
numbered_bit [] flag i h = absurd (omega arith)
numbered_bit (f ∷ fs) flag zero h = member_zero (cond (flag f) 1 0 + 2 * numbered fs flag) ∙ lowest (flag f) (numbered fs flag)
numbered_bit (f ∷ fs) flag (suc i) h =
    member_suc (cond (flag f) 1 0 + 2 * numbered fs flag) i
    ∙ ap (λ (x : ℕ). member x i) (higher (flag f) (numbered fs flag))
    ∙ numbered_bit fs flag i (omega arith)

low_bit : (b : Bool) (x : ℕ) → eqb (x % 2) 1 ≡ b → x % 2 ≡ cond b 1 0
low_bit true x e = eqb-true (x % 2) 1 e
low_bit false x e = let ne : x % 2 ≡ 1 → ⊥ = eqb-false (x % 2) 1 e in omega arith

put_together : (x b n : ℕ) → x % 2 ≡ b → x / 2 ≡ n → x ≡ b + 2 * n
put_together x b n p q = omega arith

-- A number with these bits, and no higher one, is the pattern.
pub numbered_unique : (fs : List Fact) (flag : Fact → Bool) (x : ℕ) → x < 2 ^ length fs
    → ((i : ℕ) → i < length fs → member x i ≡ flag (fact_at fs i)) → x ≡ numbered fs flag
unfolding numbered
numbered_unique [] flag x h bits = omega arith
numbered_unique (f ∷ fs) flag x h bits = put_together x (cond (flag f) 1 0) (numbered fs flag)
    (low_bit (flag f) x (sym (member_zero x) ∙ bits 0 (omega arith)))
    (numbered_unique fs flag (x / 2) half (λ i k. sym (member_suc x i) ∙ bits (suc i) (omega arith)))
  where
    half : x / 2 < 2 ^ length fs
    half =
        let wide : 2 ^ suc (length fs) ≡ 2 * 2 ^ length fs = pow-succ' 2 (length fs) in
        let small : x < 2 * 2 ^ length fs = rw (← wide) h in
        omega arith

-- The flag of a fact is the bit at its first place.
pub flag_bit : (fs : List Fact) (x : ℕ) (f : Fact) (i : ℕ) → i < length fs → same_fact f (fact_at fs i) ≡ true
    → ((j : ℕ) → j < i → same_fact f (fact_at fs j) ≡ false) → flag_in fs x f ≡ member x i
unfolding flag_in
flag_bit [] x f i h e first = absurd (omega arith)
flag_bit (g ∷ fs) x f zero h e first = rw e (sym (member_zero x))
flag_bit (g ∷ fs) x f (suc i) h e first = rw (first 0 (omega arith))
    (flag_bit fs (x / 2) f i (omega arith) e (λ j k. first (suc j) (omega arith)) ∙ sym (member_suc x i))

-- No fact stands twice in the list.
abbrev pub Distinct : List Fact → Type 0
Distinct fs = (i j : ℕ) → i < j → j < length fs → same_fact (fact_at fs j) (fact_at fs i) ≡ false

pub fact_bit : (fs : List Fact) → Distinct fs → (x i : ℕ) → i < length fs → flag_in fs x (fact_at fs i) ≡ member x i
fact_bit fs distinct x i h = flag_bit fs x (fact_at fs i) i h (fact_same (fact_at fs i)) (λ j k. distinct j i k h)

-- A number below 2 ^ k is made of its flags.
pub numbered_flags : (fs : List Fact) → Distinct fs → (x : ℕ) → x < 2 ^ length fs → numbered fs (flag_in fs x) ≡ x
numbered_flags fs distinct x h = sym (numbered_unique fs (flag_in fs x) x h (λ i k. sym (fact_bit fs distinct x i k)))

not_among : (f : Fact) (fs : List Fact) → is_among f fs ≡ false → (i : ℕ) → i < length fs → same_fact f (fact_at fs i) ≡ false
unfolding is_among
not_among f [] e i h = absurd (omega arith)
not_among f (g ∷ fs) e zero h = refuted (same_fact f g) (λ t. true≢false (sym (or_left (same_fact f g) (is_among f fs) t) ∙ e))
not_among f (g ∷ fs) e (suc i) h =
    not_among f fs (refuted (is_among f fs) (λ t. true≢false (sym (or_right (same_fact f g) (is_among f fs) t) ∙ e))) i (omega arith)

distinct_end : (f : Fact) (fs : List Fact) → is_among f fs ≡ false → Distinct fs → Distinct (fs ++ (f ∷ []))
distinct_end f fs e d i j h k = ⊎_elim
    (λ (q : eqb j (length fs) ≡ true).
    let at_end : j ≡ length fs = eqb-true j (length fs) q in
    rw (at_end, get_or-append_seam fs f [] (present 0), get_or-append fs (f ∷ []) (present 0) i (omega arith)) (not_among f fs e i (omega arith)))
    (λ (q : eqb j (length fs) ≡ false).
    let inside : j ≡ length fs → ⊥ = eqb-false j (length fs) q in
    let long : length (fs ++ (f ∷ [])) ≡ length fs + 1 = length-append fs (f ∷ []) in
    rw (get_or-append fs (f ∷ []) (present 0) j (omega arith), get_or-append fs (f ∷ []) (present 0) i (omega arith)) (d i j h (omega arith)))
    (either (eqb j (length fs)))

distinct_add : (f : Fact) (fs : List Fact) → Distinct fs → Distinct (add f fs)
unfolding add
distinct_add f fs d = go (is_among f fs) refl
  where
    go : (b : Bool) → is_among f fs ≡ b → Distinct (cond b fs (fs ++ (f ∷ [])))
    go true e = d
    go false e = distinct_end f fs e d

distinct_with : (ψ : Formula) (fs : List Fact) → Distinct fs → Distinct (with_facts ψ fs)
unfolding with_facts
distinct_with (conj ψ₁ ψ₂) fs d = distinct_with ψ₂ (with_facts ψ₁ fs) (distinct_with ψ₁ fs d)
distinct_with (disj ψ₁ ψ₂) fs d = distinct_with ψ₂ (with_facts ψ₁ fs) (distinct_with ψ₁ fs d)
distinct_with (neg ψ) fs d = distinct_with ψ fs d
distinct_with truth fs d = d
distinct_with (attr a) fs d = distinct_add (carried a) fs d
distinct_with (content c) fs d = distinct_add (present c) fs d
distinct_with (order c d') fs d = distinct_add (ordered c d') (add (present d') (add (present c) fs))
    (distinct_add (present d') (add (present c) fs) (distinct_add (present c) fs d))
distinct_with (value a m) fs d = distinct_add (valued a m) fs d

pub facts_distinct : (ψ : Formula) → Distinct (facts_of ψ)
facts_distinct ψ = distinct_with ψ [] (λ i j h k. absurd (omega arith))

all_unflagged : (fs : List Fact) → numbered fs (λ f. false) ≡ 0
unfolding numbered
all_unflagged [] = refl
all_unflagged (f ∷ fs) = rw (all_unflagged fs)

-- The pattern of nothing is 0.
pub pattern_of_nothing : (fs : List Fact) → pattern_of fs [] [] ≡ 0
unfolding pattern_of is_in precedes breaks_value
pattern_of_nothing fs = numbered_same fs (flagged [] []) (λ f. false) unflagged ∙ all_unflagged fs
  where
    unflagged : (f : Fact) → is_among f fs ≡ true → flagged [] [] f ≡ false
    unflagged (carried a) e = refl
    unflagged (present c) e = refl
    unflagged (ordered c d) e = refl
    unflagged (valued a m) e = refl
