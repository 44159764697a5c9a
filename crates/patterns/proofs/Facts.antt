-- The facts of a clause: every fact of the formula is among them, and with a pair its two contents.
use Prim.Native.Nat.{ℕ}
use mathlib.Core.Path.{◌≡◌, refl, sym, ap, ap₂, subst}
use mathlib.Core.List.{List, [], ◌∷◌, ◌++◌}
use mathlib.Core.Bool.{Bool, true, false, cond, false≢true}
use mathlib.Core.Logic.{◌⊎◌, inl, inr, ⊎_elim}
use lib.Dec.{eqb}
use borrow.Author.Tests.{eqb-true}
use Rattle.vocabularies.specs.Vocabulary.{Formula, conj, disj, neg, truth, attr, content, order, value}
use Rattle.vocabularies.specs.Facts.{Fact, carried, present, ordered, valued, same_fact, is_among, add, with_facts, facts_of}
use Rattle.patterns.proofs.Tests.{eqb_same}
use Rattle.sets.proofs.Booleans.{or_left, or_right, or_cases, and_both, and_left, and_right}

pub same_fact_lem : (f g : Fact) → same_fact f g ≡ true → f ≡ g
same_fact_lem (carried a) (carried b) e = ap carried (eqb-true a b e)
same_fact_lem (carried a) (present d) e = absurd (false≢true e)
same_fact_lem (carried a) (ordered d d') e = absurd (false≢true e)
same_fact_lem (carried a) (valued b m) e = absurd (false≢true e)
same_fact_lem (present c) (carried b) e = absurd (false≢true e)
same_fact_lem (present c) (present d) e = ap present (eqb-true c d e)
same_fact_lem (present c) (ordered d d') e = absurd (false≢true e)
same_fact_lem (present c) (valued a m) e = absurd (false≢true e)
same_fact_lem (ordered c c') (carried b) e = absurd (false≢true e)
same_fact_lem (ordered c c') (present d) e = absurd (false≢true e)
same_fact_lem (ordered c c') (ordered d d') e =
    ap₂ ordered (eqb-true c d (and_left (eqb c d) (eqb c' d') e)) (eqb-true c' d' (and_right (eqb c d) (eqb c' d') e))
same_fact_lem (ordered c c') (valued a m) e = absurd (false≢true e)
same_fact_lem (valued a m) (carried b) e = absurd (false≢true e)
same_fact_lem (valued a m) (present d) e = absurd (false≢true e)
same_fact_lem (valued a m) (ordered d d') e = absurd (false≢true e)
same_fact_lem (valued a m) (valued b m') e =
    ap₂ valued (eqb-true a b (and_left (eqb a b) (eqb m m') e)) (eqb-true m m' (and_right (eqb a b) (eqb m m') e))

pub fact_same : (f : Fact) → same_fact f f ≡ true
fact_same (carried a) = eqb_same a
fact_same (present c) = eqb_same c
fact_same (ordered c d) = and_both _ _ (eqb_same c) (eqb_same d)
fact_same (valued a m) = and_both _ _ (eqb_same a) (eqb_same m)

among_end : (f g : Fact) (fs : List Fact) → is_among f fs ≡ true → is_among f (fs ++ (g ∷ [])) ≡ true
unfolding is_among
among_end f g [] e = absurd (false≢true e)
among_end f g (h ∷ fs) e = ⊎_elim
    (λ q. or_left (same_fact f h) (is_among f (fs ++ (g ∷ []))) q)
    (λ q. or_right (same_fact f h) (is_among f (fs ++ (g ∷ []))) (among_end f g fs q))
    (or_cases (same_fact f h) (is_among f fs) e)

end_among : (g : Fact) (fs : List Fact) → is_among g (fs ++ (g ∷ [])) ≡ true
unfolding is_among
end_among g [] = or_left (same_fact g g) false (fact_same g)
end_among g (h ∷ fs) = or_right (same_fact g h) (is_among g (fs ++ (g ∷ []))) (end_among g fs)

among_end_cases : (f g : Fact) (fs : List Fact) → is_among f (fs ++ (g ∷ [])) ≡ true → (is_among f fs ≡ true) ⊎ (f ≡ g)
unfolding is_among
among_end_cases f g [] e = ⊎_elim (λ q. inr (same_fact_lem f g q)) (λ q. absurd (false≢true q)) (or_cases (same_fact f g) false e)
among_end_cases f g (h ∷ fs) e = ⊎_elim
    (λ q. inl (or_left (same_fact f h) (is_among f fs) q))
    (λ q. ⊎_elim (λ r. inl (or_right (same_fact f h) (is_among f fs) r)) (λ r. inr r) (among_end_cases f g fs q))
    (or_cases (same_fact f h) (is_among f (fs ++ (g ∷ []))) e)

-- What a list with a fact added has: the fact, what it had, and nothing else.
among_add : (f g : Fact) (fs : List Fact) → is_among f fs ≡ true → is_among f (add g fs) ≡ true
unfolding add
among_add f g fs e = go (is_among g fs)
  where
    go : (b : Bool) → is_among f (cond b fs (fs ++ (g ∷ []))) ≡ true
    go true = e
    go false = among_end f g fs e

added : (g : Fact) (fs : List Fact) → is_among g (add g fs) ≡ true
unfolding add
added g fs = go (is_among g fs) refl
  where
    go : (b : Bool) → is_among g fs ≡ b → is_among g (cond b fs (fs ++ (g ∷ []))) ≡ true
    go true e = e
    go false e = end_among g fs

pub among_add_cases : (f g : Fact) (fs : List Fact) → is_among f (add g fs) ≡ true → (is_among f fs ≡ true) ⊎ (f ≡ g)
unfolding add
among_add_cases f g fs e = go (is_among g fs) e
  where
    go : (b : Bool) → is_among f (cond b fs (fs ++ (g ∷ []))) ≡ true → (is_among f fs ≡ true) ⊎ (f ≡ g)
    go true q = inl q
    go false q = among_end_cases f g fs q

-- With a pair its two contents are among the facts.
abbrev pub Closed : List Fact → Type 0
Closed fs = (c d : ℕ) → is_among (ordered c d) fs ≡ true → (is_among (present c) fs ≡ true) × (is_among (present d) fs ≡ true)

-- Every fact of a formula is among the facts.
abbrev pub Covers : List Fact → Formula → Type 0
Covers fs (conj ψ₁ ψ₂) = Covers fs ψ₁ × Covers fs ψ₂
Covers fs (disj ψ₁ ψ₂) = Covers fs ψ₁ × Covers fs ψ₂
Covers fs (neg ψ) = Covers fs ψ
Covers fs truth = Unit {0}
Covers fs (attr a) = is_among (carried a) fs ≡ true
Covers fs (content c) = is_among (present c) fs ≡ true
Covers fs (order c d) = is_among (ordered c d) fs ≡ true
Covers fs (value a m) = is_among (valued a m) fs ≡ true

among_with : (ψ : Formula) (f : Fact) (fs : List Fact) → is_among f fs ≡ true → is_among f (with_facts ψ fs) ≡ true
unfolding with_facts
among_with (conj ψ₁ ψ₂) f fs e = among_with ψ₂ f (with_facts ψ₁ fs) (among_with ψ₁ f fs e)
among_with (disj ψ₁ ψ₂) f fs e = among_with ψ₂ f (with_facts ψ₁ fs) (among_with ψ₁ f fs e)
among_with (neg ψ) f fs e = among_with ψ f fs e
among_with truth f fs e = e
among_with (attr a) f fs e = among_add f (carried a) fs e
among_with (content c) f fs e = among_add f (present c) fs e
among_with (order c d) f fs e = among_add f (ordered c d) (add (present d) (add (present c) fs))
    (among_add f (present d) (add (present c) fs) (among_add f (present c) fs e))
among_with (value a m) f fs e = among_add f (valued a m) fs e

covers_more : (ψ : Formula) (fs gs : List Fact) → ((f : Fact) → is_among f fs ≡ true → is_among f gs ≡ true) → Covers fs ψ → Covers gs ψ
covers_more (conj ψ₁ ψ₂) fs gs h k = (covers_more ψ₁ fs gs h k.0, covers_more ψ₂ fs gs h k.1)
covers_more (disj ψ₁ ψ₂) fs gs h k = (covers_more ψ₁ fs gs h k.0, covers_more ψ₂ fs gs h k.1)
covers_more (neg ψ) fs gs h k = covers_more ψ fs gs h k
covers_more truth fs gs h k = tt
covers_more (attr a) fs gs h k = h (carried a) k
covers_more (content c) fs gs h k = h (present c) k
covers_more (order c d) fs gs h k = h (ordered c d) k
covers_more (value a m) fs gs h k = h (valued a m) k

with_covers : (ψ : Formula) (fs : List Fact) → Covers (with_facts ψ fs) ψ
unfolding with_facts
with_covers (conj ψ₁ ψ₂) fs = (
  covers_more ψ₁ (with_facts ψ₁ fs) (with_facts ψ₂ (with_facts ψ₁ fs)) (λ f. among_with ψ₂ f (with_facts ψ₁ fs)) (with_covers ψ₁ fs),
  with_covers ψ₂ (with_facts ψ₁ fs),
)
with_covers (disj ψ₁ ψ₂) fs = (
  covers_more ψ₁ (with_facts ψ₁ fs) (with_facts ψ₂ (with_facts ψ₁ fs)) (λ f. among_with ψ₂ f (with_facts ψ₁ fs)) (with_covers ψ₁ fs),
  with_covers ψ₂ (with_facts ψ₁ fs),
)
with_covers (neg ψ) fs = with_covers ψ fs
with_covers truth fs = tt
with_covers (attr a) fs = added (carried a) fs
with_covers (content c) fs = added (present c) fs
with_covers (order c d) fs = added (ordered c d) (add (present d) (add (present c) fs))
with_covers (value a m) fs = added (valued a m) fs

-- A fact that is no pair keeps a list closed.
closed_add : (g : Fact) (fs : List Fact) → ((c d : ℕ) → ordered c d ≡ g → ⊥) → Closed fs → Closed (add g fs)
closed_add g fs single k c d e = ⊎_elim
    (λ q. (among_add (present c) g fs (k c d q).0, among_add (present d) g fs (k c d q).1))
    (λ q. absurd (single c d q))
    (among_add_cases (ordered c d) g fs e)

is_pair : Fact → Bool
is_pair (carried a) = false
is_pair (present c) = false
is_pair (ordered c d) = true
is_pair (valued a m) = false

carried_single : (a c d : ℕ) → ordered c d ≡ carried a → ⊥
unfolding is_pair
carried_single a c d e = false≢true (ap is_pair (sym e))

present_single : (x c d : ℕ) → ordered c d ≡ present x → ⊥
unfolding is_pair
present_single x c d e = false≢true (ap is_pair (sym e))

pair_is : (c d c' d' : ℕ) → ordered c' d' ≡ ordered c d → (c' ≡ c) × (d' ≡ d)
pair_is c d c' d' e = (cc, cc)

valued_single : (a m c d : ℕ) → ordered c d ≡ valued a m → ⊥
unfolding is_pair
valued_single a m c d e = false≢true (ap is_pair (sym e))

closed_pair : (c d : ℕ) (fs : List Fact) → Closed fs → Closed (add (ordered c d) (add (present d) (add (present c) fs)))
closed_pair c d fs k c' d' e = ⊎_elim
    (λ q. (keep (present c') (both c' d' q).0, keep (present d') (both c' d' q).1))
    (λ q. (
      subst (λ (x : ℕ). is_among (present x) (add (ordered c d) gs) ≡ true) (sym (pair_is c d c' d' q).0)
          (keep (present c) (among_add (present c) (present d) (add (present c) fs) (added (present c) fs))),
      subst (λ (x : ℕ). is_among (present x) (add (ordered c d) gs) ≡ true) (sym (pair_is c d c' d' q).1)
          (keep (present d) (added (present d) (add (present c) fs))),
    ))
    (among_add_cases (ordered c' d') (ordered c d) gs e)
  where
    gs : List Fact
    gs = add (present d) (add (present c) fs)

    both : Closed gs
    both = closed_add (present d) (add (present c) fs) (present_single d) (closed_add (present c) fs (present_single c) k)

    keep : (f : Fact) → is_among f gs ≡ true → is_among f (add (ordered c d) gs) ≡ true
    keep f = among_add f (ordered c d) gs

with_closed : (ψ : Formula) (fs : List Fact) → Closed fs → Closed (with_facts ψ fs)
unfolding with_facts
with_closed (conj ψ₁ ψ₂) fs k = with_closed ψ₂ (with_facts ψ₁ fs) (with_closed ψ₁ fs k)
with_closed (disj ψ₁ ψ₂) fs k = with_closed ψ₂ (with_facts ψ₁ fs) (with_closed ψ₁ fs k)
with_closed (neg ψ) fs k = with_closed ψ fs k
with_closed truth fs k = k
with_closed (attr a) fs k = closed_add (carried a) fs (carried_single a) k
with_closed (content c) fs k = closed_add (present c) fs (present_single c) k
with_closed (order c d) fs k = closed_pair c d fs k
with_closed (value a m) fs k = closed_add (valued a m) fs (valued_single a m) k

pub facts_cover : (ψ : Formula) → Covers (facts_of ψ) ψ
facts_cover ψ = with_covers ψ []

pub facts_closed : (ψ : Formula) → Closed (facts_of ψ)
unfolding is_among
facts_closed ψ = with_closed ψ [] (λ c d e. absurd (false≢true e))
