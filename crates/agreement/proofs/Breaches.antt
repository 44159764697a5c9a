-- Of the breaches of an element one is told (document 02, F-6): it is the first in the order of attribute, content and clauses by their
-- places. Tests of each, joined in that order, tell it.
use Prim.Native.Nat.{ℕ, suc, ◌+◌, ◌≤◌, ◌<◌}
use native.Mathlib.Omega.{arith}
use native.Mathlib.Decide.{ℕ_discrete}
use mathlib.Core.Path.{◌≡◌, refl, ap, subst}
use mathlib.Core.List.{List, [], ◌∷◌}
use mathlib.Core.Bool.{Bool}
use mathlib.Core.Option.{Option, some, none}
use lib.ListN.{length, get_or}
use Rattle.verdicts.specs.declared.Breach.{Breach}
use Rattle.verdicts.specs.declared.Breach.TheVariants.{Attribute, Content, Clause}
use Rattle.vocabularies.specs.Vocabulary.{Formula, truth}
use Rattle.pages.specs.RightPages.{FirstBreach, an_attribute, a_content, a_clause}
use Rattle.judging.specs.Inner.Judgement.{broken_if, or_first, first_failing}
use Rattle.agreement.proofs.Deciding.{Decided, holds, fails}

-- ---- the order

abbrev pub rank : Breach → ℕ
rank Attribute = 0
rank Content = 1
rank (Clause i) = i + 2

rank_unique : (b c : Breach) → rank b ≡ rank c → b ≡ c
rank_unique Attribute Attribute e = refl
rank_unique Attribute Content e = absurd (omega arith)
rank_unique Attribute (Clause j) e = absurd (omega arith)
rank_unique Content Attribute e = absurd (omega arith)
rank_unique Content Content e = refl
rank_unique Content (Clause j) e = absurd (omega arith)
rank_unique (Clause i) Attribute e = absurd (omega arith)
rank_unique (Clause i) Content e = absurd (omega arith)
rank_unique (Clause i) (Clause j) e = ap Clause (omega arith)

module _ {W : Breach → Type 0} where
  pub first_told : {b : Breach} → FirstBreach W b → W b
  first_told (an_attribute w) = w
  first_told (a_content w n) = w
  first_told (a_clause w n m l) = w

  pub first_below : {b : Breach} → FirstBreach W b → (c : Breach) → W c → rank b ≤ rank c
  first_below (an_attribute w) c v = omega arith
  first_below (a_content w n) Attribute v = absurd (n v)
  first_below (a_content w n) Content v = omega arith
  first_below (a_content w n) (Clause j) v = omega arith
  first_below (a_clause w n m l) Attribute v = absurd (n v)
  first_below (a_clause w n m l) Content v = absurd (m v)
  first_below (a_clause {i = i} w n m l) (Clause j) v = let h : i ≤ j = l j v in omega arith

  pub first_of : (b : Breach) → W b → ((c : Breach) → W c → rank b ≤ rank c) → FirstBreach W b
  first_of Attribute w l = an_attribute w
  first_of Content w l = a_content w (λ v. let h = l Attribute v in omega arith)
  first_of (Clause i) w l =
      a_clause w (λ v. let h = l Attribute v in omega arith) (λ v. let h = l Content v in omega arith) (λ j v. let h = l (Clause j) v in omega arith)

  -- There is one that is told.
  pub first_unique : {b c : Breach} → FirstBreach W b → FirstBreach W c → b ≡ c
  first_unique {b} {c} f g =
      let l = first_below f c (first_told g) in
      let h = first_below g b (first_told f) in
      rank_unique b c (omega arith)

pub first_iff : {W X : Breach → Type 0} {b : Breach} → ((c : Breach) → W c → X c) → ((c : Breach) → X c → W c) → FirstBreach W b → FirstBreach X b
first_iff {b = b} to back f = first_of b (to b (first_told f)) (λ c x. first_below f c (back c x))

-- ---- tests

-- What was decided of all breaches: there is none, or the one that is told.
pub data BreachFound (W : Breach → Type 0) : Option Breach → Type 0 where
  no_breach : ((b : Breach) → W b → ⊥) → BreachFound W none
  breaks : {b : Breach} → FirstBreach W b → BreachFound W (some b)

-- Of the clauses from a place on: none fails, or the lowest that does.
data ClauseFound (W : Breach → Type 0) (k : ℕ) : Option Breach → Type 0 where
  no_clause : ((j : ℕ) → k ≤ j → W (Clause j) → ⊥) → ClauseFound W k none
  lowest_clause : (i : ℕ) → k ≤ i → W (Clause i) → ((j : ℕ) → k ≤ j → W (Clause j) → i ≤ j) → ClauseFound W k (some (Clause i))

module _ (W : Breach → Type 0) where
  -- The clause at place k, and those behind it.
  one_clause : (k : ℕ) {t : Bool} {o : Option Breach} → Decided (W (Clause k)) t → ClauseFound W (suc k) o → ClauseFound W k (or_first (broken_if t (Clause k)) o)
  one_clause k (holds w) f = lowest_clause k (omega arith) w (λ j h v. h)
  one_clause k (fails n) (no_clause h) = no_clause (λ j l v. go j l v (ℕ_discrete j k))
    where
      go : (j : ℕ) → k ≤ j → W (Clause j) → Dec (j ≡ k) → ⊥
      go j l v (yes e) = n (subst (λ (i : ℕ). W (Clause i)) e v)
      go j l v (no e) = h j (omega arith) v
  one_clause k (fails n) (lowest_clause i h w low) = lowest_clause i (omega arith) w (λ j l v. go j l v (ℕ_discrete j k))
    where
      go : (j : ℕ) → k ≤ j → W (Clause j) → Dec (j ≡ k) → i ≤ j
      go j l v (yes e) = absurd (n (subst (λ (i : ℕ). W (Clause i)) e v))
      go j l v (no e) = low j (omega arith) v

  clauses_found : (test : Formula → Bool) (k : ℕ) (ψs : List Formula) → ((i : ℕ) → i < length ψs → Decided (W (Clause (i + k))) (test (get_or ψs i truth)))
      → ((j : ℕ) → length ψs + k ≤ j → W (Clause j) → ⊥) → ClauseFound W k (first_failing test k ψs)
  unfolding first_failing
  clauses_found test k [] each none_past = no_clause (λ j h. none_past j (omega arith))
  clauses_found test k (ψ ∷ ψs) each none_past = one_clause k (subst (λ (i : ℕ). Decided (W (Clause i)) (test ψ)) (omega arith) (each 0 (omega arith)))
      (clauses_found test (suc k) ψs
      (λ i h. subst (λ (j : ℕ). Decided (W (Clause j)) (test (get_or ψs i truth))) (omega arith) (each (suc i) (omega arith)))
      (λ j h. none_past j (omega arith)))

  found_first : {t u : Bool} {o : Option Breach} → Decided (W Attribute) t → Decided (W Content) u → ClauseFound W 0 o
      → BreachFound W (or_first (or_first (broken_if t Attribute) (broken_if u Content)) o)
  found_first (holds w) d f = breaks (an_attribute w)
  found_first (fails n) (holds w) f = breaks (a_content w n)
  found_first (fails n) (fails m) (lowest_clause i h w low) = breaks (a_clause w n m (λ j v. low j (omega arith) v))
  found_first (fails n) (fails m) (no_clause k) = no_breach go
    where
      go : (b : Breach) → W b → ⊥
      go Attribute w = n w
      go Content w = m w
      go (Clause j) w = k j (omega arith) w

  -- Tests of attributes, of contents, and of each clause.
  pub breach_found : {t u : Bool} (test : Formula → Bool) (ψs : List Formula) → Decided (W Attribute) t → Decided (W Content) u
      → ((i : ℕ) → i < length ψs → Decided (W (Clause i)) (test (get_or ψs i truth))) → ((i : ℕ) → W (Clause i) → i < length ψs)
      → BreachFound W (or_first (or_first (broken_if t Attribute) (broken_if u Content)) (first_failing test 0 ψs))
  breach_found test ψs a c each there = found_first a c
      (clauses_found test 0 ψs (λ i h. subst (λ (j : ℕ). Decided (W (Clause j)) (test (get_or ψs i truth))) (omega arith) (each i h))
      (λ j h w. let l = there j w in omega arith))
