-- The tests of one element decide what section 6 asks of it, its contents aside: they find what it breaks of its rule.
use Prim.Native.Nat.{ℕ, zero, suc, ◌<◌, suc-le-suc}
use native.Mathlib.Omega.{arith}
use mathlib.Core.Path.{◌≡◌, refl}
use mathlib.Core.List.Memᴰ
use mathlib.Core.List.{List, [], ◌∷◌}
use mathlib.Core.Bool.{Bool, not}
use mathlib.Core.Option.{Option, some, none}
use mathlib.Core.Logic.{◌↔◌, ◌⊎◌, inl, inr, ⊎_elim}
use lib.ListN.{length, get_or}
use Rattle.verdicts.specs.declared.Breach.{Breach}
use Rattle.verdicts.specs.declared.Breach.TheVariants.{Content, Clause}
use Rattle.verdicts.specs.declared.Breach.TheVariants as Breaches
use Rattle.vocabularies.specs.Vocabulary.{truth, Rule, Vocabulary, rule_of, is_in}
use Rattle.pages.specs.Items.{Attribute, Items}
use Rattle.pages.specs.RightPages.{◌∈◌, names, word, Meets, ElementRight, ElementWrong, attribute_not_allowed, content_not_allowed, clause_not_met}
use Rattle.judging.specs.Inner.Judgement.{truth_of, atoms_of, all_in, is_false, breach_under, breach_by}
use Rattle.agreement.proofs.Deciding.{Decided, holds, fails, decided_not, decided_iff, decided_and}
use Rattle.agreement.proofs.Tests.{decided_member, decided_meets}
use Rattle.agreement.proofs.Breaches.{BreachFound, no_breach, breaks, breach_found, first_told}

-- Each member of a list is as P says.
abbrev pub All : {A : Type 0} → (A → Type 0) → List A → Type 0
All {A} P l = (a : A) → a ∈ l → P a

module _ {A : Type 0} (P : A → Type 0) where
  all_cons : (x : A) (l : List A) → (P x × All P l) ↔ All P (x ∷ l)
  all_cons x l = (λ h a m. each h.0 h.1 a (Memᴰ.cases_cons m), λ h. (h x (Memᴰ.head refl), λ a m. h a (Memᴰ.tail m)))
    where
      each : P x → All P l → (a : A) → (a ≡ x) ⊎ (a ∈ l) → P a
      each p h a (inl e) = rw e p
      each p h a (inr m) = h a m

-- What stands at a place of a list is a member; all members are as P says, or what stands at some place is not.
pub placed : {A : Type 0} (d : A) (l : List A) (i : ℕ) → i < length l → get_or l i d ∈ l
placed d [] i h = absurd (omega (arith, h))
placed d (x ∷ l) zero h = Memᴰ.head refl
placed d (x ∷ l) (suc i) h = Memᴰ.tail (placed d l i (omega (arith, h)))

module _ {A : Type 0} (P : A → Type 0) (test : A → Bool) (decide : (a : A) → Decided (P a) (test a)) (d : A) where
  abbrev OneFails : List A → Type 0
  OneFails l = (i : ℕ) × (i < length l) × (P (get_or l i d) → ⊥)

  all_or_one : (l : List A) → All P l ⊎ OneFails l
  all_or_one [] = inl (λ a m. absurd (Memᴰ.not-nil m))
  all_or_one (x ∷ l) = go (decide x) (all_or_one l)
    where
      go : {b : Bool} → Decided (P x) b → All P l ⊎ OneFails l → All P (x ∷ l) ⊎ OneFails (x ∷ l)
      go (fails q) rest = inr (0, omega arith, q)
      go (holds p) (inl all) = inl ((all_cons P x l).0 (p, all))
      go (holds p) (inr (i, h, q)) = inr (suc i, suc-le-suc h, q)

  one_fails : (l : List A) → (All P l → ⊥) → OneFails l
  one_fails l n = ⊎_elim (λ all. absurd (n all)) (λ h. h) (all_or_one l)

pub decided_all_in : (ns allowed : List ℕ) → Decided (All (λ n. n ∈ allowed) ns) (all_in ns allowed)
unfolding all_in
decided_all_in [] allowed = holds (λ n m. absurd (Memᴰ.not-nil m))
decided_all_in (n ∷ ns) allowed =
    decided_iff (all_cons (λ n. n ∈ allowed) n ns) (decided_and (decided_member n allowed) (decided_all_in ns allowed))

-- Not all numbers are allowed: one is not.
pub decided_outside : (ns allowed : List ℕ) → Decided ((n : ℕ) × (n ∈ ns) × (n ∈ allowed → ⊥)) (not (all_in ns allowed))
decided_outside ns allowed = go (decided_all_in ns allowed)
  where
    go : {b : Bool} → Decided (All (λ n. n ∈ allowed) ns) b → Decided ((n : ℕ) × (n ∈ ns) × (n ∈ allowed → ⊥)) (not b)
    go (holds all) = fails (λ (n, m, out). out (all n m))
    go (fails n) =
        let (i, h, q) = one_fails (λ a. a ∈ allowed) (λ a. is_in a allowed) (λ a. decided_member a allowed) 0 ns n in
        holds (get_or ns i 0, placed 0 ns i h, q)

module _ (D : Vocabulary) (e : ℕ) (δ : List Attribute) (φ : Items) where
  -- An element without a rule breaks none.
  pub unruled : rule_of D.rules e ≡ none → (b : Breach) → ElementWrong D e δ φ b → ⊥
  unruled p b w = go w
    where
      never : (r : Rule) → rule_of D.rules e ≡ some r → ⊥
      never r q = let z : ◌≡◌ {A = ℕ} 0 1 = cc in omega arith

      go : {b : Breach} → ElementWrong D e δ φ b → ⊥
      go (attribute_not_allowed {rule = r} a q m n) = never r q
      go (content_not_allowed {rule = r} c q m n) = never r q
      go (clause_not_met {rule = r} i q h n) = never r q

  -- What breaks a rule, with the rule given.
  module _ (r : Rule) (p : rule_of D.rules e ≡ some r) where
    same : (r' : Rule) → rule_of D.rules e ≡ some r' → r' ≡ r
    same r' q = cc

    pub attribute_breach : ((a : ℕ) × (a ∈ names δ) × (a ∈ r.attributes → ⊥)) ↔ ElementWrong D e δ φ Breaches.Attribute
    attribute_breach = (λ (a, m, n). attribute_not_allowed a p m n, back)
      where
        back : ElementWrong D e δ φ Breaches.Attribute → (a : ℕ) × (a ∈ names δ) × (a ∈ r.attributes → ⊥)
        back (attribute_not_allowed {rule = r'} a q m n) = (a, m, rw (same r' q) at n)

    pub content_breach : ((c : ℕ) × (c ∈ word φ) × (c ∈ r.contents → ⊥)) ↔ ElementWrong D e δ φ Content
    content_breach = (λ (c, m, n). content_not_allowed c p m n, back)
      where
        back : ElementWrong D e δ φ Content → (c : ℕ) × (c ∈ word φ) × (c ∈ r.contents → ⊥)
        back (content_not_allowed {rule = r'} c q m n) = (c, m, rw (same r' q) at n)

    pub clause_breach : (i : ℕ) → ((i < length r.clauses) × (Meets δ φ (get_or r.clauses i truth) → ⊥)) ↔ ElementWrong D e δ φ (Clause i)
    clause_breach i = (λ (h, n). clause_not_met i p h n, back)
      where
        back : ElementWrong D e δ φ (Clause i) → (i < length r.clauses) × (Meets δ φ (get_or r.clauses i truth) → ⊥)
        back (clause_not_met {rule = r'} j q h n) = (rw (same r' q) at h, rw (same r' q) at n)

    under_found : BreachFound (ElementWrong D e δ φ) (breach_under r δ (word φ))
    unfolding breach_under
    under_found = breach_found (ElementWrong D e δ φ) (is_false (atoms_of δ (word φ))) r.clauses
        (decided_iff attribute_breach (decided_outside (names δ) r.attributes))
        (decided_iff content_breach (decided_outside (word φ) r.contents))
        (λ i h. decided_iff (λ n. (clause_breach i).0 (h, n), λ w. ((clause_breach i).1 w).1) (decided_not (decided_meets δ φ (get_or r.clauses i truth))))
        (λ i w. ((clause_breach i).1 w).0)

    -- An element that has a rule and breaks nothing of it is right.
    pub right_unless : ((b : Breach) → ElementWrong D e δ φ b → ⊥) → ElementRight D e δ φ
    right_unless none_broken = record {
      rule = r;
      declares = p;
      attributes = ⊎_elim (λ all. all) (λ (i, h, q). absurd (none_broken Breaches.Attribute (attribute_not_allowed (get_or (names δ) i 0) p (placed 0 (names δ) i h) q)))
          (all_or_one (λ a. a ∈ r.attributes) (λ a. is_in a r.attributes) (λ a. decided_member a r.attributes) 0 (names δ));
      contents = ⊎_elim (λ all. all) (λ (i, h, q). absurd (none_broken Content (content_not_allowed (get_or (word φ) i 0) p (placed 0 (word φ) i h) q)))
          (all_or_one (λ c. c ∈ r.contents) (λ c. is_in c r.contents) (λ c. decided_member c r.contents) 0 (word φ));
      clauses = ⊎_elim (λ all. all) (λ (i, h, q). absurd (none_broken (Clause i) (clause_not_met i p h q)))
          (all_or_one (Meets δ φ) (truth_of (atoms_of δ (word φ))) (decided_meets δ φ) truth r.clauses);
    }

  -- What an element breaks is found.
  pub element_found : BreachFound (ElementWrong D e δ φ) (breach_by (rule_of D.rules e) δ (word φ))
  element_found = go (rule_of D.rules e) refl
    where
      go : (o : Option Rule) → rule_of D.rules e ≡ o → BreachFound (ElementWrong D e δ φ) (breach_by o δ (word φ))
      go none p = no_breach (unruled p)
      go (some r) p = under_found r p

  pub wrong_not_right : (b : Breach) → ElementWrong D e δ φ b → ElementRight D e δ φ → ⊥
  wrong_not_right b w R = go w
    where
      go : {b : Breach} → ElementWrong D e δ φ b → ⊥
      go (attribute_not_allowed {rule = r} a p m n) = let is : R.rule ≡ r = cc (p, R.declares) in n (rw is at (R.attributes a m))
      go (content_not_allowed {rule = r} c p m n) = let is : R.rule ≡ r = cc (p, R.declares) in n (rw is at (R.contents c m))
      go (clause_not_met {rule = r} i p h n) =
          let is : R.rule ≡ r = cc (p, R.declares) in
          let all : All (Meets δ φ) r.clauses = rw is at R.clauses in
          n (all (get_or r.clauses i truth) (placed truth r.clauses i h))

  -- An element that has a rule breaks something of it exactly if it is not right.
  pub wrong_iff : (r : Rule) → rule_of D.rules e ≡ some r → ((b : Breach) × ElementWrong D e δ φ b) ↔ (ElementRight D e δ φ → ⊥)
  wrong_iff r p = (λ (b, w). wrong_not_right b w, λ n. go n element_found)
    where
      go : {o : Option Breach} → (ElementRight D e δ φ → ⊥) → BreachFound (ElementWrong D e δ φ) o → (b : Breach) × ElementWrong D e δ φ b
      go n (no_breach none_broken) = absurd (n (right_unless r p none_broken))
      go n (breaks {b = b} f) = (b, first_told f)
