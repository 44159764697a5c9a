-- A vocabulary that was read from bytes has no text for a root, and no set with a string outside the named ones.
use Prim.Native.Nat.{ℕ, zero, suc, ◌+◌, ◌*◌, ◌/◌, ◌^◌, ◌≤◌, ◌<◌}
use native.Mathlib.Nat.{div-eq_of_lt, pow-le-pow_right, pow-succ', mul_assoc}
use native.Mathlib.Omega.{arith}
use mathlib.Core.Path.{◌≡◌, refl, sym, subst}
use mathlib.Core.List.Memᴰ
use mathlib.Core.List.{List, [], ◌∷◌, ◌++◌}
use mathlib.Core.Bool.{Bool, true, false, cond}
use mathlib.Core.Option.{some}
use mathlib.Core.Logic.{⊎_elim}
use lib.ListN.{length}
use lib.Dec.{eqb, leb, ltb}
use borrow.Author.Tests.{eqb-true, leb-true}
use Rattle.sets.specs.Sets.{member}
use Rattle.commands.specs.declared.Context.TheVariants.{Rules, Attributes, Contents, Formulas}
use Rattle.commands.specs.Commands.{byte, spelt, set_at, strings, element, operands_of, in_range, all_in_range}
use Rattle.commands.specs.Reading.{enough}
use Rattle.vocabularies.specs.Vocabulary.{Formula, Rule, Vocabulary, rule_of, declared}
use Rattle.vocabularies.specs.Facts.{facts_of}
use Rattle.vocabularies.specs.VocabularyReading.{Shape, binary, unary, leaf, shape_at, formula_nesting, most_facts, formula, rising, clauses, rule_body, rules, vocabulary}
use Rattle.pages.specs.RightPages.{◌∈◌}
use Rattle.agreement.proofs.Readings.{Gives, gives, refuses, runs_out, gives_any, gives_map, gives_when, gives_then}
use Rattle.patterns.specs.Inner.Given.{NamedOnly, SoundVocabulary}
use Rattle.sets.proofs.Booleans.{and_left}
use Rattle.patterns.proofs.Ranges.{Ranged, ranges_of, gives_ranged}

-- Bytes are below 256.
abbrev pub Bytes : List ℕ → Type 0
Bytes s = (i : ℕ) → byte s i < 256

-- A set of eight bytes has no string outside the named ones.
spelt_below : (s : List ℕ) → Bytes s → (n i m b : ℕ) → m < b → spelt n s i m < b * 256 ^ n
unfolding spelt
spelt_below s bytes zero i m b h = omega arith
spelt_below s bytes (suc n) i m b h =
    let next : m * 256 + byte s i < b * 256 = omega (arith, bytes i) in
    let wider : b * 256 * 256 ^ n ≡ b * 256 ^ suc n = rw (pow-succ' 256 n, mul_assoc b 256 (256 ^ n)) in
    rw (← wider) (spelt_below s bytes n (suc i) (m * 256 + byte s i) (b * 256) next)

not_member : (m t : ℕ) → m < 2 ^ strings → strings ≤ t → member m t ≡ false
unfolding member
not_member m t h k =
    let wide : 2 ^ strings ≤ 2 ^ t = pow-le-pow_right (omega arith) k in
    let none_left : m / 2 ^ t ≡ 0 = div-eq_of_lt (omega arith) in
    rw none_left

set_named : (s : List ℕ) → Bytes s → (i t : ℕ) → strings ≤ t → member (set_at s i) t ≡ false
set_named s bytes i t k = not_member (set_at s i) t (spelt_below s bytes 8 i 0 1 (omega arith)) k

-- The formula that a command makes of formulas whose sets have named strings alone is such.
abbrev ShapeNamed : Shape → Type 0
ShapeNamed (binary two) = (ψ₁ ψ₂ : Formula) → NamedOnly ψ₁ → NamedOnly ψ₂ → NamedOnly (two ψ₁ ψ₂)
ShapeNamed (unary one) = (ψ : Formula) → NamedOnly ψ → NamedOnly (one ψ)
ShapeNamed (leaf ψ) = NamedOnly ψ

shape_cond : (b : Bool) (x y : Shape) → ShapeNamed x → ShapeNamed y → ShapeNamed (cond b x y)
shape_cond true x y h k = h
shape_cond false x y h k = k

shape_cases : {G : Type 0} (shape : Shape) → ShapeNamed shape
    → ((two : Formula → Formula → Formula) → shape ≡ binary two → ShapeNamed (binary two) → G)
    → ((one : Formula → Formula) → shape ≡ unary one → ShapeNamed (unary one) → G)
    → ((ψ : Formula) → shape ≡ leaf ψ → ShapeNamed (leaf ψ) → G) → G
shape_cases (binary two) n h k l = h two refl n
shape_cases (unary one) n h k l = k one refl n
shape_cases (leaf ψ) n h k l = l ψ refl n

module _ (s : List ℕ) (bytes : Bytes s) where
  shape_named : (at code : ℕ) → ShapeNamed (shape_at s at code)
  shape_named at code =
      shape_cond (eqb code 0x10) _ _ (λ ψ₁ ψ₂ h k. (h, k))
      (shape_cond (eqb code 0x11) _ _ (λ ψ₁ ψ₂ h k. (h, k))
      (shape_cond (eqb code 0x12) _ _ (λ ψ h. h)
      (shape_cond (eqb code 0x13) _ _ tt
      (shape_cond (eqb code 0x14) _ _ tt
      (shape_cond (eqb code 0x15) _ _ tt
      (shape_cond (eqb code 0x16) _ _ tt (λ t k. set_named s bytes (at + 2) t k)))))))

  formula_named : (f depth at : ℕ) → Gives (Unit {0}) (λ ψ end. NamedOnly ψ) (formula f s depth at)
  unfolding formula
  formula_named zero depth at = runs_out tt
  formula_named (suc f) depth at = gives_ranged Formulas s at λ code next t. shape_cases (shape_at s at code) (shape_named at code)
      (λ two e h. rw e (gives_when (ltb depth formula_nesting)
      (λ _ _. gives_then (formula_named f (depth + 1) next) λ ψ₁ middle m.
      gives_then (formula_named f (depth + 1) middle) λ ψ₂ end n. gives (h ψ₁ ψ₂ m n))
      (λ _ _. refuses)))
      (λ one e h. rw e (gives_when (ltb depth formula_nesting)
      (λ _ _. gives_then (formula_named f (depth + 1) next) λ ψ end m. gives (h ψ m))
      (λ _ _. refuses)))
      (λ ψ e h. rw e (gives h))

  -- All clauses of a list, and of the rules of a list.
  abbrev AllNamed : List Formula → Type 0
  AllNamed ψs = (ψ : Formula) → ψ ∈ ψs → NamedOnly ψ

  abbrev RulesNamed : List Rule → Type 0
  RulesNamed rs = (r : Rule) → r ∈ rs → AllNamed r.clauses

  clauses_named : (f at : ℕ) → Gives (Unit {0}) (λ ψs end. AllNamed ψs) (clauses f s at)
  unfolding clauses
  clauses_named zero at = runs_out tt
  clauses_named (suc f) at = gives_when (eqb (byte s at) 0x04)
      (λ _ _. gives_then (formula_named f 0 (at + 1)) λ ψ next m. gives_when (leb (length (facts_of ψ)) most_facts)
      (λ _ _. gives_then (clauses_named f next) λ ψs end n.
      gives (λ χ i. ⊎_elim (λ e. subst NamedOnly (sym e) m) (n χ) (Memᴰ.cases_cons i)))
      (λ _ _. refuses))
      (λ _ _. gives (λ χ i. absurd (Memᴰ.not-nil i)))

  rule_named : (f e at : ℕ) → Gives (Unit {0}) (λ r end. AllNamed r.clauses) (rule_body f s e at)
  rule_named f e at =
      gives_then (gives_any (rising f Attributes s 0 at)) λ names next _.
      gives_then (gives_any (rising f Contents s 0 next)) λ cs next' _.
      gives_then (clauses_named f next') λ ψs end n. gives n

  added_named : (rs : List Rule) (r : Rule) → RulesNamed rs → AllNamed r.clauses → RulesNamed (rs ++ (r ∷ []))
  added_named rs r h k r' i = ⊎_elim (h r') (λ j. subst (λ (x : Rule). AllNamed x.clauses) (sym (Memᴰ.eq_of_singleton j)) k) (Memᴰ.append_cases rs i)

  abbrev VocabularyNamed : Vocabulary → Type 0
  VocabularyNamed D = (D.root ≡ 0 → ⊥) × RulesNamed D.rules

  -- `05 e` has an element, 1 at least.
  root_ranged : (at code : ℕ) → Ranged Rules s at code → eqb code 0x05 ≡ true → byte s (at + 1) ≡ 0 → ⊥
  unfolding operands_of all_in_range in_range
  root_ranged at code t e z =
      let least : leb 1 (byte s (at + 1)) ≡ true = and_left (leb 1 (byte s (at + 1))) (leb (byte s (at + 1)) 63)
      (and_left (in_range element s (at + 1)) true (ranges_of t 0x05 (eqb-true code 0x05 e))) in
      omega (arith, leb-true)

  rules_named : (f : ℕ) (before : List Rule) (at : ℕ) → RulesNamed before → Gives (Unit {0}) (λ D end. VocabularyNamed D) (rules f s before at)
  unfolding rules
  rules_named zero before at h = runs_out tt
  rules_named (suc f) before at h = gives_ranged Rules s at λ code next t. gives_when (eqb code 0x05)
      (λ _ e. gives_when (declared before (byte s (at + 1)))
      (λ _ _. gives (root_ranged at code t e, h))
      (λ _ _. refuses))
      (λ _ _. gives_when (declared before (byte s (at + 1)))
      (λ _ _. refuses)
      (λ _ _. gives_then (rule_named f (byte s (at + 1)) next) λ r end m. rules_named f (before ++ (r ∷ [])) end (added_named before r h m)))

-- The rule of an element is one of the rules.
rule_among : (rs : List Rule) (e : ℕ) (r : Rule) → rule_of rs e ≡ some r → r ∈ rs
unfolding rule_of
rule_among [] e r p = let z : ◌≡◌ {A = ℕ} 0 1 = cc in absurd (omega arith)
rule_among (r' ∷ rs) e r p = go (eqb r'.element e) p (rule_among rs e r)
  where
    go : (b : Bool) → cond b (some r') (rule_of rs e) ≡ some r → (rule_of rs e ≡ some r → r ∈ rs) → r ∈ (r' ∷ rs)
    go true q h = Memᴰ.head (sym (some_is q))
      where
        some_is : some r' ≡ some r → r' ≡ r
        some_is q' = cc
    go false q h = Memᴰ.tail (h q)

pub vocabulary_sound : (s : List ℕ) → Bytes s → Gives (Unit {0}) (λ D end. SoundVocabulary D) (vocabulary s)
unfolding vocabulary
vocabulary_sound s bytes = gives_map
    (λ D end n. record { root_element = n.0; named_only = λ e r ψ p m. n.1 r (rule_among D.rules e r p) ψ m })
    (rules_named s bytes (enough s) [] 0 (λ r i. absurd (Memᴰ.not-nil i)))
