-- A formula has no more facts than bytes.
use Prim.Native.Nat.{ℕ, zero, suc, ◌+◌, ◌-◌, ◌≤◌, min}
use mathlib.Core.Path.{◌≡◌, refl, sym, ◌∙◌}
use mathlib.Core.List.{List, [], ◌∷◌, ◌++◌}
use mathlib.Core.Bool.{Bool, true, false, cond}
use native.Mathlib.Omega.{arith}
use lib.ListN.{length, length-append}
use lib.Dec.{eqb, ltb}
use borrow.Author.Tests.{eqb-true, lt-ltb, le-ltb, ltb-true, ltb-false}
use Rattle.commands.specs.declared.Context.TheVariants.{Formulas}
use Rattle.commands.specs.declared.Decoded.{Decoded}
use Rattle.commands.specs.declared.Decoded.TheVariants.{Moved, Refused}
use Rattle.commands.specs.Commands.{byte, set_at, operands_of, operand_bytes, command}
use Rattle.commands.specs.Reading.{whole}
use Rattle.commands.proofs.Laws.{moved}
use Rattle.vocabularies.specs.declared.Facts.{Facts}
use Rattle.vocabularies.specs.Vocabulary.{Formula}
use Rattle.vocabularies.specs.Facts.{Fact, carried, present, ordered, valued, is_among, add, with_facts, facts_of}
use Rattle.vocabularies.specs.VocabularyReading.{Shape, binary, unary, leaf, shape_at, most_facts, formula}
use Rattle.vocabularies.specs.Inner.Promises.{FactsRead, ManyFacts}
use Rattle.vocabularies.proofs.Formulas.{Formed, formed_by, not_formed}

add_most : (x : Fact) (xs : List Fact) → length (add x xs) ≤ length xs + 1
unfolding add
add_most x xs = go (is_among x xs)
  where
    go : (b : Bool) → length (cond b xs (xs ++ (x ∷ []))) ≤ length xs + 1
    go true = omega arith
    go false = omega (arith, length-append xs (x ∷ []))

-- What a command of so many bytes adds: a connective what its parts do, a leaf no more than its bytes.
abbrev Adding : ℕ → Shape → Type 0
Adding k (binary two) = (ψ₁ ψ₂ : Formula) (xs : List Fact) → with_facts (two ψ₁ ψ₂) xs ≡ with_facts ψ₂ (with_facts ψ₁ xs)
Adding k (unary one) = (ψ : Formula) (xs : List Fact) → with_facts (one ψ) xs ≡ with_facts ψ xs
Adding k (leaf ψ) = (xs : List Fact) → length (with_facts ψ xs) ≤ length xs + k

adding : (s : List ℕ) (at code k : ℕ) → 1 ≤ k → (code ≡ 0x16 → 3 ≤ k) → Adding k (shape_at s at code)
unfolding with_facts
adding s at code k one three = go (eqb code 0x10) (eqb code 0x11) (eqb code 0x12) (eqb code 0x13) (eqb code 0x14) (eqb code 0x15) (eqb code 0x16) refl refl refl refl refl refl refl
  where
    go : (b₀ b₁ b₂ b₃ b₄ b₅ b₆ : Bool) → eqb code 0x10 ≡ b₀ → eqb code 0x11 ≡ b₁ → eqb code 0x12 ≡ b₂ → eqb code 0x13 ≡ b₃ → eqb code 0x14 ≡ b₄ → eqb code 0x15 ≡ b₅ → eqb code 0x16 ≡ b₆
        → Adding k (shape_at s at code)
    go true b₁ b₂ b₃ b₄ b₅ b₆ p₀ p₁ p₂ p₃ p₄ p₅ p₆ = rw p₀ (λ ψ₁ ψ₂ xs. refl)
    go false true b₂ b₃ b₄ b₅ b₆ p₀ p₁ p₂ p₃ p₄ p₅ p₆ = rw (p₀, p₁) (λ ψ₁ ψ₂ xs. refl)
    go false false true b₃ b₄ b₅ b₆ p₀ p₁ p₂ p₃ p₄ p₅ p₆ = rw (p₀, p₁, p₂) (λ ψ xs. refl)
    go false false false true b₄ b₅ b₆ p₀ p₁ p₂ p₃ p₄ p₅ p₆ = rw (p₀, p₁, p₂, p₃) (λ xs. omega arith)
    go false false false false true b₅ b₆ p₀ p₁ p₂ p₃ p₄ p₅ p₆ = rw (p₀, p₁, p₂, p₃, p₄) (λ xs. let a = add_most (carried (byte s (at + 1))) xs in omega arith)
    go false false false false false true b₆ p₀ p₁ p₂ p₃ p₄ p₅ p₆ = rw (p₀, p₁, p₂, p₃, p₄, p₅) (λ xs. let a = add_most (present (byte s (at + 1))) xs in omega arith)
    go false false false false false false true p₀ p₁ p₂ p₃ p₄ p₅ p₆ = rw (p₀, p₁, p₂, p₃, p₄, p₅, p₆) (λ xs.
        let wide = three (eqb-true code 0x16 p₆) in
        let c = present (byte s (at + 1)) in
        let d = present (byte s (at + 2)) in
        let one' = add_most c xs in
        let two' = add_most d (add c xs) in
        let all' = add_most (ordered (byte s (at + 1)) (byte s (at + 2))) (add d (add c xs)) in
        omega arith)
    go false false false false false false false p₀ p₁ p₂ p₃ p₄ p₅ p₆ = rw (p₀, p₁, p₂, p₃, p₄, p₅, p₆) (λ xs. let a = add_most (valued (byte s (at + 1)) (set_at s (at + 2))) xs in omega arith)

-- `16 c d` has three.
order_bytes : 3 ≤ 1 + operand_bytes 0x16
unfolding operands_of operand_bytes
order_bytes = omega arith

abbrev Few : ℕ → List ℕ → Type 0
Few f s = (depth at : ℕ) (ψ : Formula) (end : ℕ) → formula f s depth at ≡ whole ψ end → (xs : List Fact) → length (with_facts ψ xs) + at ≤ length xs + end

shaped_few : (f : ℕ) (s : List ℕ) (depth at k next : ℕ) (ψ : Formula) (end : ℕ) → Few f s → next ≡ at + k → (shape : Shape) → Adding k shape → Formed f s depth next shape ψ end
    → (xs : List Fact) → length (with_facts ψ xs) + at ≤ length xs + end
shaped_few f s depth at k next ψ end few is (binary two) joins (ψ₁, middle, ψ₂, e₁, e₂, q) xs =
    let l = few (depth + 1) next ψ₁ middle e₁ xs in
    let r = few (depth + 1) middle ψ₂ end e₂ (with_facts ψ₁ xs) in
    rw (q, joins ψ₁ ψ₂ xs) (omega arith)
shaped_few f s depth at k next ψ end few is (unary one) joins (ψ₁, e₁, q) xs =
    let l = few (depth + 1) next ψ₁ end e₁ xs in
    rw (q, joins ψ₁ xs) (omega arith)
shaped_few f s depth at k next ψ end few is (leaf ψ') adds (q, z) xs = let a = adds xs in rw q (omega arith)

few_facts : (f : ℕ) (s : List ℕ) → Few f s
unfolding formula
few_facts zero s depth at ψ end e = absurd (let z : ◌≡◌ {A = ℕ} 0 1 = cc in omega arith)
few_facts (suc f) s depth at ψ end e = go (λ depth' at' ψ' end' e'. few_facts f s depth' at' ψ' end' e') (command Formulas s at) refl
  where
    go : Few f s → (d : Decoded) → command Formulas s at ≡ d → (xs : List Fact) → length (with_facts ψ xs) + at ≤ length xs + end
    go few (Moved code next) c =
        let m = moved Formulas s at code next c in
        let b = formed_by s depth at ψ end (suc f) e code next c in
        let order_long : code ≡ 0x16 → 3 ≤ 1 + operand_bytes (byte s at) = λ q. let same : byte s at ≡ 0x16 = sym m.first ∙ q in rw same order_bytes in
        let same_fuel : b.0 ≡ f = cc b.1 in
        shaped_few f s depth at (1 + operand_bytes (byte s at)) next.at ψ end few (m.after ∙ omega arith) (shape_at s at code) (adding s at code (1 + operand_bytes (byte s at)) (omega arith) order_long)
        (rw same_fuel at b.2)
    go few (Refused i n) c = absurd (not_formed s depth at ψ end (suc f) e i n c)

-- ---- whether there are too many

module _ (s : List ℕ) (start end : ℕ) where
  pub many_short : start ≤ end → end - start ≤ 8 → ManyFacts s start end false
  many_short l short f depth ψ e = let a = few_facts f s depth start ψ end e [] in sym (le-ltb most_facts (length (facts_of ψ)) (omega arith))

  pub many_counted : (t : Facts) → FactsRead s start end t → (r : Bool) → r ≡ ltb 8 t.count → ManyFacts s start end r
  many_counted t facts r is f depth ψ e = is ∙ (rw (facts f depth ψ e).counts (same (length (facts_of ψ))))
    where
      same : (n : ℕ) → ltb 8 (min 9 n) ≡ ltb 8 n
      same n = go (ltb 8 n) refl
        where
          go : (b : Bool) → ltb 8 n ≡ b → ltb 8 (min 9 n) ≡ b
          go true q = let l = ltb-true 8 n q in lt-ltb 8 (min 9 n) (omega arith)
          go false q = let l = ltb-false 8 n q in le-ltb 8 (min 9 n) (omega arith)
