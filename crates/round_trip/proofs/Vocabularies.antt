-- A vocabulary in range, written out as bytes, is read back as itself.
use Prim.Native.Nat.{ℕ, zero, suc, ◌+◌, ◌≤◌, ◌<◌}
use native.Mathlib.Omega.{arith}
use mathlib.Core.Path.{◌≡◌, refl, sym, ◌∙◌}
use mathlib.Core.List.{List, [], ◌∷◌, ◌++◌, append-nil}
use mathlib.Core.Bool.{Bool, true, false, cond, ◌&&◌, ◌||◌, not}
use mathlib.Core.Option.{Option, some}
use lib.ListN.{length, length-append}
use lib.Seq.{append_snoc}
use lib.Dec.{leb, eqb}
use borrow.Author.Tests.{eqb-true, le-leb, lt-ltb, ne_eqb}
use Rattle.sets.proofs.Booleans.{or_neither}
use Rattle.commands.specs.declared.Context.{Context}
use Rattle.commands.specs.declared.Context.TheVariants.{Rules, Attributes, Contents, Formulas}
use Rattle.commands.specs.declared.Decoded.TheVariants.{Moved}
use Rattle.commands.specs.Commands.{set_at, all_in_range, allowed, operands_of, operand_bytes, command}
use Rattle.commands.specs.Reading.{enough, whole, and_then}
use Rattle.vocabularies.specs.Vocabulary.{Formula, conj, disj, neg, truth, attr, content, order, value, Rule, Vocabulary, rule_of, is_some, declared}
use Rattle.vocabularies.specs.VocabularyReading.{rule_body, formula, rising, clauses, rules, vocabulary, vocabulary_slice}
use Rattle.vocabularies.specs.Facts.{facts_of}
use Rattle.round_trip.specs.Written.{highest_first, written_formula, written_numbers, written_clauses, written_rules, written_vocabulary}
use Rattle.round_trip.specs.InRange.{Rising, Distinct, connective_depth, NamesInRange, ClausesInRange, RuleInRange, RulesInRange, VocabularyInRange, IsElement}
use Rattle.round_trip.proofs.Once.{NoneOf, none_of_none, none_after, elements}
use Rattle.round_trip.proofs.Rests.{Rest, all, head, byte_at, first, behind, grouped, taken, element_goes, ends_at, reads_alone, reads_set, length_highest_first}

-- A formula is read back, whatever stands behind it.
abbrev FormulaBack : ℕ → ℕ → Formula → Type 0
FormulaBack f depth ψ = (s : List ℕ) (at : ℕ) (w : List ℕ) → Rest s at (written_formula ψ ++ w) → length s < at + f
    → formula f s depth at ≡ whole ψ (at + length (written_formula ψ))

-- Two formulas behind a command.
two_back : (two : Formula → Formula → Formula) (f depth : ℕ) {ψ₁ ψ₂ : Formula} → FormulaBack f depth ψ₁ → FormulaBack f depth ψ₂
    → (c : ℕ) (s : List ℕ) (at : ℕ) (w : List ℕ) → Rest s at (c ∷ (written_formula ψ₁ ++ written_formula ψ₂ ++ w)) → length s < at + suc f
    → and_then (formula f s depth (at + 1)) (λ ψ middle. and_then (formula f s depth middle) λ ψ' end. whole (two ψ ψ') end)
    ≡ whole (two ψ₁ ψ₂) (at + suc (length (written_formula ψ₁ ++ written_formula ψ₂)))
two_back two f depth {ψ₁} {ψ₂} b₁ b₂ c s at w r h =
    let w₁ = written_formula ψ₁ in
    let w₂ = written_formula ψ₂ in
    let r₁ = grouped w₁ w₂ w (behind (c ∷ []) r) in
    rw (b₁ s (at + 1) (w₂ ++ w) r₁ (omega arith), b₂ s (at + 1 + length w₁) w (behind w₁ r₁) (omega arith)) (ends_at refl (omega (arith, length-append w₁ w₂)))

reads_formula : (f depth : ℕ) (ψ : Formula) → NamesInRange ψ → depth + connective_depth ψ ≤ 16 → FormulaBack f depth ψ
unfolding formula written_formula connective_depth NamesInRange allowed operand_bytes operands_of all_in_range
reads_formula zero depth ψ n d s at w r h = absurd (omega arith)
reads_formula (suc f) depth (conj ψ₁ ψ₂) n d s at w r h =
    rw (taken Formulas 0x10 _ r refl (omega arith) refl, lt-ltb depth 16 (omega arith))
    (two_back conj f (depth + 1) (reads_formula f (depth + 1) ψ₁ n.0 (omega arith)) (reads_formula f (depth + 1) ψ₂ n.1 (omega arith)) 0x10 s at w r h)
reads_formula (suc f) depth (disj ψ₁ ψ₂) n d s at w r h =
    rw (taken Formulas 0x11 _ r refl (omega arith) refl, lt-ltb depth 16 (omega arith))
    (two_back disj f (depth + 1) (reads_formula f (depth + 1) ψ₁ n.0 (omega arith)) (reads_formula f (depth + 1) ψ₂ n.1 (omega arith)) 0x11 s at w r h)
reads_formula (suc f) depth (neg ψ) n d s at w r h =
    rw (taken Formulas 0x12 _ r refl (omega arith) refl, lt-ltb depth 16 (omega arith), reads_formula f (depth + 1) ψ n (omega arith) s (at + 1) w (behind (0x12 ∷ []) r) (omega arith))
    (ends_at refl (omega arith))
reads_formula (suc f) depth truth n d s at w r h = rw (taken Formulas 0x13 _ r refl (omega arith) refl)
reads_formula (suc f) depth (attr a) n d s at w r h = rw (taken Formulas 0x14 _ r refl (omega arith) (rw (le-leb a 31 n)), byte_at 1 r)
reads_formula (suc f) depth (content c) n d s at w r h = rw (taken Formulas 0x15 _ r refl (omega arith) (rw (le-leb c 63 n)), byte_at 1 r)
reads_formula (suc f) depth (order c e) n d s at w r h =
    rw (taken Formulas 0x16 _ r refl (omega arith) (rw (le-leb c 63 n.0, le-leb e 63 n.1)), byte_at 1 r, byte_at 2 r)
reads_formula (suc f) depth (value a m) n d s at w r h =
    let digits = highest_first 8 m in
    let fits : 9 ≤ length (a ∷ (digits ++ w)) = omega (arith, length-append digits w, length_highest_first 8 m) in
    let v : List ℕ = 0x17 ∷ a ∷ (digits ++ w) in
    let there : Rest v 2 (digits ++ w) = record { is = refl; inside = omega arith } in
    let ranges : (leb a 31 && (not (eqb (set_at v 2) 0) && true)) ≡ true = rw (le-leb a 31 n.0, reads_set m w n.2 there, ne_eqb m 0 (omega (arith, n.1))) in
    rw (taken Formulas 0x17 _ r refl fits ranges, byte_at 1 r, reads_set m w n.2 (behind (0x17 ∷ a ∷ []) r))

-- The numbers of a list are read back, if what stands behind begins with another command.
module _ (x : Context) (c most : ℕ) (stands : allowed x c ≡ true)
    (goes : (s : List ℕ) (at n : ℕ) (w : List ℕ) → n ≤ most → Rest s at (c ∷ n ∷ w) → command x s at ≡ Moved c (record { at = at + 2 })) where
  reads_numbers : (f least : ℕ) (ns : List ℕ) → Rising least most ns → (s : List ℕ) (at : ℕ) (w : List ℕ) → allowed x (head w) ≡ false
      → Rest s at (written_numbers c ns ++ w) → length s < at + f
      → rising f x s least at ≡ whole ns (at + length (written_numbers c ns))
  unfolding rising written_numbers Rising
  reads_numbers zero least ns i s at w e r h = absurd (omega arith)
  reads_numbers (suc f) least [] i s at w e r h = rw (first r, e) (ends_at refl (omega arith))
  reads_numbers (suc f) least (n ∷ ns) i s at w e r h =
      rw (first r, stands, goes s at n _ i.1 r, byte_at 1 r, le-leb least n i.0, reads_numbers f (n + 1) ns i.2 s (at + 2) w e (behind (c ∷ n ∷ []) r) (omega arith))
      (ends_at refl (omega arith))

attribute_goes : (s : List ℕ) (at n : ℕ) (w : List ℕ) → n ≤ 31 → Rest s at (0x02 ∷ n ∷ w) → command Attributes s at ≡ Moved 0x02 (record { at = at + 2 })
unfolding allowed operand_bytes operands_of all_in_range
attribute_goes s at n w h r = taken Attributes 0x02 _ r refl (omega arith) (rw (le-leb n 31 h))

content_goes : (s : List ℕ) (at n : ℕ) (w : List ℕ) → n ≤ 63 → Rest s at (0x03 ∷ n ∷ w) → command Contents s at ≡ Moved 0x03 (record { at = at + 2 })
unfolding allowed operand_bytes operands_of all_in_range
content_goes s at n w h r = taken Contents 0x03 _ r refl (omega arith) (rw (le-leb n 63 h))

-- The clauses of a rule are read back, if what stands behind is none.
reads_clauses : (f : ℕ) (ψs : List Formula) → ClausesInRange ψs → (s : List ℕ) (at : ℕ) (w : List ℕ) → eqb (head w) 0x04 ≡ false
    → Rest s at (written_clauses ψs ++ w) → length s < at + f → clauses f s at ≡ whole ψs (at + length (written_clauses ψs))
unfolding clauses written_clauses ClausesInRange
reads_clauses zero ψs i s at w e r h = absurd (omega arith)
reads_clauses (suc f) [] i s at w e r h = rw (first r, e) (ends_at refl (omega arith))
reads_clauses (suc f) (ψ ∷ ψs) i s at w e r h =
    let w₁ = written_formula ψ in
    let w₂ = written_clauses ψs in
    let r₁ = grouped w₁ w₂ w (behind (0x04 ∷ []) r) in
    rw (
      first r,
      reads_formula f 0 ψ i.0.names (omega (arith, i.0.nesting)) s (at + 1) (w₂ ++ w) r₁ (omega arith),
      le-leb (length (facts_of ψ)) 8 i.0.facts,
      reads_clauses f ψs i.1 s (at + 1 + length w₁) w e (behind w₁ r₁) (omega arith),
    )
    (ends_at refl (omega (arith, length-append w₁ w₂)))

-- What may stand first behind the parts of a rule.
module _ (P : ℕ → Type 0) where
  numbers_first : (c : ℕ) (ns w : List ℕ) → P c → P (head w) → P (head (written_numbers c ns ++ w))
  unfolding written_numbers
  numbers_first c [] w p q = q
  numbers_first c (n ∷ ns) w p q = p

  clauses_first : (ψs : List Formula) (w : List ℕ) → P 0x04 → P (head w) → P (head (written_clauses ψs ++ w))
  unfolding written_clauses
  clauses_first [] w p q = q
  clauses_first (ψ ∷ ψs) w p q = p

  rules_first : (rs : List Rule) (w : List ℕ) → P 0x01 → P (head w) → P (head (written_rules rs ++ w))
  unfolding written_rules
  rules_first [] w p q = q
  rules_first (r ∷ rs) w p q = p

-- A command that begins none of a rule's parts.
abbrev NoPart : ℕ → Type 0
NoPart c = (eqb c 0x02 ≡ false) × (eqb c 0x03 ≡ false) × (eqb c 0x04 ≡ false)

-- What is written behind `01 e`.
abbrev pub written_body : Rule → List ℕ
written_body d = written_numbers 0x02 d.attributes ++ written_numbers 0x03 d.contents ++ written_clauses d.clauses

reads_body : (f : ℕ) (d : Rule) → RuleInRange d → (s : List ℕ) (at : ℕ) (w : List ℕ) → NoPart (head w) → Rest s at (written_body d ++ w) → length s < at + f
    → rule_body f s d.element at ≡ whole d (at + length (written_body d))
unfolding allowed
reads_body f d i s at w e r h =
    let w₁ = written_numbers 0x02 d.attributes in
    let w₂ = written_numbers 0x03 d.contents in
    let w₃ = written_clauses d.clauses in
    let r₁ = grouped w₁ w₂ (w₃ ++ w) (grouped (w₁ ++ w₂) w₃ w r) in
    let r₂ = behind w₁ r₁ in
    let e₂ = clauses_first (λ b. eqb b 0x03 ≡ false) d.clauses w refl e.1 in
    let e₁ = numbers_first (λ b. eqb b 0x02 ≡ false) 0x03 d.contents (w₃ ++ w) refl (clauses_first (λ b. eqb b 0x02 ≡ false) d.clauses w refl e.0) in
    rw (
      reads_numbers Attributes 0x02 31 refl attribute_goes f 0 d.attributes i.attributes s at (w₂ ++ (w₃ ++ w)) e₁ r₁ h,
      reads_numbers Contents 0x03 63 refl content_goes f 0 d.contents i.contents s (at + length w₁) (w₃ ++ w) e₂ r₂ (omega arith),
      reads_clauses f d.clauses i.clauses s (at + length w₁ + length w₂) w e.2 (behind w₂ r₂) (omega arith),
    )
    (ends_at refl (omega (arith, length-append (w₁ ++ w₂) w₃, length-append w₁ w₂)))

some_or : (b : Bool) (d : Rule) (o : Option Rule) → is_some (cond b (some d) o) ≡ (b || is_some o)
some_or true d o = refl
some_or false d o = refl

pub declared_cons : (d : Rule) (ds : List Rule) (e : ℕ) → declared (d ∷ ds) e ≡ (eqb d.element e || declared ds e)
unfolding rule_of
declared_cons d ds e = some_or (eqb d.element e) d (rule_of ds e)

-- A rule more declares its element and no other.
not_declared : (gs : List Rule) (d : Rule) (e : ℕ) → declared gs e ≡ false → eqb d.element e ≡ false → declared (gs ++ (d ∷ [])) e ≡ false
unfolding rule_of
not_declared [] d e h n = rw n
not_declared (g ∷ gs) d e h n =
    let both = or_neither (eqb g.element e) (declared gs e) (sym (declared_cons g gs e) ∙ h) in
    rw both.0 (not_declared gs d e both.1 n)

-- A declared element is in range.
pub declared_in_range : (ds : List Rule) (e : ℕ) → RulesInRange ds → declared ds e ≡ true → IsElement e
unfolding rule_of RulesInRange
declared_in_range [] e i h = absurd (let z : ◌≡◌ {A = ℕ} 0 1 = cc in omega arith)
declared_in_range (d ∷ ds) e i h = either (eqb d.element e) refl (sym (declared_cons d ds e) ∙ h) (declared_in_range ds e i.1)
  where
    either : (b : Bool) → eqb d.element e ≡ b → (b || declared ds e) ≡ true → (declared ds e ≡ true → IsElement e) → IsElement e
    either true p q k = omega (arith, eqb-true d.element e p, i.0.element)
    either false p q k = k q

-- The rules up to the root are read back, behind those given.
reads_rules : (f : ℕ) (given ds : List Rule) (root : ℕ) → RulesInRange ds → Distinct (elements ds) → NoneOf (declared given) (elements ds)
    → IsElement root → declared (given ++ ds) root ≡ true → (s : List ℕ) (at : ℕ) (w : List ℕ) → Rest s at (written_rules ds ++ 0x05 ∷ root ∷ w) → length s < at + f
    → rules f s given at ≡ whole (record { rules = given ++ ds; root = root }) (at + length (written_rules ds) + 2)
unfolding rules written_rules RulesInRange Distinct allowed operands_of
reads_rules zero given ds root i o n t e s at w r h = absurd (omega arith)
reads_rules (suc f) given [] root i o n t e s at w r h =
    let e' : declared given root ≡ true = rw append-nil at e in
    rw (element_goes Rules 0x05 refl refl s at root w t r, byte_at 1 r, e', append-nil given) (ends_at refl (omega arith))
reads_rules (suc f) given (d ∷ ds) root i o n t e s at w r h =
    let body = written_body d in
    let rest : List ℕ = written_rules ds ++ 0x05 ∷ root ∷ w in
    let r₁ = grouped body (written_rules ds) (0x05 ∷ root ∷ w) (behind (0x01 ∷ d.element ∷ []) r) in
    let no_part : NoPart (head rest) = rules_first NoPart ds (0x05 ∷ root ∷ w) (refl, refl, refl) (refl, refl, refl) in
    let n' : NoneOf (declared (given ++ (d ∷ []))) (elements ds) = none_after (declared given) _ d.element (not_declared given d) (elements ds) o.0 n.1 in
    let e' : declared (given ++ (d ∷ []) ++ ds) root ≡ true = rw append_snoc e in
    rw (
      element_goes Rules 0x01 refl refl s at d.element _ i.0.element r,
      byte_at 1 r,
      n.0,
      reads_body f d i.0 s (at + 2) rest no_part r₁ (omega arith),
      reads_rules f (given ++ (d ∷ [])) ds root i.1 o.1 n' t e' s (at + 2 + length body) w (behind body r₁) (omega arith),
      append_snoc given d ds,
    )
    (ends_at refl (omega (arith, length-append body (written_rules ds))))

-- Bytes that begin with a vocabulary that was written, as those of a job do.
pub reads_vocabulary : (D : Vocabulary) (w : List ℕ) → VocabularyInRange D → vocabulary (written_vocabulary D ++ w) ≡ whole D (length (written_vocabulary D))
unfolding vocabulary written_vocabulary rule_of
reads_vocabulary D w i =
    let s = written_vocabulary D ++ w in
    let ds = D.rules in
    let e = D.root in
    let r : Rest s 0 (written_rules ds ++ 0x05 ∷ e ∷ w) = grouped (written_rules ds) (0x05 ∷ e ∷ []) w (all s) in
    ends_at
    (reads_rules (enough s) [] ds e i.rules i.once (none_of_none (elements ds)) (declared_in_range ds e i.rules i.root) i.root s 0 w r (omega arith))
    (omega (arith, length-append (written_rules ds) (0x05 ∷ e ∷ [])))

pub vocabulary_back : (D : Vocabulary) → VocabularyInRange D → length (written_vocabulary D) ≤ 65535
    → vocabulary_slice (written_vocabulary D) ≡ whole D (length (written_vocabulary D))
unfolding vocabulary_slice
vocabulary_back D i h = reads_alone (written_vocabulary D) h (rw append-nil at (reads_vocabulary D [] i))
