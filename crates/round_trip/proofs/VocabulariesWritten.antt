-- A vocabulary that is read is the one whose bytes were read, in range.
use Prim.Native.Nat.{ℕ, zero, suc, ◌+◌, ◌≤◌, ◌<◌, max}
use native.Mathlib.Omega.{arith}
use mathlib.Core.Path.{◌≡◌, refl, sym, ◌∙◌}
use mathlib.Core.List.{List, [], ◌∷◌, ◌++◌, append_assoc, append-nil}
use mathlib.Core.Bool.{true, false, and-eq-true_iff}
use lib.ListN.{length}
use lib.Seq.{append_snoc}
use lib.Dec.{ltb, leb, eqb}
use borrow.Author.Tests.{ltb-true, leb-true, eqb-true}
use Rattle.sets.proofs.Booleans.{or_neither}
use Rattle.commands.specs.declared.Context.{Context}
use Rattle.commands.specs.declared.Context.TheVariants.{Rules, Attributes, Contents, Formulas}
use Rattle.commands.specs.Commands.{byte, set_at, allowed, operands_of, operand_bytes}
use Rattle.commands.specs.Reading.{whole, enough}
use Rattle.vocabularies.specs.Vocabulary.{Formula, order, value, Rule, Vocabulary, rule_of, declared}
use Rattle.vocabularies.specs.VocabularyReading.{formula_nesting, most_facts, formula, rising, clauses, rule_body, rules, vocabulary, vocabulary_slice}
use Rattle.vocabularies.specs.Facts.{facts_of}
use Rattle.agreement.proofs.Readings.{Gives, gives, refuses, runs_out, gives_command, gives_when, gives_then, gives_map, Taken, byte_there, is_first}
use Rattle.round_trip.specs.Written.{written_formula, written_numbers, written_clauses, written_rules, written_vocabulary}
use Rattle.round_trip.specs.InRange.{Bytes, Rising, Distinct, IsElement, connective_depth, NamesInRange, ClausesInRange, RuleInRange, RulesInRange, VocabularyInRange}
use Rattle.round_trip.specs.Exact.{Span, Exactly}
use Rattle.round_trip.proofs.Once.{NoneOf, none_before, elements}
use Rattle.round_trip.proofs.Spans.{nothing, then, at_byte, alone_written, taken_span, taken_fits, one_of, ◌or◌, done}
use Rattle.round_trip.proofs.Vocabularies.{written_body, declared_cons}
use Rattle.round_trip.proofs.Digits.{digits, spelt_small}

-- A formula that was read below `depth` open connectives.
record FormulaRead (s : List ℕ) (depth at : ℕ) (ψ : Formula) (end : ℕ) : Type 0 where
  span : Span s at (written_formula ψ) end
  names : NamesInRange ψ
  nested : depth + connective_depth ψ ≤ 16

module _ (s : List ℕ) where
  -- A formula of two, and one with none in it.
  connected : {depth at next middle end : ℕ} {ψ₁ ψ₂ ψ : Formula} (c : ℕ) → Span s at (c ∷ []) next → written_formula ψ ≡ c ∷ (written_formula ψ₁ ++ written_formula ψ₂)
      → (NamesInRange ψ₁ × NamesInRange ψ₂ → NamesInRange ψ) → connective_depth ψ ≡ suc (max (connective_depth ψ₁) (connective_depth ψ₂))
      → FormulaRead s (depth + 1) next ψ₁ middle → FormulaRead s (depth + 1) middle ψ₂ end → FormulaRead s depth at ψ end
  connected c p w i d m n =
      record { span = rw w (then p (then m.span n.span)); names = i (m.names, n.names); nested = omega (arith, m.nested, n.nested) }

  leaf_read : {depth at next : ℕ} {ψ : Formula} → depth ≤ 16 → connective_depth ψ ≡ 0 → Span s at (written_formula ψ) next → NamesInRange ψ → FormulaRead s depth at ψ next
  leaf_read d z p i = record { span = p; names = i; nested = omega arith }

  module _ (b : Bytes s) where
    -- `17 a m`: the bytes of m.
    set_read : {depth at next : ℕ} → depth ≤ 16 → Taken Formulas s at 0x17 next → FormulaRead s depth at (value (byte s (at + 1)) (set_at s (at + 2))) next
    unfolding written_formula NamesInRange connective_depth operands_of operand_bytes
    set_read {at} d t =
        let fits = taken_fits t in
        let some : 0 < set_at s (at + 2) = omega (arith, fits.1.0) in
        leaf_read d refl (rw (digits s b at 8 2) (taken_span t)) (fits.0, some, spelt_small s b 8 (at + 2))

    formula_written : (f depth at : ℕ) → depth ≤ 16 → Gives (Unit {0}) (FormulaRead s depth at) (formula f s depth at)
    unfolding formula written_formula NamesInRange connective_depth operands_of operand_bytes allowed
    formula_written zero depth at d = runs_out tt
    formula_written (suc f) depth at d = gives_command Formulas s at λ code next t.
        let range = (and-eq-true_iff (leb 0x10 code) (leb code 0x17)).0 t.may in
        one_of {low = 0x10} {n = 8} (
        (λ e. rw e (gives_when (ltb depth formula_nesting)
        (λ _ l. gives_then (formula_written f (depth + 1) next (omega (arith, ltb-true depth 16 l))) λ ψ₁ middle m.
        gives_then (formula_written f (depth + 1) middle (omega (arith, ltb-true depth 16 l))) λ ψ₂ end n.
        gives (connected 0x10 (taken_span (rw e at t)) refl (λ i. i) refl m n))
        (λ _ _. refuses)))
        or (λ e. rw e (gives_when (ltb depth formula_nesting)
        (λ _ l. gives_then (formula_written f (depth + 1) next (omega (arith, ltb-true depth 16 l))) λ ψ₁ middle m.
        gives_then (formula_written f (depth + 1) middle (omega (arith, ltb-true depth 16 l))) λ ψ₂ end n.
        gives (connected 0x11 (taken_span (rw e at t)) refl (λ i. i) refl m n))
        (λ _ _. refuses)))
        or (λ e. rw e (gives_when (ltb depth formula_nesting)
        (λ _ l. gives_then (formula_written f (depth + 1) next (omega (arith, ltb-true depth 16 l))) λ ψ end m.
        gives (record { span = then (taken_span (rw e at t)) m.span; names = m.names; nested = omega (arith, m.nested) }))
        (λ _ _. refuses)))
        or (λ e. rw e (gives (leaf_read d refl (taken_span (rw e at t)) tt)))
        or (λ e. let t' = rw e at t in rw e (gives (leaf_read d refl (taken_span t') (taken_fits t').0)))
        or (λ e. let t' = rw e at t in rw e (gives (leaf_read d refl (taken_span t') (taken_fits t').0)))
        or (λ e. let t' = rw e at t in rw e (gives (leaf_read {ψ = order (byte s (at + 1)) (byte s (at + 2))} d refl (taken_span t') ((taken_fits t').0, (taken_fits t').1.0))))
        or (λ e. rw e (gives (set_read d (rw e at t))))
        or done
        )
        (leb-true 0x10 code range.0) (omega (arith, leb-true code 0x17 range.1))

-- Numbers that were read, each behind command c.
record NumbersRead (s : List ℕ) (c least most at : ℕ) (ns : List ℕ) (end : ℕ) : Type 0 where
  span : Span s at (written_numbers c ns) end
  rises : Rising least most ns

record ClausesRead (s : List ℕ) (at : ℕ) (ψs : List Formula) (end : ℕ) : Type 0 where
  span : Span s at (written_clauses ψs) end
  is_in_range : ClausesInRange ψs

module _ (s : List ℕ) where
  numbers_written : (x : Context) (c most : ℕ) → ((at code next : ℕ) → Taken x s at code next → Span s at (c ∷ byte s (at + 1) ∷ []) next × (byte s (at + 1) ≤ most))
      → (f least at : ℕ) → Gives (Unit {0}) (NumbersRead s c least most at) (rising f x s least at)
  unfolding rising written_numbers Rising
  numbers_written x c most h zero least at = runs_out tt
  numbers_written x c most h (suc f) least at = gives_when (allowed x (byte s at))
      (λ _ _. gives_command x s at λ code next t. gives_when (leb least (byte s (at + 1)))
      (λ _ l. gives_then (numbers_written x c most h f (byte s (at + 1) + 1) next) λ ns end m.
      gives (record { span = then (h at code next t).0 m.span; rises = (leb-true _ _ l, (h at code next t).1, m.rises) }))
      (λ _ _. refuses))
      (λ _ _. gives (record { span = nothing at; rises = tt }))

  attribute_read : (at code next : ℕ) → Taken Attributes s at code next → Span s at (0x02 ∷ byte s (at + 1) ∷ []) next × (byte s (at + 1) ≤ 31)
  unfolding allowed operands_of operand_bytes
  attribute_read at code next t = let t' = rw (eqb-true code 0x02 t.may) at t in (taken_span t', (taken_fits t').0)

  content_read : (at code next : ℕ) → Taken Contents s at code next → Span s at (0x03 ∷ byte s (at + 1) ∷ []) next × (byte s (at + 1) ≤ 63)
  unfolding allowed operands_of operand_bytes
  content_read at code next t = let t' = rw (eqb-true code 0x03 t.may) at t in (taken_span t', (taken_fits t').0)

  module _ (b : Bytes s) where
    clauses_written : (f at : ℕ) → Gives (Unit {0}) (ClausesRead s at) (clauses f s at)
    unfolding clauses written_clauses ClausesInRange
    clauses_written zero at = runs_out tt
    clauses_written (suc f) at = gives_when (eqb (byte s at) 0x04)
        (λ _ e. let first : byte s at ≡ 0x04 = eqb-true (byte s at) 0x04 e in
        gives_then (formula_written s b f 0 (at + 1) (omega arith)) λ ψ next m. gives_when (leb (length (facts_of ψ)) most_facts)
        (λ _ l. gives_then (clauses_written f next) λ ψs end n. gives (record {
          span = then (at_byte at 0x04 (byte_there s at 0x03 first) first) (then m.span n.span);
          is_in_range = (record { names = m.names; nesting = omega (arith, m.nested); facts = leb-true _ _ l }, n.is_in_range);
        }))
        (λ _ _. refuses))
        (λ _ _. gives (record { span = nothing at; is_in_range = tt }))

    body_written : (f e at : ℕ) → IsElement e → Gives (Unit {0}) (λ r end. (r.element ≡ e) × Span s at (written_body r) end × RuleInRange r) (rule_body f s e at)
    body_written f e at i =
        gives_then (numbers_written Attributes 0x02 31 attribute_read f 0 at) λ names next m.
        gives_then (numbers_written Contents 0x03 63 content_read f 0 next) λ cs next' m'.
        gives_then (clauses_written f next') λ ψs end n. gives (
          refl,
          then (then m.span m'.span) n.span,
          record { element = i; attributes = m.rises; contents = m'.rises; clauses = n.is_in_range },
        )

-- The rules that were read after those given, up to the root.
record RulesRead (s : List ℕ) (before : List Rule) (at : ℕ) (D : Vocabulary) (end : ℕ) : Type 0 where
  more : List Rule
  are : D.rules ≡ before ++ more
  span : Span s at (written_rules more ++ 0x05 ∷ D.root ∷ []) end
  is_in_range : RulesInRange more
  once : Distinct (elements more)
  new : NoneOf (declared before) (elements more)
  root : declared D.rules D.root ≡ true

-- An element that no rule declares, with one more rule, is declared by none before it.
declared_by_none : (before : List Rule) (r : Rule) (e : ℕ) → declared (before ++ (r ∷ [])) e ≡ false → (declared before e ≡ false) × (eqb r.element e ≡ false)
unfolding rule_of
declared_by_none [] r e h = (refl, (or_neither (eqb r.element e) false (sym (declared_cons r [] e) ∙ h)).0)
declared_by_none (g ∷ gs) r e h =
    let both = or_neither (eqb g.element e) (declared (gs ++ (r ∷ [])) e) (sym (declared_cons g (gs ++ (r ∷ [])) e) ∙ h) in
    let rest = declared_by_none gs r e both.1 in
    (declared_cons g gs e ∙ rw (both.0, rest.0), rest.1)

module _ (s : List ℕ) where
  rule_read : {before : List Rule} {r : Rule} {D : Vocabulary} {at next middle end : ℕ} → Span s at (0x01 ∷ r.element ∷ []) next → declared before r.element ≡ false
      → Span s next (written_body r) middle → RuleInRange r → RulesRead s (before ++ (r ∷ [])) middle D end → RulesRead s before at D end
  unfolding written_rules RulesInRange Distinct
  rule_read {before} {r} {D} p d q i n =
      let others = none_before (declared before) (declared (before ++ (r ∷ []))) r.element (declared_by_none before r) (elements n.more) n.new in
      record {
        more = r ∷ n.more;
        are = n.are ∙ append_snoc before r n.more;
        span = rw (append_assoc (written_body r) (written_rules n.more) (0x05 ∷ D.root ∷ [])) (then p (then q n.span));
        is_in_range = (i, n.is_in_range);
        once = (others.0, n.once);
        new = (d, others.1);
        root = n.root;
      }

module _ (s : List ℕ) (b : Bytes s) where
  rules_written : (f : ℕ) (before : List Rule) (at : ℕ) → Gives (Unit {0}) (RulesRead s before at) (rules f s before at)
  unfolding rules written_rules RulesInRange Distinct allowed operands_of operand_bytes
  rules_written zero before at = runs_out tt
  rules_written (suc f) before at = gives_command Rules s at λ code next t. gives_when (eqb code 0x05)
      (λ _ c. let t' = rw (eqb-true code 0x05 c) at t in gives_when (declared before (byte s (at + 1)))
      (λ _ d. gives (record { more = []; are = sym (append-nil before); span = taken_span t'; is_in_range = tt; once = tt; new = tt; root = d }))
      (λ _ _. refuses))
      (λ _ c. let t' = rw (is_first 0x01 0x05 code t.may c) at t in gives_when (declared before (byte s (at + 1)))
      (λ _ _. refuses)
      (λ _ d. gives_then (body_written s b f (byte s (at + 1)) next (taken_fits t').0) λ r middle m.
      gives_map (λ D end n. rule_read s (rw m.0 (taken_span t')) (rw m.0 d) m.1 m.2 n) (rules_written f (before ++ (r ∷ [])) middle)))

  -- The vocabulary that bytes begin with.
  pub vocabulary_read : Gives (Unit {0}) (λ D end. Span s 0 (written_vocabulary D) end × VocabularyInRange D) (vocabulary s)
  unfolding vocabulary written_vocabulary
  vocabulary_read = gives_map
      (λ D end n. (rw n.are n.span, record { rules = rw n.are n.is_in_range; once = rw n.are n.once; root = n.root }))
      (rules_written (enough s) [] 0)

-- Bytes that are read as a vocabulary are those of it.
pub vocabulary_written : (s : List ℕ) (D : Vocabulary) (end : ℕ) → Bytes s → vocabulary_slice s ≡ whole D end → Exactly written_vocabulary VocabularyInRange s D end
unfolding vocabulary_slice
vocabulary_written s D end b = alone_written s (vocabulary_read s b)
