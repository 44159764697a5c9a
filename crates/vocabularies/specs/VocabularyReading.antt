-- Reading a vocabulary (document 01, "A job, command by command", Vocabulary; "Verdicts"). Rules come in any order; a list of a
-- rule ends at the first command that is none of its own.
use Rattle.std.specs.Prelude.{ℕ, zero, suc, ◌+◌, List, [], ◌∷◌, ◌++◌, cond, length, leb, ltb, eqb}
use Rattle.verdicts.specs.declared.Form.TheVariants.{TooLong, NotAllowed, NotRising, TooMany, TooManyFacts, Missing}
use Rattle.commands.specs.declared.Context.{Context}
use Rattle.commands.specs.declared.Context.TheVariants.{Rules, Attributes, Contents, Formulas}
use Rattle.commands.specs.Commands.{byte, set_at, allowed}
use Rattle.commands.specs.Reading.{Read, whole, refused, unfinished, and_then, on_command, when, enough}
use Rattle.vocabularies.specs.Vocabulary.{Formula, conj, disj, neg, truth, attr, content, order, value, Rule, Vocabulary, declared}
use Rattle.vocabularies.specs.Facts.{facts_of}

-- What a formula's first command makes of the formulas after it.
pub data Shape : Type 0 where
  binary : (Formula → Formula → Formula) → Shape
  unary : (Formula → Formula) → Shape
  leaf : Formula → Shape

abbrev pub shape_at : List ℕ → ℕ → ℕ → Shape
shape_at s at code =
    cond (eqb code 0x10) (binary conj)
    (cond (eqb code 0x11) (binary disj)
    (cond (eqb code 0x12) (unary neg)
    (cond (eqb code 0x13) (leaf truth)
    (cond (eqb code 0x14) (leaf (attr (byte s (at + 1))))
    (cond (eqb code 0x15) (leaf (content (byte s (at + 1))))
    (cond (eqb code 0x16) (leaf (order (byte s (at + 1)) (byte s (at + 2))))
    (leaf (value (byte s (at + 1)) (set_at s (at + 2))))))))))

-- At most this many of `10` to `12` stand open above one another.
abbrev pub formula_nesting : ℕ
formula_nesting = 16

-- A formula in prefix order, below `depth` open connectives.
unfoldable pub formula : ℕ → List ℕ → ℕ → ℕ → Read Formula
formula zero s depth at = unfinished
formula (suc f) s depth at = on_command Formulas s at λ code next. elim (shape_at s at code) [
  | binary two ↦ when (ltb depth formula_nesting)
      (λ _. and_then (formula f s (depth + 1) next) λ ψ₁ middle. and_then (formula f s (depth + 1) middle) λ ψ₂ end. whole (two ψ₁ ψ₂) end)
      (λ _. refused TooMany at)
  | unary one ↦ when (ltb depth formula_nesting)
      (λ _. and_then (formula f s (depth + 1) next) λ ψ end. whole (one ψ) end)
      (λ _. refused TooMany at)
  | leaf ψ ↦ whole ψ next
]

-- The numbers of a rising list, each of which is at least `least`.
unfoldable pub rising : ℕ → Context → List ℕ → ℕ → ℕ → Read (List ℕ)
unfolding allowed
rising zero x s least at = unfinished
rising (suc f) x s least at = when (allowed x (byte s at))
    (λ _. on_command x s at λ code next. when (leb least (byte s (at + 1)))
    (λ _. and_then (rising f x s (byte s (at + 1) + 1) next) λ ns end. whole (byte s (at + 1) ∷ ns) end)
    (λ _. refused NotRising at))
    (λ _. whole [] at)

abbrev pub most_facts : ℕ
most_facts = 8

-- The clauses of a rule; a clause's facts are counted when its formula is whole, the refusal is at its `04`.
unfoldable pub clauses : ℕ → List ℕ → ℕ → Read (List Formula)
unfolding formula
clauses zero s at = unfinished
clauses (suc f) s at = when (eqb (byte s at) 0x04)
    (λ _. and_then (formula f s 0 (at + 1)) λ ψ next. when (leb (length (facts_of ψ)) most_facts)
    (λ _. and_then (clauses f s next) λ ψs end. whole (ψ ∷ ψs) end)
    (λ _. refused TooManyFacts at))
    (λ _. whole [] at)

-- What follows `01 e`.
abbrev pub rule_body : ℕ → List ℕ → ℕ → ℕ → Read Rule
rule_body f s e at =
    and_then (rising f Attributes s 0 at) λ names next.
    and_then (rising f Contents s 0 next) λ cs next'.
    and_then (clauses f s next') λ ψs end.
    whole (record { element = e; attributes = names; contents = cs; clauses = ψs }) end

-- The rules from an offset on, after those given, up to `05 e`.
unfoldable pub rules : ℕ → List ℕ → List Rule → ℕ → Read Vocabulary
unfolding rising clauses
rules zero s given at = unfinished
rules (suc f) s given at = on_command Rules s at λ code next. when (eqb code 0x05)
    (λ _. when (declared given (byte s (at + 1)))
    (λ _. whole (record { rules = given; root = byte s (at + 1) }) next)
    (λ _. refused Missing at))
    (λ _. when (declared given (byte s (at + 1)))
    (λ _. refused NotRising at)
    (λ _. and_then (rule_body f s (byte s (at + 1)) next) λ r end. rules f s (given ++ (r ∷ [])) end))

-- The vocabulary that bytes begin with.
unfoldable pub vocabulary : List ℕ → Read Vocabulary
unfolding rules
vocabulary s = rules (enough s) s [] 0

-- The most bytes that a job or a slice may have.
abbrev pub most_bytes : ℕ
most_bytes = 65535

module _ {A : Type 0} where
  -- Bytes that are not too long, are read whole, and have nothing after.
  abbrev pub alone : List ℕ → Read A → Read A
  alone s r = when (leb (length s) most_bytes)
      (λ _. and_then r λ a end. when (ltb end (length s)) (λ _. refused NotAllowed end) (λ _. whole a end))
      (λ _. refused TooLong 0)

-- A vocabulary that is a slice of its own.
unfoldable pub vocabulary_slice : List ℕ → Read Vocabulary
unfolding vocabulary
vocabulary_slice s = alone s (vocabulary s)
