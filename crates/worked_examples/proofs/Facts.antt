-- The facts of a clause by computation (document 01, "A job, command by command"; document 02, F-5: "Each distinct `14 a` counts among a
-- clause's eight facts, so some clauses now get 7").
use Prim.Native.Nat.{ℕ}
use mathlib.Core.Path.{◌≡◌, refl}
use mathlib.Core.List.{List, [], ◌∷◌, ◌++◌}
use mathlib.Core.Option.{Option, some, none}
use Rattle.verdicts.specs.declared.Form.{Form}
use Rattle.verdicts.specs.declared.Form.TheVariants.{TooManyFacts}
use Rattle.commands.specs.Commands.{command}
use Rattle.commands.specs.Reading.{Read, whole, refused, unfinished}
use Rattle.vocabularies.specs.Vocabulary.{conj, disj, neg, attr, order, value, Vocabulary, rule_of}
use Rattle.vocabularies.specs.Facts.{carried, present, ordered, valued, with_facts, facts_of}
use Rattle.vocabularies.specs.VocabularyReading.{vocabulary_slice}

-- `14 00` twice is one fact. `14 00` and `17 00 m` are two. `14 03` and `16 01 01` are three.
pub attributes_counted : (facts_of (conj (attr 0) (disj (attr 0) (neg (attr 1)))) ≡ carried 0 ∷ carried 1 ∷ [])
    × (facts_of (disj (attr 0) (value 0 2)) ≡ carried 0 ∷ valued 0 2 ∷ [])
    × (facts_of (conj (attr 3) (order 1 1)) ≡ carried 3 ∷ present 1 ∷ ordered 1 1 ∷ [])
unfolding with_facts
attributes_counted = (refl, refl, refl)

-- A vocabulary of one rule with one clause.
abbrev with_clause : List ℕ → List ℕ
with_clause ψ = (0x01 ∷ 0x01 ∷ 0x04 ∷ ψ) ++ (0x05 ∷ 0x01 ∷ [])

abbrev refusal : Read Vocabulary → Option Form
refusal (whole D end) = none
refusal (refused f at) = some f
refusal unfinished = none

-- Six attributes beside `16 01 01`, which has two facts: eight.
abbrev eight : List ℕ
eight = 0x10 ∷ 0x14 ∷ 0x00 ∷ 0x10 ∷ 0x14 ∷ 0x01 ∷ 0x10 ∷ 0x14 ∷ 0x02 ∷ 0x10 ∷ 0x14 ∷ 0x03 ∷ 0x10 ∷ 0x14 ∷ 0x04 ∷ 0x10 ∷ 0x14 ∷ 0x05 ∷ 0x16 ∷ 0x01 ∷ 0x01 ∷ []

-- Eight are read, with one of them once more too; one attribute more gives 7. So it is for the vocabulary of a page (reading 12 of
-- document 02's), and for that of a job, which the same definition reads.
pub eight_pass : (refusal (vocabulary_slice (with_clause eight)) ≡ none)
    × (refusal (vocabulary_slice (with_clause (0x10 ∷ 0x14 ∷ 0x05 ∷ eight))) ≡ none)
    × (refusal (vocabulary_slice (with_clause (0x10 ∷ 0x14 ∷ 0x06 ∷ eight))) ≡ some TooManyFacts)
unfolding vocabulary_slice command with_facts rule_of
eight_pass = (refl, refl, refl)
