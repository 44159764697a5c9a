-- Morphisms of words into a finite monoid (document 01, "An exact check needs ..": the pattern of a word of contents): each word has a
-- pattern, a number below `size`, and the pattern of two words, one after the other, is `op` of theirs; that the two which the check uses,
-- and which stand here, are such is proved, not part of the record.
use Rattle.std.specs.Prelude.{ℕ, ◌^◌, List, [], ◌∷◌, cond, length, eqb}
use Rattle.vocabularies.specs.Facts.{Fact}
use Rattle.patterns.specs.Inner.Patterns.{pattern_of, join}

pub record Morphism : Type 0 where
  pub size : ℕ
  pub of : List ℕ → ℕ
  pub op : ℕ → ℕ → ℕ

-- The facts of a clause. Contents have no attributes of their own.
abbrev pub fact_morphism : List Fact → Morphism
fact_morphism fs = record { size = 2 ^ length fs; of = pattern_of fs []; op = join fs }

-- Verdict 11, by the class of a word: it is empty, the root alone, or other.
abbrev pub empty : ℕ
empty = 0

abbrev pub alone : ℕ
alone = 1

abbrev pub other : ℕ
other = 2

unfoldable pub class_of : ℕ → List ℕ → ℕ
class_of root [] = empty
class_of root (c ∷ []) = cond (eqb c root) alone other
class_of root (c ∷ d ∷ w) = other

abbrev pub join_classes : ℕ → ℕ → ℕ
join_classes x y = cond (eqb x empty) y (cond (eqb y empty) x other)

abbrev pub root_morphism : ℕ → Morphism
root_morphism root = record { size = 3; of = class_of root; op = join_classes }
