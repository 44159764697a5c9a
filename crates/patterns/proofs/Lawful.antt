-- Both morphisms keep what one says of itself: patterns lie below the size, and are joined as the words are.
use Prim.Native.Nat.{ℕ, ◌<◌}
use native.Mathlib.Omega.{arith}
use mathlib.Core.Path.{◌≡◌, refl}
use mathlib.Core.List.{List, [], ◌∷◌, ◌++◌}
use mathlib.Core.Bool.{Bool, true, false, cond}
use lib.Dec.{eqb}
use Rattle.vocabularies.specs.Vocabulary.{Formula}
use Rattle.vocabularies.specs.Facts.{Fact, facts_of}
use Rattle.patterns.specs.Inner.Morphisms.{Morphism, fact_morphism, root_morphism, class_of, join_classes, empty, alone, other}
use Rattle.patterns.proofs.Facts.{Closed, facts_closed}
use Rattle.patterns.proofs.Clauses.{pattern_append, pattern_below}

pub record Lawful (R : Morphism) : Type 0 where
  pub below : (w : List ℕ) → R.of w < R.size
  pub joins : (u v : List ℕ) → R.of (u ++ v) ≡ R.op (R.of u) (R.of v)

pub facts_lawful : (fs : List Fact) → Closed fs → Lawful (fact_morphism fs)
facts_lawful fs closed = record { below = pattern_below fs []; joins = pattern_append fs closed [] [] }

pub clause_lawful : (ψ : Formula) → Lawful (fact_morphism (facts_of ψ))
clause_lawful ψ = facts_lawful (facts_of ψ) (facts_closed ψ)

class_below : (root : ℕ) (w : List ℕ) → class_of root w < 3
unfolding class_of
class_below root [] = omega arith
class_below root (c ∷ []) = go (eqb c root)
  where
    go : (b : Bool) → cond b alone other < 3
    go true = omega arith
    go false = omega arith
class_below root (c ∷ d ∷ w) = omega arith

classes_join : (root : ℕ) (u v : List ℕ) → class_of root (u ++ v) ≡ join_classes (class_of root u) (class_of root v)
unfolding class_of
classes_join root [] v = refl
classes_join root (c ∷ []) [] = go (eqb c root)
  where
    go : (b : Bool) → cond b alone other ≡ join_classes (cond b alone other) empty
    go true = refl
    go false = refl
classes_join root (c ∷ []) (d ∷ []) = go (eqb c root) (eqb d root)
  where
    go : (a b : Bool) → other ≡ join_classes (cond a alone other) (cond b alone other)
    go true true = refl
    go true false = refl
    go false true = refl
    go false false = refl
classes_join root (c ∷ []) (d ∷ d' ∷ v) = go (eqb c root)
  where
    go : (a : Bool) → other ≡ join_classes (cond a alone other) other
    go true = refl
    go false = refl
classes_join root (c ∷ c' ∷ u) v = go (eqb (class_of root v) empty)
  where
    go : (b : Bool) → other ≡ cond b other other
    go true = refl
    go false = refl

pub root_lawful : (root : ℕ) → Lawful (root_morphism root)
root_lawful root = record { below = class_below root; joins = classes_join root }
