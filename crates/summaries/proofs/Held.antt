-- What some item of two lists says, one after the other.
use mathlib.Core.Path.{◌≡◌}
use mathlib.Core.List.{List, [], ◌∷◌, ◌++◌}
use mathlib.Core.Bool.{Bool, true, false≢true}
use mathlib.Core.Logic.{⊎_elim}
use Rattle.sets.proofs.Booleans.{or_left, or_right, or_cases}
use Rattle.summaries.specs.Proposal.{Holding}
use Rattle.summaries.specs.Summaries.{held}

module _ {A : Type 0} (says : Holding → A → Bool) (a : A) where
  pub held_before : (xs ys : List Holding) → held says xs a ≡ true → held says (xs ++ ys) a ≡ true
  unfolding held
  held_before [] ys e = absurd (false≢true e)
  held_before (x ∷ xs) ys e = ⊎_elim
      (or_left (says x a) (held says (xs ++ ys) a))
      (λ h. or_right (says x a) (held says (xs ++ ys) a) (held_before xs ys h))
      (or_cases (says x a) (held says xs a) e)

  pub held_behind : (xs ys : List Holding) → held says ys a ≡ true → held says (xs ++ ys) a ≡ true
  unfolding held
  held_behind [] ys e = e
  held_behind (x ∷ xs) ys e = or_right (says x a) (held says (xs ++ ys) a) (held_behind xs ys e)
