-- Walking over the items under a head: what was passed, and what is left.
use Prim.Native.Nat.{ℕ}
use mathlib.Core.Path.{◌≡◌}
use mathlib.Core.List.{List, [], ◌∷◌}
use Rattle.commands.specs.declared.Context.{Context}
use Rattle.commands.specs.declared.Position.{Position}
use Rattle.summaries.specs.Proposal.{Holding}
use Rattle.summaries.specs.declared.Claim.{Claim}
use Rattle.std.specs.Prelude.{Option, Some}
use Rattle.summaries.specs.Inner.Listed.{Listed, meaning_of, ClaimMoves, Moves}
use Rattle.summaries.proofs.Steps.{First}

module _ (x : Context) (s : List ℕ) where
  -- The items from an offset on, and what they have to do with those that were there at first.
  pub record Left (at : ℕ) (P : List Holding → Type 0) : Type 0 where
    pub rest : List Holding
    pub stands : Listed x s at rest
    pub tells : P rest

  abbrev pub Walked : ℕ → ℕ → (List Holding → List Holding → Type 0) → Type 0
  Walked from at P = (xs : List Holding) → Listed x s from xs → Left at (P xs)

module _ (x : Context) (s : List ℕ) (from : ℕ) where
  pub walk_begins : (P : List Holding → List Holding → Type 0) → ((xs : List Holding) → P xs xs) → Walked x s from from P
  walk_begins P h xs l = record { rest = xs; stands = l; tells = h xs }

  module _ (at : ℕ) (P : List Holding → List Holding → Type 0) (walked : Walked x s from at P) where
    pub walk_ends : ((ys : List Holding) → Listed x s at ys → ys ≡ []) → (xs : List Holding) → Listed x s from xs → P xs []
    walk_ends e xs l =
        let w = walked xs l in
        rw (e w.rest w.stands) at w.tells

    module _ (y : Holding) (next : Position) (first : (ys : List Holding) → Listed x s at ys → First s at x y next ys) where
      pub walk_goes : (Q : List Holding → List Holding → Type 0) → ((xs ys : List Holding) → P xs (y ∷ ys) → Q xs ys) → Walked x s from next.at Q
      walk_goes Q h xs l =
          let w = walked xs l in
          let f = first w.rest w.stands in
          record { rest = f.rest; stands = f.stand; tells = h xs f.rest (rw f.is_more at w.tells) }

      -- What an item that is left says, where the walk is given up.
      pub walk_stops : (Q : List Holding → Type 0) → ((xs ys : List Holding) → P xs (y ∷ ys) → Q xs) → (xs : List Holding) → Listed x s from xs → Q xs
      walk_stops Q h xs l =
          let w = walked xs l in
          let f = first w.rest w.stands in
          h xs f.rest (rw f.is_more at w.tells)

-- The step over an item that is known.
module _ (s : List ℕ) (at : ℕ) where
  pub claim_moves : (r : Option (Claim × Position)) → ClaimMoves s at r → (item : Claim) (next : Position) → r ≡ Some (item, next) → Moves s at (meaning_of item) next
  claim_moves r m item next e = rw e at m
