-- A walk over attributes: from what stands at an offset and the position after the rest, the position after the whole.
use Prim.Native.Nat.{ℕ, ◌≤◌}
use mathlib.Core.Path.{◌≡◌, ◌∙◌}
use mathlib.Core.Logic.{◌⊎◌, inl, inr}
use mathlib.Core.List.{List, ◌∷◌}
use native.Mathlib.Omega.{arith}
use Rattle.commands.specs.declared.Position.{Position}
use Rattle.pages.specs.declared.AttributeHere.{AttributeHere}
use Rattle.pages.specs.declared.AttributeHere.TheVariants.{Fixed, Open, Done}
use Rattle.pages.specs.Inner.Steps.{Steps, attribute_here, AttributeMoves, AfterAttributes}
use Rattle.pages.proofs.Steps.{fixed_first, open_first, none_first, fixed_moves, open_moves}

-- What a walk that has come from an offset to another has still to find.
pub record Skipping (s : List ℕ) (After : List ℕ → ℕ → Position → Type 0) (at₀ at : ℕ) : Type 0 where
  pub forward : at₀ ≤ at
  pub goes : (r : Position) → After s at r → After s at₀ r

module _ (s : List ℕ) (at : ℕ) (h : AttributeHere) (is : h ≡ attribute_here s at) (moves : AttributeMoves s at h) (at₀ : ℕ) (walk : Skipping s AfterAttributes at₀ at) where
  pub after_fixed : (a v : ℕ) (next : Position) → h ≡ Fixed a v next → Skipping s AfterAttributes at₀ next.at
  after_fixed a v next e = record {
    forward = omega (arith, walk.forward, (fixed_moves s at h moves a v next e).0.forward);
    goes = λ r rest. walk.goes r λ k before f end δ reads done.
        let w = (fixed_first f k s before at δ end reads done h is a v next e).0 in
        rest k (a ∷ before) w.fuel end w.rest w.reads_rest done;
  }

  pub after_open : (a g : ℕ) (next : Position) → h ≡ Open a g next → Skipping s AfterAttributes at₀ next.at
  after_open a g next e = record {
    forward = omega (arith, walk.forward, (open_moves s at h moves a g next e).0.forward);
    goes = λ r rest. walk.goes r λ k before f end δ reads done.
        let w = (open_first f k s before at δ end reads done h is a g next e).0 in
        rest k (a ∷ before) w.fuel end w.rest w.reads_rest done;
  }

  -- An attribute, of either sort, is passed over.
  pub after_one : (next : Position) → ((a : ℕ) × (v : ℕ) × (h ≡ Fixed a v next)) ⊎ ((a : ℕ) × (g : ℕ) × (h ≡ Open a g next))
      → Steps s at next.at × Skipping s AfterAttributes at₀ next.at
  after_one next (inl (a, v, e)) = ((fixed_moves s at h moves a v next e).0, after_fixed a v next e)
  after_one next (inr (a, g, e)) = ((open_moves s at h moves a g next e).0, after_open a g next e)

  pub after_none : (p : Position) → p.at ≡ at → h ≡ Done → (at₀ ≤ at) × AfterAttributes s at₀ p
  after_none p here e =
      (walk.forward, walk.goes p λ k before f end δ reads done. here ∙ (none_first f k s before at δ end reads done h is e).here)
