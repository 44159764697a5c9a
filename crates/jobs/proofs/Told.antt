-- Errors of reading, told as refusals.
use mathlib.Core.Path.{◌≡◌, refl, sym, subst, ◌∙◌}
use Rattle.std.specs.Prelude.{ℕ, Result, Ok, Err, MatchResult, IsErrAnd}
use Rattle.verdicts.specs.declared.Refusal.{Refusal}
use Rattle.verdicts.specs.Printed.{unreadable}
use Rattle.commands.specs.declared.ReadError.{ReadError}

-- An answer whose errors are told as other errors.
abbrev pub TellsAs : {T E D : Type 0} → (E → D) → Result T E → Result T D → Type 0
TellsAs f x y = MatchResult x (λ v. y ≡ Ok v) (λ e. IsErrAnd y (λ d. d ≡ f e))

module _ {T E D : Type 0} (f : E → D) where
  pub told_err : (x : Result T E) (y : Result T D) → TellsAs f x y → (d : D) → y ≡ Err d → (e : E) × (x ≡ Err e) × (d ≡ f e)
  told_err (Ok v) y h d q = absurd (let z : ◌≡◌ {A = Result T D} (Ok v) (Err d) = sym h ∙ q in cc)
  told_err (Err e) y h d q = (e, refl, subst (λ (r : Result T D). IsErrAnd r (λ d. d ≡ f e)) q h)

  pub told_ok : (x : Result T E) (y : Result T D) → TellsAs f x y → (v : T) → y ≡ Ok v → x ≡ Ok v
  told_ok (Ok w) y h v q = let z : ◌≡◌ {A = Result T D} (Ok w) (Ok v) = sym h ∙ q in cc
  told_ok (Err e) y h v q = absurd (subst (λ (r : Result T D). IsErrAnd r (λ d. d ≡ f e)) q h)

-- Why bytes cannot be read, as the refusal of a slice.
abbrev pub unreadable_at : ℕ → ReadError → Refusal
unreadable_at slice e = unreadable e.form e.at slice
