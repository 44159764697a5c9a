-- Tests, and what they decide.
use Prim.Native.Nat.{ℕ}
use mathlib.Core.Path.{◌≡◌, refl, sym, ◌∙◌}
use mathlib.Core.Bool.{Bool, true, false, false≢true}
use Rattle.sets.specs.Sets.{member}
use Rattle.sets.specs.Inner.Promises.{MembersWithin}
use Rattle.strings.specs.declared.Values.{Values}
use Rattle.strings.specs.Inner.Promises.{holds_value, ValuesWithin}
use Rattle.summaries.specs.Summaries.{Within}
use Rattle.entries.specs.Inner.Passing.{Decides}

module _ {P : Type 0} where
  pub decides : (b : Bool) → (b ≡ true → P) → (P → b ≡ true) → Decides b P
  decides true f g = f refl
  decides false f g = λ p. absurd (false≢true (g p))

  -- A test that decides a proposition, read as a fact.
  pub decided_true : (b : Bool) → Decides b P → b ≡ true → P
  decided_true true d e = d
  decided_true false d e = absurd (false≢true e)

  pub decided_false : (b : Bool) → Decides b P → b ≡ false → P → ⊥
  decided_false true d e = absurd (false≢true (sym e))
  decided_false false d e = d

pub decides_map : {P Q : Type 0} (b : Bool) → (P → Q) → (Q → P) → Decides b P → Decides b Q
decides_map true f g d = f d
decides_map false f g d = λ q. d (g q)

-- Sets of numbers, compared.
pub members_decide : (a b : ℕ) (r : Bool) → MembersWithin a b r → Decides r (Within (member a) (member b))
members_decide a b true w = w
members_decide a b false w = λ v. false≢true (sym w.3 ∙ v w.0 w.2)

-- Sets of strings that are what attribute gaps can take, compared as these.
pub values_decide : (F G : ℕ → Bool) (a b : Values) → ((t : ℕ) → F t ≡ holds_value a t) → ((t : ℕ) → G t ≡ holds_value b t) → (r : Bool) → ValuesWithin a b r → Decides r (Within F G)
values_decide F G a b e f true w = λ t h. f t ∙ w t (sym (e t) ∙ h)
values_decide F G a b e f false w = λ v. false≢true (sym w.2 ∙ (sym (f w.0) ∙ v w.0 (e w.0 ∙ w.1)))
