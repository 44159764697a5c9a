-- Laws of tests.
use mathlib.Core.Path.{◌≡◌, refl, sym, ◌∙◌}
use mathlib.Core.Bool.{Bool, true, false, ◌||◌, false≢true}

module _ {P : Type 0} where
  pub by_test : (t : Bool) → (t ≡ true → P) → (t ≡ false → P) → P
  by_test true yes' no' = yes' refl
  by_test false yes' no' = no' refl

pub or_then_right : (a b : Bool) → a ≡ false → (a || b) ≡ true → b ≡ true
or_then_right true b n e = absurd (false≢true (sym n))
or_then_right false b n e = e

pub or_then_left : (a b : Bool) → b ≡ false → (a || b) ≡ true → a ≡ true
or_then_left true b n e = refl
or_then_left false b n e = sym n ∙ e
