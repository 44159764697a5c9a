-- What a call promises of its answer (document 01, "Conditions of acceptance"): it is the one that the documents give for what is lent, and
-- they give no other. The answer of a call that judges or checks is its four numbers; that of a call that writes is also the number of
-- bytes written and what is left in memory.
use Rattle.std.specs.Prelude.{◌≡◌}

pub record TheVerdict {A : Type 0} (Given : A → Type 0) (v : A) : Type 0 where
  pub is : Given v
  pub only : (v' : A) → Given v' → v' ≡ v
