-- The shifted word's lowest bit is the definition's.
use mathlib.Core.Path.{refl}
use Rattle.sets.specs.Sets.{member}
use Rattle.sets.proofs.has.Goals as goal

pub returns : goal.returns
unfolding member
returns c = refl
