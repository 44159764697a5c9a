-- The scheme's root is the one given.
use mathlib.Core.Path.{refl}
use Rattle.schemes.specs.Inner.Schemes.{of_root}
use Rattle.schemes.proofs.root_scheme.Goals as goal

pub returns : goal.returns
returns c = of_root refl
