-- The word of the origins of the attribute gap is emptied.
use native.Mathlib.Omega.{arith}
use Rattle.graphs.proofs.Storing.{attribute_origins_drop}
use Rattle.graphs.proofs.drop_attribute_origins.Goals as goal

pub returns : goal.returns
returns c = λ l. attribute_origins_drop _ c.args.h l _ (omega arith)
