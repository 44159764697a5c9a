-- The word of the origins of the gap is emptied.
use native.Mathlib.Omega.{arith}
use Rattle.graphs.proofs.Storing.{origins_drop}
use Rattle.graphs.proofs.drop_origins.Goals as goal

pub returns : goal.returns
returns c = λ l. origins_drop _ c.args.g l _ (omega arith)
