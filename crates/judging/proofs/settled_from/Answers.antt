-- What is known of a shape is told of that shape alone, for its own rule.
use native.Mathlib.Omega.{arith}
use Rattle.judging.proofs.Shapes.{end_settled}
use Rattle.judging.proofs.settled_from.Goals as goal

pub returns : goal.returns
returns c = end_settled _ _ _ (omega arith)
