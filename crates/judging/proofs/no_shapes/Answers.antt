-- Every row is of the end of the bytes.
use Rattle.judging.proofs.Shapes.{nothing_remembered}
use Rattle.judging.proofs.no_shapes.Goals as goal

pub returns : goal.returns
returns c = nothing_remembered _
