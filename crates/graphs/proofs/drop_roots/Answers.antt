-- The word of the roots is emptied.
use Rattle.graphs.proofs.Storing.{roots_drop}
use Rattle.graphs.proofs.drop_roots.Goals as goal

pub returns : goal.returns
returns c = roots_drop _
