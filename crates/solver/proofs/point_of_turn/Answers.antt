-- By whether the sweep goes upwards.
use Rattle.solver.proofs.point_of_turn.Goals as goal

pub returns : goal.returns
returns c = rw c.if-upwards.false
