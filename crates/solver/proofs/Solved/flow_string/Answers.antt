-- By the way in which it is made.
use Rattle.solver.proofs.Steps.{string_flows}
use Rattle.solver.proofs.Solved.flow_string.Goals as goal

pub returns : goal.returns
returns c = string_flows _ _ _ _ _ _ c.requires.2 _ _ _ _ c.string_made.ensures c.made_values-made.ensures c.join_values.ensures
