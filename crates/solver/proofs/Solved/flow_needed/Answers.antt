-- By whether it is made anew.
use Rattle.solver.proofs.Flowing.{needed, needed_flows, not_needed}
use Rattle.solver.proofs.Solved.flow_needed.Goals as goal

pub returns-then-not-needed : goal.returns-then-not-needed
returns-then-not-needed c = not_needed _ _ _ _ _ _ _ _ (needed _ _ _ _ _ _ _ c.has.ensures c.made_from.ensures c.if-not-needed.true)

pub returns : goal.returns
returns c = needed_flows _ _ _ _ _ _ _ _ _ _ (needed _ _ _ _ _ _ _ c.has.ensures c.made_from.ensures c.if-not-needed.false) c.flow_variable.ensures
