-- By the way in which it is made.
use Rattle.solver.proofs.Steps.{value_flows, template_flows}
use Rattle.solver.proofs.Solved.flow_template.Goals as goal

pub returns-in_default : goal.returns-in_default
returns-in_default c = template_flows _ _ _ _ _ _ c.requires.2 _ _ _ _ c.template_made-way.ensures c.made_graph-made.ensures c.join_graph.ensures

pub returns : goal.returns
returns c = value_flows _ _ _ _ _ _ c.requires.2 _ _ _ c.template_made-way.ensures _ c.in-Value.is c.join_entry.ensures
