-- By the way.
use Rattle.solver.proofs.MadeGraphs.{value_made, template_made, plugged_made, filled_made}
use Rattle.solver.proofs.made_graph.Goals as goal

pub returns-in-Value : goal.returns-in-Value
returns-in-Value c = value_made _ c.args.gaps.now _ _ _ _ c.in-Value.is c.graph_at.ensures

pub returns-in-Template : goal.returns-in-Template
returns-in-Template c = template_made _ c.args.gaps.now _ _ _ _ c.in-Template.is c.template_graph.ensures

pub returns-in-Plugged : goal.returns-in-Plugged
returns-in-Plugged c = plugged_made _ c.args.gaps.now _ _ _ _ _ _ c.in-Plugged.is c.plugged_graph.ensures

pub returns-in-Filled : goal.returns-in-Filled
returns-in-Filled c = filled_made _ c.args.gaps.now _ _ _ _ _ _ c.in-Filled.is c.filled_graph.ensures
