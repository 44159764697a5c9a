-- By the way.
use Rattle.solver.proofs.MadeGraphs.{string_value_made, one_made, any_made}
use Rattle.solver.proofs.made_values.Goals as goal

pub returns-in-Value : goal.returns-in-Value
returns-in-Value c = string_value_made _ _ _ _ _ c.in-Value.is c.values_at.ensures

pub returns-in-One : goal.returns-in-One
returns-in-One c = one_made c.args.work.now _ _ c.one_value.result _ c.in-One.is c.one_value.ensures

pub returns-in-Any : goal.returns-in-Any
returns-in-Any c = any_made c.args.work.now _ _ c.any_value.result c.in-Any.is c.any_value.ensures
