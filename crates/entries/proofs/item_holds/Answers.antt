-- Each item by its sort.
use Rattle.entries.proofs.Held.{as_item, edge_held, string_held, any_held}
use Rattle.entries.proofs.item_holds.Goals as goal

pub returns-in-Edge : goal.returns-in-Edge
returns-in-Edge c = as_item c.args.graph.now c.args.how _ _ c.in-Edge.is c.edge_holds.result (edge_held c.args.graph.now c.args.how _ _ _ c.edges.ensures _ c.edge_holds.result c.edge_holds.ensures)

pub returns-in-String : goal.returns-in-String
returns-in-String c = as_item c.args.graph.now c.args.how _ _ c.in-String.is c.string_holds.result (string_held c.args.graph.now c.args.how _ _ c.strings_at.result c.strings_at.ensures _ c.string_holds.result c.string_holds.ensures)

pub returns-in-AnyString : goal.returns-in-AnyString
returns-in-AnyString c = as_item c.args.graph.now c.args.how _ _ c.in-AnyString.is c.values_within.result (any_held c.args.graph.now c.args.how _ _ c.strings_at-values.result c.strings_at-values.ensures c.any_value-any.result c.any_value-any.ensures c.values_within.result c.values_within.ensures)
