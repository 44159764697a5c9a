-- The empty template is a root, string 0 a string.
use Rattle.solver.proofs.Starting.{template_starts, string_starts}
use Rattle.solver.proofs.start_variable.Goals as goal

pub returns-then-v-lt4 : goal.returns-then-v-lt4
returns-then-v-lt4 c = template_starts _ _ _ c.requires.1 _ c.if-v-lt4.true _ c.template_graph-empty.ensures c.join_graph.ensures

pub returns : goal.returns
returns c = string_starts _ _ _ c.requires.1 _ c.if-v-lt4.false c.one_value.result c.one_value.ensures c.join_values.ensures
