-- A template variable below 4, a string variable from 4 on.
use Rattle.solver.proofs.Flowing.{flows_template, flows_string}
use Rattle.solver.proofs.Solved.flow_variable.Goals as goal

pub returns-then-v-lt4 : goal.returns-then-v-lt4
returns-then-v-lt4 c = flows_template _ _ _ _ _ _ _ _ c.if-v-lt4.true c.flow_template.ensures

pub returns : goal.returns
returns c = flows_string _ _ _ _ _ _ _ _ c.if-v-lt4.false c.flow_string.ensures
