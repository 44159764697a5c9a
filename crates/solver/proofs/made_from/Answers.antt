-- A template variable below 4, a string variable from 4 on.
use Rattle.solver.proofs.Flowing.{made_template, made_string}
use Rattle.solver.proofs.made_from.Goals as goal

pub returns-then-v-lt4 : goal.returns-then-v-lt4
returns-then-v-lt4 c = made_template _ _ _ _ _ c.if-v-lt4.true c.template_made.ensures c.made_from.ensures

pub returns : goal.returns
returns c = made_string _ _ _ _ _ c.if-v-lt4.false c.string_made.ensures c.string_made_from.ensures
