-- Root 0 of a template variable, string 0 of a string variable.
use Rattle.covering.proofs.Whole.{start_template, start_string}
use Rattle.covering.proofs.Compared.start_holds.Goals as goal

pub returns-then-v-lt4 : goal.returns-then-v-lt4
returns-then-v-lt4 c = λ hs entry f. start_template c.args.self.now.s.now c.args.self.now.heads.now hs entry c.args.v c.template_head.result.at c.has.result c.if-v-lt4.true c.template_head.ensures c.roots_of.result c.roots_of.ensures c.has.ensures

pub returns : goal.returns
returns c = λ hs entry f. start_string c.args.self.now.s.now c.args.self.now.heads.now hs entry c.args.v c.string_head.result.at c.values_within.result c.if-v-lt4.false f c.string_head.ensures c.strings_of-values.result c.strings_of-values.ensures c.one_value.result c.one_value.ensures c.values_within.ensures
