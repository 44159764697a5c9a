-- Variables 0 to 3 are the template variables, 4 to 7 the string variables.
use native.Mathlib.Omega.{arith}
use Rattle.programs.specs.Inner.Promises.{as_act}
use Rattle.summaries.specs.Summaries.{entries}
use Rattle.covering.proofs.Steps.{variable_template, variable_string}
use Rattle.covering.proofs.Compared.variable_holds.Goals as goal

pub returns-then-v-lt4 : goal.returns-then-v-lt4
returns-then-v-lt4 c = let args = c.args in
    let step = args.step in
    let low = c.if-v-lt4.true in record {
      decides = λ j S.
          variable_template j.script.templates (as_act step.act) (entries j.proposal step.point) (entries j.proposal step.next) args.v c.template_holds.result low (c.template_holds.ensures.decides j S low);
      empty = c.template_holds.ensures.empty;
    }

pub returns : goal.returns
returns c = let args = c.args in
    let pre = c.requires in
    let step = args.step in record {
      decides = λ j S.
          variable_string j.script.templates (as_act step.act) (entries j.proposal step.point) (entries j.proposal step.next) args.v c.string_holds.result c.if-v-lt4.false (c.string_holds.ensures j args.self.now.gaps.now S (omega (arith, pre.v_bound)));
      empty = pre.keeps;
    }
