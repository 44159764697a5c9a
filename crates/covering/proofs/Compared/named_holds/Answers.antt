-- A variable that no statement names is not looked at.
use mathlib.Core.Path.{ap, ◌∙◌}
use mathlib.Core.Bool.{true, not}
use Rattle.covering.proofs.Steps.{not_named, named_decides}
use Rattle.covering.proofs.Compared.named_holds.Goals as goal

pub returns-then-not-has : goal.returns-then-not-has
returns-then-not-has c = let pre = c.requires in
    record {
      decides = λ j S names_are. not_named _ true _ c.has.result (c.has.ensures ∙ names_are c.args.v pre.v_bound) (ap not c.if-not-has.true);
      empty = pre.keeps;
    }

pub returns : goal.returns
returns c = let pre = c.requires in
    record {
      decides = λ j S names_are.
          named_decides _ c.variable_holds.result _ c.has.result (c.has.ensures ∙ names_are c.args.v pre.v_bound) (ap not c.if-not-has.false) (c.variable_holds.ensures.decides j S);
      empty = c.variable_holds.ensures.empty;
    }
