-- A variable that no statement names is not looked at.
use mathlib.Core.Path.{ap, ◌∙◌}
use mathlib.Core.Bool.{true, not}
use Rattle.covering.proofs.Steps.{not_named, named_decides}
use Rattle.covering.proofs.Compared.named_start_holds.Goals as goal

pub returns-then-not-has : goal.returns-then-not-has
returns-then-not-has c = λ j entry names_are. not_named _ true _ c.has.result (c.has.ensures ∙ names_are c.args.v c.requires) (ap not c.if-not-has.true)

pub returns : goal.returns
returns c = λ j entry names_are. named_decides _ c.start_holds.result _ c.has.result (c.has.ensures ∙ names_are c.args.v c.requires) (ap not c.if-not-has.false) (c.start_holds.ensures j.proposal entry c.requires)
