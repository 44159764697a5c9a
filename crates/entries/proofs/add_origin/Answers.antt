-- The claim is added, if the template has the gap.
use mathlib.Core.Path.{sym, ◌∙◌}
use native.Mathlib.Omega.{arith}
use Rattle.entries.proofs.Templates.{origin_of_gap, origin_of_attribute}
use Rattle.entries.proofs.add_origin.Goals as goal

pub returns-then-k-lt8 : goal.returns-then-k-lt8
returns-then-k-lt8 c = λ f R k. origin_of_gap _ _ _ R _ (sym c.has.ensures ∙ c.if-not-has.false) c.if-k-lt8.true (c.add.ensures (c.if-k-lt8.true, f) R k)

pub returns : goal.returns
returns c = λ f R k. origin_of_attribute _ _ _ R _ (sym c.has.ensures ∙ c.if-not-has.false) c.if-k-lt8.false (c.add-2.ensures (omega arith, f) R k)
