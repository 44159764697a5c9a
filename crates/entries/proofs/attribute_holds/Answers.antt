-- By whether it is the attribute gap that is filled.
use mathlib.Core.Path.{◌≡◌}
use mathlib.Core.Bool.{false}
use Rattle.entries.specs.Inner.Passing.{fills}
use Rattle.entries.proofs.Held.{attribute_held, filled_held, fills_none, fills_other}
use Rattle.entries.proofs.attribute_holds.Goals.{in_default-via-in-Some+else-h-fill, in_default-via-in_default}
use Rattle.entries.proofs.attribute_holds.Goals as goal

pub returns-in-Some : goal.returns-in-Some
returns-in-Some c = filled_held c.args.graph.now c.args.how _ _ c.strings_at.result c.strings_at.ensures _ c.in-Some.is c.if-h-fill.true c.values_within.result c.values_within.ensures

pub returns-in_default : goal.returns-in_default
returns-in_default c =
    let other : fills c.args.how.fill c.args.h ≡ false = elim c.in_default.branch [
      | in_default-via-in-Some+else-h-fill w ↦ fills_other _ _ _ w.in-Some.is w.if-h-fill.false
      | in_default-via-in_default w ↦ fills_none _ w.in_default.not-Some _
    ] in
    attribute_held c.args.graph.now c.args.how _ _ _ c.is_member.result other c.attribute_origins.ensures c.is_member.ensures
