-- By whether it is the gap that is plugged.
use mathlib.Core.Path.{◌≡◌}
use mathlib.Core.Bool.{false}
use Rattle.entries.specs.Inner.Passing.{plugs}
use Rattle.entries.proofs.Held.{gap_held, plugged_held, plugs_none, plugs_other}
use Rattle.entries.proofs.gap_holds.Goals.{in_default-via-in-Some+else-g-plug, in_default-via-in_default}
use Rattle.entries.proofs.gap_holds.Goals as goal

pub returns-in-Some : goal.returns-in-Some
returns-in-Some c = plugged_held c.args.graph.now c.args.how _ _ _ c.edges.ensures _ c.in-Some.is c.if-g-plug.true c.is_within.result c.is_within.ensures

pub returns-in_default : goal.returns-in_default
returns-in_default c =
    let other : plugs c.args.how.plug c.args.g ≡ false = elim c.in_default.branch [
      | in_default-via-in-Some+else-g-plug w ↦ plugs_other _ _ _ w.in-Some.is w.if-g-plug.false
      | in_default-via-in_default w ↦ plugs_none _ w.in_default.not-Some _
    ] in
    gap_held c.args.graph.now c.args.how _ _ _ c.is_member.result other c.origins.ensures c.is_member.ensures
