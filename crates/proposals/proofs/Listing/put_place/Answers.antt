-- The members of a set that has just what is held.
use mathlib.Core.Path.{sym, ap}
use native.Mathlib.Omega.{arith}
use lib.ListN.{length}
use Rattle.graphs.specs.Inner.Graphs.{holds}
use Rattle.memory.proofs.Laid.{writes_same}
use Rattle.proposals.proofs.Sorts.{limit_few, place_is}
use Rattle.proposals.proofs.Listing.put_place.Goals as goal

pub put_members-requires : goal.put_members-requires
put_members-requires c = let pre = c.requires in
    let args = c.args in
    let e = place_is args.self.now.templates args.self.now.few (holds args.self.now.graph.now) args.sort _ _ _ c.members_of-set.ensures _ c.prefix.ensures _ c.limit.ensures in
    (omega (arith, pre.0, ap length e), omega (arith, c.limit.ensures, limit_few args.self.now.templates args.self.now.few args.sort))

pub returns : goal.returns
returns c = let args = c.args in
    let e = place_is args.self.now.templates args.self.now.few (holds args.self.now.graph.now) args.sort _ _ _ c.members_of-set.ensures _ c.prefix.ensures _ c.limit.ensures in
    writes_same _ _ _ _ _ _ (sym e) c.put_members.ensures
