use native.Mathlib.Omega.{arith}
use Rattle.graphs.specs.Inner.Graphs.{holds}
use Rattle.proposals.specs.Inner.Bytes.{seconds, place_bytes, row_bytes}
use Rattle.proposals.proofs.Each.{writing_starts, writing_fits, writing_goes, writing_ends}
use Rattle.proposals.proofs.Listing.put_row.Goals as goal

pub loop-b-init : goal.loop-b-init
loop-b-init c = let args = c.args in writing_starts (place_bytes args.self.now.templates (holds args.self.now.graph.now) args.sort args.a) _ _

pub put_place-n-requires : goal.put_place-n-requires
unfolding row_bytes
put_place-n-requires c = let args = c.args in
    let pre = c.requires in
    let e = c.seconds-count.ensures in
    (writing_fits (place_bytes args.self.now.templates (holds args.self.now.graph.now) args.sort args.a) _ _ (seconds args.sort) c.loop-b.b c.loop-b.n c.loop-b.out (omega (arith, e)) pre.0 c.loop-b.invariant, pre.1, omega (arith, e))

pub loop-b-preserved : goal.loop-b-preserved
loop-b-preserved c = let args = c.args in writing_goes (place_bytes args.self.now.templates (holds args.self.now.graph.now) args.sort args.a) _ _ _ _ _ _ _ c.loop-b.invariant c.put_place-n.ensures

pub returns : goal.returns
unfolding row_bytes
returns c = let args = c.args in
    let e = c.seconds-count.ensures in
    writing_ends (place_bytes args.self.now.templates (holds args.self.now.graph.now) args.sort args.a) _ _ (seconds args.sort) c.loop-b.b _ _ (omega (arith, e)) (omega (arith, e)) c.loop-b.invariant
