use native.Mathlib.Omega.{arith}
use Rattle.graphs.specs.Inner.Graphs.{holds}
use Rattle.proposals.specs.Inner.Bytes.{seconds, place_bytes, row_bytes}
use Rattle.proposals.proofs.Each.{counting_starts, counting_fits, counting_goes, counting_ends}
use Rattle.proposals.proofs.Sorts.{row_most}
use Rattle.proposals.proofs.Listing.row_length.Goals as goal

pub loop-b-init : goal.loop-b-init
loop-b-init c = counting_starts (place_bytes c.args.self.now.templates (holds c.args.self.now.graph.now) c.args.sort c.args.a)

pub overflow_add-total : goal.overflow_add-total
unfolding row_bytes
overflow_add-total c = let args = c.args in
    let f = place_bytes args.self.now.templates (holds args.self.now.graph.now) args.sort args.a in
    let n = c.seconds-count.ensures in
    omega (arith, counting_fits f (seconds args.sort) _ _ _ (omega (arith, n)) c.loop-b.invariant c.place_length-total.ensures, row_most args.self.now.templates args.self.now.few (holds args.self.now.graph.now) args.sort args.a)

pub loop-b-preserved : goal.loop-b-preserved
loop-b-preserved c = let args = c.args in counting_goes (place_bytes args.self.now.templates (holds args.self.now.graph.now) args.sort args.a) _ _ _ c.loop-b.invariant c.place_length-total.ensures

pub returns : goal.returns
unfolding row_bytes
returns c = let args = c.args in
    let n = c.seconds-count.ensures in
    counting_ends (place_bytes args.self.now.templates (holds args.self.now.graph.now) args.sort args.a) (seconds args.sort) c.loop-b.b _ (omega (arith, n)) (omega (arith, n)) c.loop-b.invariant
