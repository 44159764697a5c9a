use native.Mathlib.Omega.{arith}
use Rattle.graphs.specs.Inner.Graphs.{holds}
use Rattle.proposals.specs.Inner.Bytes.{firsts, row_bytes, sort_bytes}
use Rattle.proposals.proofs.Each.{counting_starts, counting_fits, counting_goes, counting_ends}
use Rattle.proposals.proofs.Sorts.{sort_most}
use Rattle.proposals.proofs.Listing.sort_length.Goals as goal

pub loop-a-init : goal.loop-a-init
loop-a-init c = let args = c.args in counting_starts (row_bytes args.self.now.templates (holds args.self.now.graph.now) args.sort)

pub overflow_add-total : goal.overflow_add-total
unfolding sort_bytes
overflow_add-total c = let args = c.args in
    let n = c.firsts-count.ensures in
    omega (arith, counting_fits (row_bytes args.self.now.templates (holds args.self.now.graph.now) args.sort) (firsts args.self.now.templates args.sort) _ _ _ (omega (arith, n)) c.loop-a.invariant c.row_length-total.ensures, sort_most args.self.now.templates args.self.now.few (holds args.self.now.graph.now) args.sort)

pub loop-a-preserved : goal.loop-a-preserved
loop-a-preserved c = let args = c.args in counting_goes (row_bytes args.self.now.templates (holds args.self.now.graph.now) args.sort) _ _ _ c.loop-a.invariant c.row_length-total.ensures

pub returns : goal.returns
unfolding sort_bytes
returns c = let args = c.args in
    let n = c.firsts-count.ensures in
    counting_ends (row_bytes args.self.now.templates (holds args.self.now.graph.now) args.sort) (firsts args.self.now.templates args.sort) c.loop-a.a _ (omega (arith, n)) (omega (arith, n)) c.loop-a.invariant
