use native.Mathlib.Omega.{arith}
use Rattle.graphs.specs.Inner.Graphs.{holds}
use Rattle.proposals.specs.Inner.Bytes.{firsts, row_bytes, sort_bytes}
use Rattle.proposals.proofs.Each.{writing_starts, writing_fits, writing_goes, writing_ends}
use Rattle.proposals.proofs.Listing.put_sort.Goals as goal

pub loop-a-init : goal.loop-a-init
loop-a-init c = let args = c.args in writing_starts (row_bytes args.self.now.templates (holds args.self.now.graph.now) args.sort) _ _

pub put_row-n-requires : goal.put_row-n-requires
unfolding sort_bytes
put_row-n-requires c = let args = c.args in
    let e = c.firsts-count.ensures in
    (writing_fits (row_bytes args.self.now.templates (holds args.self.now.graph.now) args.sort) _ _ (firsts args.self.now.templates args.sort) c.loop-a.a c.loop-a.n c.loop-a.out (omega (arith, e)) c.requires c.loop-a.invariant, omega (arith, e))

pub loop-a-preserved : goal.loop-a-preserved
loop-a-preserved c = let args = c.args in writing_goes (row_bytes args.self.now.templates (holds args.self.now.graph.now) args.sort) _ _ _ _ _ _ _ c.loop-a.invariant c.put_row-n.ensures

pub returns : goal.returns
unfolding sort_bytes
returns c = let args = c.args in
    let e = c.firsts-count.ensures in
    writing_ends (row_bytes args.self.now.templates (holds args.self.now.graph.now) args.sort) _ _ (firsts args.self.now.templates args.sort) c.loop-a.a _ _ (omega (arith, e)) (omega (arith, e)) c.loop-a.invariant
