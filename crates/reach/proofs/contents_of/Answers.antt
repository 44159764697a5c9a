use native.Mathlib.Omega.{arith}
use Rattle.reach.proofs.Filling.{filled_zeros}
use Rattle.reach.proofs.Leading.{contents_same}
use Rattle.reach.proofs.contents_of.Goals as goal

pub loop-n-init : goal.loop-n-init
loop-n-init c = filled_zeros _ 32 0 (λ i h. absurd (omega arith))

pub returns-then-count-n : goal.returns-then-count-n
returns-then-count-n c = λ φs G kept outlines exact C is n k h.
    let a = c.args in
    contents_same φs G a.graph.now a.contents.now a.gaps.now a.count a.yields kept outlines exact c.edge_table-targets.result
    (c.edge_table-targets.ensures G kept.keeps) c.loop-n.table (λ i l. c.loop-n.invariant.below i (omega arith)) C is n k h

pub returns : goal.returns
returns c = λ φs G kept outlines exact C is n k h.
    let a = c.args in
    let few = kept.few in
    contents_same φs G a.graph.now a.contents.now a.gaps.now a.count a.yields kept outlines exact c.edge_table-targets.result
    (c.edge_table-targets.ensures G kept.keeps) c.loop-n.table (λ i l. c.loop-n.invariant.below i (omega arith)) C is n k h
