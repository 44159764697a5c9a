use native.Mathlib.Omega.{arith}
use Rattle.reach.proofs.Filling.{filled_more}
use Rattle.reach.proofs.Bringing.{brings_all}
use Rattle.reach.proofs.brings_of.Goals as goal

pub loop-g-preserved : goal.loop-g-preserved
loop-g-preserved c = let low = c.loop-g-test.true in
    filled_more _ 8 c.loop-g.g c.loop-g.brings c.loop-g.invariant c.union_of.result (omega arith) (c.edges.result, c.edges.ensures c.requires low, c.union_of.ensures)

pub returns : goal.returns
returns c = brings_all _ _ _ c.requires _ _ c.loop-g-test.false c.loop-g.invariant
