use native.Mathlib.Omega.{arith}
use Rattle.reach.proofs.Closing.{round_between, round_grows}
use Rattle.reach.proofs.closure.Goals as goal

pub loop-all-smaller : goal.loop-all-smaller
loop-all-smaller c = round_grows _ _ _ _ c.union_of-more.ensures c.loop-all.invariant.0 (omega (arith, c.union_of-more.type_inv)) c.if-more-all.false

pub loop-all-preserved : goal.loop-all-preserved
loop-all-preserved c = (omega (arith, c.union_of-more.type_inv), round_between _ _ _ _ c.union_of-more.ensures _ c.loop-all.invariant.1 _ c.without-fresh.ensures)
