-- Each round that adds something has a larger number.
use Prim.Native.Nat.{◌-◌, ◌^◌, ◌<◌}
use Rattle.reach.proofs.Closing.{Between}
use Rattle.reach.proofs.closure.Given as goal

abbrev pub invariant-loop-all : goal.invariant-loop-all
invariant-loop-all l = (l.all < 2 ^ 64) × Between l.set l.table l.all l.fresh

abbrev pub decreases-loop-all : goal.decreases-loop-all
decreases-loop-all l = 2 ^ 64 - l.all
