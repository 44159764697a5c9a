-- The attributes before the loop's are passed; an attribute gap that has nothing to take is remembered.
use Prim.Native.Nat.{◌-◌}
use lib.ListN.{length}
use Rattle.languages.proofs.Lists.{TakingTo}
use Rattle.languages.proofs.attributes_take.Given as goal

abbrev pub invariant-loop-next : goal.invariant-loop-next
invariant-loop-next l = TakingTo l.s l.graph l.n l.initial.here.at l.takes l.here.at

abbrev pub decreases-loop-next : goal.decreases-loop-next
decreases-loop-next l = length l.s - l.here.at
