-- The attributes before the loop's are passed; the names of those that some string reaches are in the set.
use Prim.Native.Nat.{◌-◌}
use lib.ListN.{length}
use Rattle.pages.proofs.Gathering.{Onto}
use Rattle.reach.proofs.Carrying.{CarryFrom}
use Rattle.reach.proofs.carriable_names.Given as goal

abbrev pub invariant-loop-name : goal.invariant-loop-name
invariant-loop-name l = Onto (CarryFrom l.s l.graph l.n) l.initial.here.at 0 l.here.at l.names

abbrev pub decreases-loop-name : goal.decreases-loop-name
decreases-loop-name l = length l.s - l.here.at
