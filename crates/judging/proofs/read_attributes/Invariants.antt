-- The attributes from here on add to these tables what all of them add to empty ones.
use Prim.Native.Nat.{◌-◌}
use lib.ListN.{length}
use Rattle.judging.proofs.AttributeLaws.{Going}
use Rattle.judging.proofs.read_attributes.Given as goal

abbrev pub invariant-loop-name : goal.invariant-loop-name
invariant-loop-name l = Going l.p l.initial.strings l.initial.place.at l.strings l.place.at l.names

abbrev pub decreases-loop-name : goal.decreases-loop-name
decreases-loop-name l = length l.p - l.place.at
