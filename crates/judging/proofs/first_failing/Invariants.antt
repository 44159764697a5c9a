-- After the clauses that were met, the answer for those left is the answer for all.
use Prim.Native.Nat.{◌-◌}
use lib.ListN.{length}
use Rattle.judging.specs.Inner.Promises.{table_atoms}
use Rattle.judging.proofs.Shapes.{Meeting}
use Rattle.judging.proofs.first_failing.Given as goal

abbrev pub invariant-loop-here : goal.invariant-loop-here
invariant-loop-here l = Meeting (table_atoms l.shape l.strings l.order) l.shape l.v l.initial.here.at l.here.at l.place l.settled

abbrev pub decreases-loop-here : goal.decreases-loop-here
decreases-loop-here l = length l.v - l.here.at
