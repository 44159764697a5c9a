-- What the attributes from here on add to these patterns is what all of them add to nothing.
use Prim.Native.Nat.{◌-◌}
use lib.ListN.{length}
use Rattle.elements.proofs.AttributeLists.{Going}
use Rattle.elements.proofs.attribute_patterns.Given as goal

abbrev pub invariant-loop-name : goal.invariant-loop-name
invariant-loop-name l = Going l.s l.facts l.scheme l.graph l.n l.initial.here.at l.initial.set l.here.at l.set l.takes

abbrev pub decreases-loop-name : goal.decreases-loop-name
decreases-loop-name l = length l.s - l.here.at
