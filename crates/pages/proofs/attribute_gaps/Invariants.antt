-- The gaps of the attributes passed are in the word.
use Prim.Native.Nat.{◌-◌}
use lib.ListN.{length}
use Rattle.pages.specs.Inner.Gaps.{AttributeGaps}
use Rattle.pages.proofs.Gathering.{Onto}
use Rattle.pages.proofs.attribute_gaps.Given as goal

abbrev pub invariant-loop-next : goal.invariant-loop-next
invariant-loop-next l = Onto (AttributeGaps l.s) l.initial.found.next.at l.initial.found.gaps l.found.next.at l.found.gaps

abbrev pub decreases-loop-next : goal.decreases-loop-next
decreases-loop-next l = length l.s - l.found.next.at
