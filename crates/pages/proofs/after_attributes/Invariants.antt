-- Each attribute is passed over, up to where none stands.
use Prim.Native.Nat.{◌-◌}
use lib.ListN.{length}
use Rattle.pages.specs.Inner.Steps.{AfterAttributes}
use Rattle.pages.proofs.Walks.{Skipping}
use Rattle.pages.proofs.after_attributes.Given as goal

abbrev pub invariant-loop-next : goal.invariant-loop-next
invariant-loop-next l = Skipping l.s AfterAttributes l.initial.p.at l.p.at

abbrev pub decreases-loop-next : goal.decreases-loop-next
decreases-loop-next l = length l.s - l.p.at
