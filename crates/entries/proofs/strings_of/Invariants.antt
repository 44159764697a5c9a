-- What the items passed say is gathered.
use Prim.Native.Nat.{◌-◌}
use lib.ListN.{length}
use Rattle.commands.specs.declared.Context.TheVariants.{StringHoldings}
use Rattle.entries.proofs.Walks.{Walked}
use Rattle.entries.proofs.Gathering.{StringsGathered}
use Rattle.entries.proofs.strings_of.Given as goal

abbrev pub invariant-loop-item : goal.invariant-loop-item
invariant-loop-item l = Walked StringHoldings l.s l.initial.at.at l.at.at (StringsGathered l.found)

abbrev pub decreases-loop-item : goal.decreases-loop-item
decreases-loop-item l = length l.s - l.at.at
