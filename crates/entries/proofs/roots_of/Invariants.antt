-- The roots among the items passed are gathered.
use Prim.Native.Nat.{◌-◌}
use lib.ListN.{length}
use Rattle.commands.specs.declared.Context.TheVariants.{TemplateHoldings}
use Rattle.entries.proofs.Walks.{Walked}
use Rattle.entries.proofs.Gathering.{RootsGathered}
use Rattle.entries.proofs.roots_of.Given as goal

abbrev pub invariant-loop-item : goal.invariant-loop-item
invariant-loop-item l = Walked TemplateHoldings l.s l.initial.at.at l.at.at (RootsGathered l.found)

abbrev pub decreases-loop-item : goal.decreases-loop-item
decreases-loop-item l = length l.s - l.at.at
