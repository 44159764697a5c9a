-- Items that passed change nothing for those that are left.
use Prim.Native.Nat.{◌-◌}
use lib.ListN.{length}
use Rattle.commands.specs.declared.Context.TheVariants.{TemplateHoldings}
use Rattle.summaries.specs.Summaries.{Summary}
use Rattle.graphs.specs.Inner.Graphs.{Keeps}
use Rattle.entries.proofs.Walks.{Walked}
use Rattle.entries.proofs.Gathering.{SamePass}
use Rattle.entries.proofs.items_hold.Given as goal

abbrev pub invariant-loop-item : goal.invariant-loop-item
invariant-loop-item l = (R : Summary) → Keeps l.graph R → Walked TemplateHoldings l.s l.initial.at.at l.at.at (SamePass l.how R)

abbrev pub decreases-loop-item : goal.decreases-loop-item
decreases-loop-item l = length l.s - l.at.at
