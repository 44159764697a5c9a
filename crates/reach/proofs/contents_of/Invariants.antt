-- The templates passed have in the table what they lead to.
use Rattle.reach.specs.Inner.Promises.{LedContents}
use Rattle.reach.proofs.Filling.{Filled}
use Rattle.reach.proofs.contents_of.Given as goal

abbrev pub invariant-loop-n : goal.invariant-loop-n
invariant-loop-n l = Filled (λ i w. LedContents i l.targets l.contents l.yields w) 32 l.n l.table
