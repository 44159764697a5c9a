-- The gaps passed have their contents in the table.
use Rattle.reach.proofs.Filling.{Filled}
use Rattle.reach.proofs.Bringing.{BringsAt}
use Rattle.reach.proofs.brings_of.Given as goal

abbrev pub invariant-loop-g : goal.invariant-loop-g
invariant-loop-g l = Filled (BringsAt l.graph l.within l.n) 8 l.g l.brings
