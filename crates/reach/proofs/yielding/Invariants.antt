-- The templates passed are in the set if they have some class.
use Rattle.reach.proofs.YieldingTemplates.{YieldingTo}
use Rattle.reach.proofs.yielding.Given as goal

abbrev pub invariant-loop-n : goal.invariant-loop-n
invariant-loop-n l = YieldingTo l.classes l.n l.yields
