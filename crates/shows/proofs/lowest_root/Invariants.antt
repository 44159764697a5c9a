-- No template passed is such a root.
use Rattle.shows.proofs.Lowest.{NoneBelow}
use Rattle.shows.proofs.lowest_root.Given as goal

abbrev pub invariant-loop-t : goal.invariant-loop-t
invariant-loop-t l = NoneBelow l.roots l.classes l.t
