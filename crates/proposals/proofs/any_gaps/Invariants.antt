-- The attribute gaps passed are gathered.
use Rattle.proposals.proofs.Values.{Gathered}
use Rattle.proposals.proofs.any_gaps.Given as goal

abbrev pub invariant-loop-h : goal.invariant-loop-h
invariant-loop-h l = Gathered l.graph l.n l.gaps l.h
