-- What the words before the loop's place lack is gathered.
use Rattle.states.proofs.Gathering.{Gathered, lacks}
use Rattle.states.proofs.lies_within.Given as goal

abbrev pub invariant-loop-i : goal.invariant-loop-i
invariant-loop-i l = Gathered (lacks l.work l.from l.first) l.i l.lacking
