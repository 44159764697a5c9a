-- The members of the words before the loop's place are gathered.
use Rattle.states.proofs.Gathering.{Gathered, held}
use Rattle.states.proofs.is_blank.Given as goal

abbrev pub invariant-loop-word : goal.invariant-loop-word
invariant-loop-word l = Gathered (held l.work l.first) l.word-index l.all
