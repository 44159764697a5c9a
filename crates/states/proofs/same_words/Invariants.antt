-- Without a difference so far the words so far are the same.
use Rattle.states.proofs.Same.{SameSoFar}
use Rattle.states.proofs.same_words.Given as goal

abbrev pub invariant-loop-i : goal.invariant-loop-i
invariant-loop-i l = SameSoFar l.work l.a l.b l.i l.differences
