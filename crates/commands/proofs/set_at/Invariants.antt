-- The bytes so far are put after one another in their order.
use Rattle.commands.proofs.Spelling.{Spelling}
use Rattle.commands.proofs.set_at.Given as goal

abbrev pub invariant-loop-k : goal.invariant-loop-k
invariant-loop-k l = Spelling l.s l.i l.k l.number
