-- The first bytes are copied; those that are still to be read lie below all that is written.
use Rattle.memory.proofs.Laid.{Copied}
use Rattle.memory.proofs.copy.Given as goal

abbrev pub invariant-loop-i : goal.invariant-loop-i
invariant-loop-i l = Copied l.initial.out l.from l.at l.count l.i l.out
