-- The sets before the loop's are compared.
use Rattle.languages.proofs.Settling.{GrownTo}
use Rattle.languages.proofs.grown.Given as goal

abbrev pub invariant-loop-n : goal.invariant-loop-n
invariant-loop-n l = GrownTo l.count l.before l.after l.more l.n
