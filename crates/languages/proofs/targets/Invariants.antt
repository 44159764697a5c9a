-- The gaps before the loop's are passed.
use Rattle.languages.proofs.RoundLaws.{TargetsTo}
use Rattle.languages.proofs.targets.Given as goal

abbrev pub invariant-loop-g : goal.invariant-loop-g
invariant-loop-g l = TargetsTo l.graph l.n l.all l.g
