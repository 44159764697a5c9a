-- The formulas inside a formula are shorter; each form goes by its law.
use Prim.Native.Nat.{◌-◌}
use lib.ListN.{length}
use Rattle.clauses.proofs.+true_patterns.Given as goal

abbrev pub decreases-true_patterns : goal.decreases-true_patterns
decreases-true_patterns l = length l.s.now - l.here.at
