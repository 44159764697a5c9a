-- Each return is the definition's step for the command that was read. The bytes from the position on fall.
use Prim.Native.Nat.{◌-◌}
use lib.ListN.{length}
use Rattle.vocabularies.proofs.+read_formula.Given as goal

abbrev pub decreases-read_formula : goal.decreases-read_formula
decreases-read_formula l = length l.s.now - l.here.at
