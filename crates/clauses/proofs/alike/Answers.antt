use native.Mathlib.Omega.{arith}
use Rattle.clauses.proofs.StringSets.{alike_all}
use Rattle.clauses.proofs.alike.Goals as goal

pub returns : goal.returns
returns c = alike_all _ _ _ c.loop-i.i _ (omega arith) c.loop-i.invariant
