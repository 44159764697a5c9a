use native.Mathlib.Omega.{arith}
use Rattle.clauses.proofs.AttributeFlags.{named_all}
use Rattle.clauses.proofs.attributes_of.Goals as goal

pub returns : goal.returns
returns c = named_all _ _ _ (omega arith) c.loop-i.invariant
