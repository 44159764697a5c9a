use Rattle.reach.proofs.Unions.{united_past}
use Rattle.reach.proofs.union_of.Goals as goal

pub returns-in_default-get : goal.returns-in_default-get
returns-in_default-get c = united_past _ _ _ c.in-Some.i _ c.in_default-get.ensures.lookup.3 (rw c.in-Some.is at c.loop-next.invariant)
