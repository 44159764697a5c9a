-- Only the set of a fact about the attribute tells strings apart.
use Rattle.clauses.proofs.AttributeFlags.{apart_other, apart_own}
use Rattle.clauses.proofs.told_apart.Goals as goal

pub returns-then-of-a : goal.returns-then-of-a
returns-then-of-a c = apart_other _ _ _ _ _ c.in-Valued.is c.if-of-a.true

pub returns-else-of-a : goal.returns-else-of-a
returns-else-of-a c = apart_own _ _ _ _ c.in-Valued.is
