-- An attribute flags itself, and the sets of its name that lack its string.
use Rattle.clauses.proofs.AttributeFlags.{flag_attribute, flag_content, flag_pair, flag_other, flag_value}
use Rattle.clauses.proofs.is_flagged.Goals as goal

pub returns-in-Carried : goal.returns-in-Carried
returns-in-Carried c = flag_attribute _ _ _ _ c.in-Carried.is

pub returns-in-Present : goal.returns-in-Present
returns-in-Present c = flag_content _ _ _ _ c.in-Present.is

pub returns-in-Ordered : goal.returns-in-Ordered
returns-in-Ordered c = flag_pair _ _ _ _ _ c.in-Ordered.is

pub returns-then-of-a : goal.returns-then-of-a
returns-then-of-a c = flag_value _ _ _ _ _ c.in-Valued.is _ c.if-of-a.true c.has.ensures

pub returns-else-of-a : goal.returns-else-of-a
returns-else-of-a c = flag_other _ _ _ _ _ c.in-Valued.is c.if-of-a.false
