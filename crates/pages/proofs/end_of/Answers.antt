-- Each arm is the case of the definition that its test picks.
use borrow.Author.Tests.{eq-eqb, ne_eqb}
use Rattle.pages.proofs.end_of.Goals as goal

pub returns-then-depth-eq0 : goal.returns-then-depth-eq0
returns-then-depth-eq0 c = rw (eq-eqb _ _ c.if-depth-eq0.true)

pub returns-else-depth-eq0 : goal.returns-else-depth-eq0
returns-else-depth-eq0 c = rw (ne_eqb _ _ c.if-depth-eq0.false)
