-- The first statement is told by the number before it.
use borrow.Author.Tests.{eq-eqb, ne_eqb}
use Rattle.programs.proofs.statement_context.Goals as goal

pub returns-then-before-eq0 : goal.returns-then-before-eq0
returns-then-before-eq0 c = rw (eq-eqb _ _ c.if-before-eq0.true)

pub returns : goal.returns
returns c = rw (ne_eqb _ _ c.if-before-eq0.false)
