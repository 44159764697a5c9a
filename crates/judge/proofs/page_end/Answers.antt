-- By the byte there.
use native.Mathlib.Omega.{arith}
use Rattle.commands.proofs.Laws.{past_over, past_other}
use borrow.Author.Tests.{eq-eqb, ne_eqb}
use Rattle.judge.proofs.page_end.Goals as goal

pub returns-in_default : goal.returns-in_default
returns-in_default c = rw (c.not_root.ensures, ne_eqb _ 0x27 (past_other _ _ _ _ c.past.ensures c.in_default.is (λ q. omega (arith, q))))

pub returns : goal.returns
returns c = rw (eq-eqb _ 0x27 (past_over _ _ _ _ _ c.past.ensures c.in-Some.is).1)
