use native.Mathlib.Omega.{arith}
use borrow.Author.Tests.{eqb-true}
use Rattle.states.proofs.Same.{same_more, same_all}
use Rattle.states.proofs.same_words.Goals as goal

pub loop-i-init : goal.loop-i-init
loop-i-init c = λ e k l. absurd (omega arith)

pub loop-i-preserved : goal.loop-i-preserved
loop-i-preserved c = let args = c.args in same_more args.work.now args.a args.b c.loop-i.i c.loop-i.differences c.loop-i.invariant

pub returns : goal.returns
returns c = λ e.
    let args = c.args in
    same_all args.work.now args.a args.b args.count c.loop-i.i c.requires.0 c.requires.1 (omega arith) (c.loop-i.invariant (eqb-true _ 0 e))
