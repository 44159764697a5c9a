use mathlib.Core.Path.{◌≡◌}
use native.Mathlib.Omega.{arith}
use borrow.Author.Tests.{eqb-true}
use Rattle.states.proofs.Gathering.{gathers, words_within}
use Rattle.states.proofs.lies_within.Goals as goal

pub loop-i-preserved : goal.loop-i-preserved
loop-i-preserved c = gathers _ c.loop-i.i c.loop-i.lacking c.without.result _ c.loop-i.invariant c.without.ensures c.union-lacking.ensures

pub returns : goal.returns
returns c = λ e.
    let args = c.args in
    let whole_row : c.loop-i.i ≡ 544 = omega arith in
    words_within args.work.now args.from args.first c.loop-i.lacking (rw whole_row at c.loop-i.invariant) (eqb-true _ 0 e)
