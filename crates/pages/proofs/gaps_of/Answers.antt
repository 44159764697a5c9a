use mathlib.Core.Path.{refl}
use native.Mathlib.Omega.{arith}
use Rattle.pages.proofs.Gathering.{tabled_begin, tabled_go}
use Rattle.pages.proofs.gaps_of.Goals as goal

pub loop-t-init : goal.loop-t-init
loop-t-init c φs st e = tabled_begin φs _ refl refl

pub returns-then-templates-t : goal.returns-then-templates-t
returns-then-templates-t c φs st e t l f = (c.loop-t.invariant φs st e).below t (omega arith) (omega arith)

pub loop-t-preserved : goal.loop-t-preserved
loop-t-preserved c φs st e = let a = c.args in
    tabled_go a.s.now φs a.templates.now.starts c.loop-t.t c.gaps_at.result c.loop-t.table st c.loop-t-test.true (omega arith) (rw c.new.ensures at c.gaps_at.ensures) (c.loop-t.invariant φs st e)

pub returns : goal.returns
returns c φs st e t l f = (c.loop-t.invariant φs st e).below t (omega arith) (omega arith)
