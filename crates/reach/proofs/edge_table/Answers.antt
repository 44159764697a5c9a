use mathlib.Core.Path.{◌∙◌}
use mathlib.Core.Logic.{inl, inr}
use native.Mathlib.Omega.{arith}
use Rattle.reach.proofs.Filling.{filled_zeros, filled_more}
use Rattle.reach.proofs.Edges.{edges_all}
use Rattle.reach.proofs.edge_table.Goals as goal

pub loop-n-init : goal.loop-n-init
loop-n-init c = (omega arith, λ G keeps. filled_zeros _ 32 0 (λ i h. absurd (omega arith)))

pub returns-then-count-n : goal.returns-then-count-n
returns-then-count-n c = λ G keeps. edges_all G _ _ _ _ _ (inl c.if-count-n.true) c.loop-n.invariant.0 (c.loop-n.invariant.1 G keeps)

pub loop-n-preserved : goal.loop-n-preserved
loop-n-preserved c = (
  omega arith,
  λ G keeps. filled_more _ 32 c.loop-n.n c.loop-n.table (c.loop-n.invariant.1 G keeps) c.common.result (omega arith)
      (λ m. c.common.ensures m ∙ rw (c.edges_of.ensures G keeps m)),
)

pub returns : goal.returns
returns c = λ G keeps. edges_all G _ _ _ _ _ (inr c.loop-n-test.false) c.loop-n.invariant.0 (c.loop-n.invariant.1 G keeps)
