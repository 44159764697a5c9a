-- By whether anything has changed.
use native.Mathlib.Omega.{arith}
use Rattle.solver.proofs.Points.{none_changed, some_changed}
use Rattle.solver.proofs.Solved.take_step.Goals as goal

pub returns-then-changed-eq0 : goal.returns-then-changed-eq0
returns-then-changed-eq0 c = none_changed _ _ _ _ _ _ _ _ _ _ c.flow-changed.ensures c.if-changed-eq0.true

pub returns : goal.returns
returns c = some_changed _ _ _ _ _ _ _ c.args.waiting.now _ _ c.flow-changed.ensures c.if-changed-eq0.false (omega (arith, c.flow-changed.type_inv)) (rw c.requires.2 c.requires.3) _ c.union.ensures
