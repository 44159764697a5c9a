-- By whether some variable waits at the point.
use Rattle.solver.proofs.Sweeping.{visited_none, visited_point}
use borrow.Author.Rules.{rules}
use Rattle.solver.proofs.Solved.visit_point.Goals as goal

pub returns-then-waiting-p-eq0 : goal.returns-then-waiting-p-eq0
returns-then-waiting-p-eq0 c = visited_none _ _ _ _ _ _ _ (λ q e. rw e c.if-waiting-p-eq0.true)

pub returns : goal.returns
returns c = visited_point _ _ _ _ _ _ _ _ _ c.if-waiting-p-eq0.false c.settle_point.ensures (search rules)
