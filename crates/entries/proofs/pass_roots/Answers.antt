-- They stay, or none does.
use Rattle.entries.proofs.PassingOn.{roots_pass, roots_stay_out}
use Rattle.entries.proofs.pass_roots.Goals as goal

pub returns-then-not-roots : goal.returns-then-not-roots
returns-then-not-roots c = λ S k. roots_stay_out S _ _ c.if-not-roots.true (c.drop_roots.ensures S k)

pub returns-else-not-roots : goal.returns-else-not-roots
returns-else-not-roots c = λ S k. roots_pass S _ _ c.if-not-roots.false k
