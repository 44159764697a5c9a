-- One part after the other.
use Rattle.entries.proofs.PassingOn.{all_passed}
use Rattle.entries.proofs.pass.Goals as goal

pub returns : goal.returns
returns c = λ S k. all_passed S _ _ (c.pass_attribute.ensures _ (c.pass_gap.ensures _ (c.pass_roots.ensures S k)))
