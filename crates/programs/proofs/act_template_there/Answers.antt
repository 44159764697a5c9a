-- `31` and `39` name a template.
use mathlib.Core.Logic.{inl, inr}
use Rattle.programs.proofs.act_template_there.Goals as goal

pub returns-in-SetTemplate : goal.returns-in-SetTemplate
returns-in-SetTemplate c = elim c.in-SetTemplate.is [ inl (x, e) ↦ rw e | inr (x, g, e) ↦ rw e ]
