-- The judgement as a verdict. A slice lent as `&` stays as it is.
use mathlib.Core.Path.{◌∙◌}
use Rattle.judge.proofs.PageLaws.{the_verdict}
use Rattle.judge.proofs.judge.Goals as goal

pub returns-clause-verdict : goal.returns-clause-verdict
returns-clause-verdict c = the_verdict _ _ _ (c.verdict_of.ensures ∙ c.judge_slices.ensures)
