-- The four numbers of the verdict. A slice lent as `&` stays as it is.
use mathlib.Core.Path.{refl}
use Rattle.exports.proofs.Calls.{judged}
use Rattle.exports.proofs.page_check_judge.Goals as goal

pub returns : goal.returns
returns c = record { verdict = judged _ _ c.judge.result c.judge.ensures.verdict _ c.numbers_of-judged.ensures; untouched = (refl, refl) }
