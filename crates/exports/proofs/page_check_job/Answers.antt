-- The four numbers of the verdict. A slice lent as `&` stays as it is.
use mathlib.Core.Path.{refl}
use Rattle.exports.proofs.Calls.{checked}
use Rattle.exports.proofs.page_check_job.Goals as goal

pub returns : goal.returns
returns c = record { verdict = checked _ c.check.result c.check.ensures.verdict c.check.ensures.shows_only_right_pages _ c.numbers_of-checked.ensures; untouched = refl }
