-- The outcome told as five numbers.
use mathlib.Core.Path.{refl}
use Rattle.exports.proofs.Calls.{inferred}
use Rattle.exports.proofs.page_check_infer.Goals as goal

pub returns : goal.returns
returns c = let inferred_so = c.infer-inferred.ensures in
    record { answer = inferred _ _ _ _ c.infer-inferred.result _ _ inferred_so.answer inferred_so.accepted_if_any _ c.verdict_of.ensures _ c.numbers_of-verdict.ensures _ c.bytes_written.ensures; untouched = refl }
