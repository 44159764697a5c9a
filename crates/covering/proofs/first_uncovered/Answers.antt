-- The start is compared before the steps.
use lib.Dec.{lit<}
use native.Mathlib.Omega.{arith}
use Rattle.std.proofs.lemmas.Result.{err_from_is_err_and}
use Rattle.summaries.specs.Summaries.{entries}
use Rattle.covering.proofs.Whole.{start_refused, start_then}
use Rattle.covering.proofs.first_uncovered.Goals as goal

pub returns-in_err-start_uncovered : goal.returns-in_err-start_uncovered
returns-in_err-start_uncovered c = λ j count starts T G.
    let p = err_from_is_err_and c.from_residual.result c.from_residual.ensures.1 in
    rw (p.1, p.2) (start_refused j.script (entries j.proposal) _ (c.in_err-start_uncovered.ensures j (T.entry 0 (lit< tt)) T.of_script.names_are))

pub returns : goal.returns
returns c = λ j count starts T G.
    start_then j.script (entries j.proposal) 8 (c.in_ok-start_uncovered.ensures j (T.entry 0 (lit< tt)) T.of_script.names_are) (omega arith) c.steps_uncovered.result (c.steps_uncovered.ensures.covers j count starts T G)
