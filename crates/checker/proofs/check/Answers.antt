-- The answer as a verdict. A slice lent as `&` stays as it is.
use mathlib.Core.Path.{refl}
use Rattle.soundness.proofs.Guarantee.{guarantee}
use Rattle.verdicts.specs.Printed.{numbers_of}
use Rattle.jobs.specs.JobVerdict.{JobVerdict}
use Rattle.checker.proofs.Whole.{the_verdict}
use Rattle.checker.proofs.check.Goals as goal

pub returns : goal.returns
returns c =
    let found : JobVerdict c.args.job.now (numbers_of c.verdict_of.result) = rw c.verdict_of.ensures c.check_job.ensures in
    record {
      verdict = the_verdict _ _ found;
      untouched = refl;
      shows_only_right_pages = guarantee _ _ found;
    }
