-- An answer that is the verdict of a job is its only one.
use Prim.Native.Nat.{ℕ}
use mathlib.Core.List.{List}
use Rattle.verdicts.specs.declared.Numbers.{Numbers}
use Rattle.verdicts.specs.TheVerdict.{TheVerdict}
use Rattle.jobs.specs.JobVerdict.{JobVerdict}
use Rattle.agreement.proofs.JobVerdicts.{unique}

pub the_verdict : (s : List ℕ) (v : Numbers) → JobVerdict s v → TheVerdict (JobVerdict s) v
the_verdict s v h = record { is = h; only = λ v' h'. unique h' h }
