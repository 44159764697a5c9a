-- The variables passed are covered.
use Prim.Native.Nat.{ℕ, ◌<◌}
use Rattle.summaries.specs.Summaries.{entries}
use Rattle.jobs.specs.Job.{Job}
use Rattle.jobs.specs.JobVerdict.{StartHolds}
use Rattle.jobs.specs.Inner.ScriptTables.{NamesAre}
use Rattle.covering.specs.Inner.Tables.{EntriesAt}
use Rattle.covering.proofs.Compared.start_uncovered.Given as goal

abbrev pub invariant-loop-v : goal.invariant-loop-v
invariant-loop-v l = (j : Job) → EntriesAt l.self.s.now l.self.heads.now j.proposal 0 → NamesAre j.script l.self.points.now.named → (u : ℕ) → u < l.v → StartHolds j.script (entries j.proposal) u
