-- The variables passed are covered.
use Prim.Native.Nat.{ℕ, ◌<◌}
use Rattle.programs.specs.Inner.Promises.{as_act}
use Rattle.summaries.specs.ProposalReading.{variable_of}
use Rattle.summaries.specs.Summaries.{entries}
use Rattle.summaries.specs.Covering.{StepCovered}
use Rattle.jobs.specs.Job.{Job}
use Rattle.graphs.specs.Inner.Graphs.{Keeps, nothing}
use Rattle.jobs.specs.Inner.ScriptTables.{NamesAre}
use Rattle.covering.specs.Inner.Tables.{StepAt}
use Rattle.covering.proofs.Compared.step_uncovered.Given as goal

abbrev pub invariant-loop-v : goal.invariant-loop-v
invariant-loop-v l = record {
  covered : (j : Job) → StepAt j l.self.s.now l.self.gaps.now l.self.heads.now l.step.point l.step.next (as_act l.step.act) → NamesAre j.script l.self.points.now.named → (u : ℕ) → u < l.v → StepCovered j.script.templates j.script.program (entries j.proposal) l.step.point (as_act l.step.act) l.step.next (variable_of u);
  empty : Keeps l.graph nothing;
}
