-- The points passed are covered.
use Prim.Native.Nat.{ℕ}
use mathlib.Core.List.{List}
use Rattle.summaries.specs.Summaries.{entries}
use Rattle.jobs.specs.Job.{Job}
use Rattle.graphs.specs.Inner.Graphs.{Keeps, nothing}
use Rattle.pages.specs.Inner.Gaps.{GapsTable}
use Rattle.covering.specs.Inner.Tables.{Tables}
use Rattle.covering.proofs.Whole.{Below}
use Rattle.covering.proofs.Compared.steps_uncovered.Given as goal

abbrev pub invariant-loop-p : goal.invariant-loop-p
invariant-loop-p l = record {
  covered : (j : Job) (count : ℕ) (starts : List ℕ) → Tables j l.self.s.now count starts l.self.points.now.count l.self.points.now.places l.self.points.now.named l.self.heads.now → GapsTable l.self.gaps.now j.script.templates → Below j.script (entries j.proposal) l.p;
  empty : Keeps l.graph nothing;
}
