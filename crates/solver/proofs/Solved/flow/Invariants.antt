-- The step is taken at the variables before the loop's.
use mathlib.Core.Path.{◌≡◌}
use lib.ListN.{length}
use Rattle.programs.specs.Inner.Promises.{as_act}
use Rattle.solver.specs.Inner.Work.{Flowed}
use Rattle.solver.proofs.Solved.flow.Given as goal

abbrev pub invariant-loop-v : goal.invariant-loop-v
invariant-loop-v l = record {
  same_length : length l.work ≡ length l.initial.work;
  flowed : Flowed l.v l.initial.work l.self.gaps.now l.self.points.now.named l.step.fresh (as_act l.step.act) l.step.point l.step.next l.work l.changed;
}
