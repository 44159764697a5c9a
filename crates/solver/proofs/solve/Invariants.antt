-- The start is put, then the points are swept until no variable waits.
use mathlib.Core.Path.{◌≡◌}
use lib.ListN.{length}
use Rattle.solver.specs.Inner.Work.{Working}
use Rattle.solver.proofs.Solving.{measure}
use Rattle.solver.proofs.solve.Given as goal

abbrev pub invariant-loop-script : goal.invariant-loop-script
invariant-loop-script l = record {
  same_length : length l.work ≡ length l.initial.work;
  sets : length l.waiting ≡ 32;
  working : Working l.s l.gaps l.points.count l.points.places l.points.named l.work l.waiting;
}

abbrev pub decreases-loop-script : goal.decreases-loop-script
decreases-loop-script l = measure l.work l.waiting
