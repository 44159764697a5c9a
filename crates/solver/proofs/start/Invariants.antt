-- The start is put at the variables before the loop's.
use mathlib.Core.Path.{◌≡◌}
use lib.ListN.{length}
use Rattle.solver.specs.Inner.Work.{Started}
use Rattle.solver.proofs.start.Given as goal

abbrev pub invariant-loop-v : goal.invariant-loop-v
invariant-loop-v l = record {
  same_length : length l.work ≡ length l.initial.work;
  started : Started l.v l.names l.initial.work l.work;
}
