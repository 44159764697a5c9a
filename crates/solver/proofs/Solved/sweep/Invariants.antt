-- The points of the turns before the loop's are visited.
use mathlib.Core.Path.{◌≡◌}
use lib.ListN.{length}
use Rattle.solver.specs.Inner.Work.{Visited}
use Rattle.solver.proofs.Sweeping.{Earlier}
use Rattle.solver.proofs.Solved.sweep.Given as goal

abbrev pub invariant-loop-turn : goal.invariant-loop-turn
invariant-loop-turn l = record {
  same_length : length l.work ≡ length l.initial.work;
  visited : Visited (Earlier l.upwards l.turn) l.self.s.now l.self.gaps.now l.self.points.now.places l.self.points.now.named l.initial.work l.initial.waiting l.work l.waiting;
}
