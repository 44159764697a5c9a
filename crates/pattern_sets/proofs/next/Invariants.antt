-- The patterns before the loop's place in its word are not in the set.
use Prim.Native.Nat.{◌+◌, ◌*◌, ◌<◌}
use Rattle.pattern_sets.proofs.Laws.{Passed}
use Rattle.pattern_sets.proofs.next.Given as goal

abbrev pub invariant-loop-i : goal.invariant-loop-i
invariant-loop-i l = (l.at < 64) × Passed l.set l.from (l.i * 64 + l.at)
