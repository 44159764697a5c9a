-- After each turn the image has one flag of x more.
use Prim.Native.Nat.{◌≤◌}
use Rattle.pattern_sets.specs.Inner.Images.{Image, raised_by}
use Rattle.pattern_sets.proofs.raised_by.Given as goal

abbrev pub invariant-loop-i : goal.invariant-loop-i
invariant-loop-i l = (l.i ≤ 8) × Image (raised_by l.i l.x) l.initial.image l.image
