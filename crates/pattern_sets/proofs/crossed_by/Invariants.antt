-- After each turn the image has one pair more.
use Prim.Native.Nat.{◌≤◌}
use Rattle.pattern_sets.specs.Inner.Images.{Image, crossed_by, Apart}
use Rattle.pattern_sets.proofs.crossed_by.Given as goal

abbrev pub invariant-loop-i : goal.invariant-loop-i
invariant-loop-i l = (l.i ≤ 8) × (Apart l.x l.firsts l.seconds → Image (crossed_by l.i l.x l.firsts l.seconds) l.initial.image l.image)
