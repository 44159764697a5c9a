-- The sets are those of a round, which changed some of them, if there was one; no round before it is settled.
use Rattle.languages.proofs.Settling.{SettlingTo, left}
use Rattle.languages.proofs.settle.Given as goal

abbrev pub invariant-loop-settler : goal.invariant-loop-settler
invariant-loop-settler l = SettlingTo l.fn.r l.s l.graph l.templates.starts l.templates.count l.sets l.changed l.made

abbrev pub decreases-loop-settler : goal.decreases-loop-settler
decreases-loop-settler l = left l.templates.count l.sets
