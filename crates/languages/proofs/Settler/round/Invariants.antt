-- The templates before the loop's have their sets.
use mathlib.Core.List.{[]}
use Rattle.languages.proofs.GapSets.{FilledTo}
use Rattle.languages.proofs.RoundLaws.{RowIs}
use Rattle.languages.proofs.Settler.round.Given as goal

abbrev pub invariant-loop-n : goal.invariant-loop-n
invariant-loop-n l = FilledTo 32 [] (RowIs l.self.r l.self.s.now l.self.graph.now l.self.templates.now.starts l.targets l.sets l.self.templates.now.count l.changed) l.next l.n
