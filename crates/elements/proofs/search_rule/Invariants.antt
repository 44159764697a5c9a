-- What the clauses from here on find, lowered by what was found, is what all of them find; and the sets at hand are settled by their
-- scheme.
use Prim.Native.Nat.{◌-◌}
use lib.ListN.{length}
use Rattle.std.specs.Prelude.{IfSome}
use Rattle.elements.specs.Inner.Rules.{SettledBy}
use Rattle.elements.proofs.Rules.{Ruling}
use Rattle.elements.proofs.search_rule.Given as goal

abbrev pub invariant-loop-formula : goal.invariant-loop-formula
invariant-loop-formula l = Ruling l.s l.e l.graph l.templates.starts l.templates.count l.chosen l.fn.from.at l.here.at l.place l.lowest × IfSome l.at_hand (λ last. SettledBy last l.s l.graph l.templates.starts l.templates.count l.sets)

abbrev pub decreases-loop-formula : goal.decreases-loop-formula
decreases-loop-formula l = length l.s - l.here.at
