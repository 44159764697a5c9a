-- The strings passed have their patterns in the set; those alike have the same.
use Prim.Native.Nat.{◌-◌, ◌≤◌}
use Rattle.strings.specs.Strings.{strings}
use Rattle.schemes.specs.Inner.Promises.{OfFacts}
use Rattle.clauses.proofs.StringSets.{PatternsTo}
use Rattle.clauses.proofs.with_patterns.Given as goal

abbrev pub invariant-loop-s : goal.invariant-loop-s
invariant-loop-s l = (l.from ≤ strings) × OfFacts l.facts (λ fs. PatternsTo fs l.initial.larger l.a l.initial.left l.from l.left l.larger)

abbrev pub decreases-loop-s : goal.decreases-loop-s
decreases-loop-s l = strings - l.from
