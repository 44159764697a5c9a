use native.Mathlib.Omega.{arith}
use borrow.Author.Count.{below_more}
use borrow.Author.Rules.{rules}
use Rattle.entries.proofs.Tests.{decided_true, decided_false}
use Rattle.covering.proofs.Whole.{fails_there, all_there}
use Rattle.covering.proofs.Compared.start_uncovered.Goals as goal

pub loop-v-init : goal.loop-v-init
loop-v-init c = λ j E N u h. absurd (omega arith)

pub returns-then-not-named_start_holds : goal.returns-then-not-named_start_holds
returns-then-not-named_start_holds c = λ j E N.
    fails_there _ _ _ (search rules) (c.loop-v.invariant j E N) (decided_false c.named_start_holds.result (c.named_start_holds.ensures j E N) c.if-not-named_start_holds.true)

pub loop-v-preserved : goal.loop-v-preserved
loop-v-preserved c = λ j E N. below_more _ _ (c.loop-v.invariant j E N) (decided_true c.named_start_holds.result (c.named_start_holds.ensures j E N) c.if-not-named_start_holds.false)

pub returns : goal.returns
returns c = λ j E N. all_there _ (λ u l. c.loop-v.invariant j E N u (omega arith))
