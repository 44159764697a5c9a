use native.Mathlib.Omega.{arith}
use borrow.Author.Count.{below_more}
use borrow.Author.Rules.{rules}
use Rattle.entries.proofs.Tests.{decided_true, decided_false}
use Rattle.covering.proofs.Whole.{fails_there, all_there}
use Rattle.covering.proofs.Compared.step_uncovered.Goals as goal

pub loop-v-init : goal.loop-v-init
loop-v-init c = record { covered = λ j S N u h. absurd (omega arith); empty = c.requires }

pub returns-then-not-named_holds : goal.returns-then-not-named_holds
returns-then-not-named_holds c = record {
  lowest = λ j S N. fails_there _ _ _ (search rules) (c.loop-v.invariant.covered j S N) (decided_false c.named_holds.result (c.named_holds.ensures.decides j S N) c.if-not-named_holds.true);
  empty = c.named_holds.ensures.empty;
}

pub loop-v-preserved : goal.loop-v-preserved
loop-v-preserved c = record {
  covered = λ j S N. below_more _ _ (c.loop-v.invariant.covered j S N) (decided_true c.named_holds.result (c.named_holds.ensures.decides j S N) c.if-not-named_holds.false);
  empty = c.named_holds.ensures.empty;
}

pub returns : goal.returns
returns c = record {
  lowest = λ j S N. all_there _ (λ u l. c.loop-v.invariant.covered j S N u (omega arith));
  empty = c.loop-v.invariant.empty;
}
