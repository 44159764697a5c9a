use mathlib.Core.Path.{◌≡◌, ◌∙◌}
use native.Mathlib.Omega.{arith}
use Rattle.solver.proofs.Flowing.{flowing_begins, flowing_goes}
use borrow.Author.Rules.{rules}
use Rattle.solver.proofs.Solved.flow.Goals as goal

pub loop-v-init : goal.loop-v-init
loop-v-init c = record { same_length = search rules; flowed = flowing_begins _ _ _ _ _ _ _ }

pub flow_needed-rises-requires : goal.flow_needed-rises-requires
flow_needed-rises-requires c = let kept = c.loop-v.invariant.same_length in (rw kept c.requires.0, rw kept c.requires.1, c.loop-v-test.true)

pub loop-v-preserved : goal.loop-v-preserved
loop-v-preserved c = record {
  same_length = c.flow_needed-rises.auto.work ∙ c.loop-v.invariant.same_length;
  flowed = flowing_goes _ _ _ _ _ _ _ c.loop-v.v c.loop-v-test.true c.loop-v.work _ c.loop-v.changed _ _ c.loop-v.invariant.flowed c.flow_needed-rises.ensures c.with_if-changed.ensures;
}

pub returns : goal.returns
returns c =
    let end : c.loop-v.v ≡ 8 = omega arith in
    rw end at c.loop-v.invariant.flowed
