use mathlib.Core.Path.{◌≡◌, ◌∙◌}
use native.Mathlib.Omega.{arith}
use borrow.Author.Rules.{rules}
use Rattle.solver.proofs.Starting.{starting_begins, starting_goes}
use Rattle.solver.proofs.start.Goals as goal

pub loop-v-init : goal.loop-v-init
loop-v-init c = record { same_length = search rules; started = starting_begins _ _ }

pub start_named-requires : goal.start_named-requires
start_named-requires c = (rw c.loop-v.invariant.same_length c.requires, c.loop-v-test.true)

pub loop-v-preserved : goal.loop-v-preserved
loop-v-preserved c = record {
  same_length = c.start_named.auto.work ∙ c.loop-v.invariant.same_length;
  started = starting_goes _ c.loop-v.v _ c.loop-v.work _ c.loop-v-test.true c.loop-v.invariant.started c.start_named.ensures;
}

pub returns : goal.returns
returns c =
    let end : c.loop-v.v ≡ 8 = omega arith in
    rw end at c.loop-v.invariant.started
