use mathlib.Core.Path.{◌∙◌}
use Rattle.solver.proofs.Solving.{measure_less, working_begins, working_ends}
use borrow.Author.Rules.{rules}
use Rattle.solver.proofs.solve.Goals as goal

pub loop-script-init : goal.loop-script-init
loop-script-init c = record { same_length = search rules; sets = search rules; working = working_begins _ _ _ _ _ _ _ c.requires.1 c.start.ensures _ c.all_waiting-waiting.ensures }

pub sweep-requires : goal.sweep-requires
sweep-requires c = (rw (c.loop-script.invariant.same_length ∙ c.start.auto.work) c.requires.0, c.loop-script.invariant.sets)

pub loop-script-smaller : goal.loop-script-smaller
loop-script-smaller c =
    let some = rw c.loop-script-test.true at c.none_waits.ensures in
    measure_less c.loop-script.waiting some.0 some.1.0 some.1.1 _ c.loop-script.work _ c.sweep.auto.work (λ i. (c.type_inv.work i).fits) c.sweep.ensures

pub loop-script-preserved : goal.loop-script-preserved
loop-script-preserved c = record {
  same_length = c.sweep.auto.work ∙ c.loop-script.invariant.same_length;
  sets = c.sweep.ensures.same_length ∙ c.loop-script.invariant.sets;
  working = c.sweep.ensures.working _ c.loop-script.invariant.working;
}

pub returns : goal.returns
returns c = working_ends _ _ _ _ _ _ _ c.loop-script.invariant.working (rw c.loop-script-test.false at c.none_waits.ensures)
