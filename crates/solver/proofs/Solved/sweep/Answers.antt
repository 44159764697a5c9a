use mathlib.Core.Path.{◌≡◌, ◌∙◌}
use native.Mathlib.Omega.{arith}
use Rattle.solver.proofs.Sweeping.{turned_low, sweep_begins, sweep_goes, sweep_ends}
use borrow.Author.Rules.{rules}
use Rattle.solver.proofs.Solved.sweep.Goals as goal

pub loop-turn-init : goal.loop-turn-init
loop-turn-init c = record { same_length = search rules; visited = sweep_begins _ _ _ _ c.args.upwards _ _ }

pub visit_point-requires : goal.visit_point-requires
visit_point-requires c = (rw c.loop-turn.invariant.same_length c.requires.0, c.loop-turn.invariant.visited.same_length ∙ c.requires.1, rw c.point_of_turn-p.ensures (turned_low c.args.upwards _ c.loop-turn-test.true))

pub loop-turn-preserved : goal.loop-turn-preserved
loop-turn-preserved c = record {
  same_length = c.visit_point.auto.work ∙ c.loop-turn.invariant.same_length;
  visited = sweep_goes _ _ _ _ c.args.upwards c.loop-turn.turn c.loop-turn-test.true _ _ c.loop-turn.work c.loop-turn.waiting _ _ c.loop-turn.invariant.visited (rw c.point_of_turn-p.ensures at c.visit_point.ensures);
}

pub returns : goal.returns
returns c =
    let far : c.loop-turn.turn ≡ 32 = omega arith in
    sweep_ends _ _ _ _ c.args.upwards 32 (omega arith) _ _ _ _ (rw far at c.loop-turn.invariant.visited)
