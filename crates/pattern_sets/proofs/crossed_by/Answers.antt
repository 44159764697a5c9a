use mathlib.Core.Path.{sym, ◌∙◌}
use native.Mathlib.Omega.{arith}
use borrow.Author.Rules.{rules}
use Rattle.pattern_sets.proofs.Imaging.{cross_start, cross_turn, cross_pass}
use Rattle.pattern_sets.proofs.crossed_by.Goals.{then-has, else-has}
use Rattle.pattern_sets.proofs.crossed_by.Goals as goal

pub loop-i-init : goal.loop-i-init
loop-i-init c = (omega arith, λ apart. cross_start c.args.x c.args.set (search rules) c.args.firsts c.args.seconds)

pub loop-i-preserved : goal.loop-i-preserved
loop-i-preserved c = let args = c.args in (
  omega arith,
  λ apart. elim c.if-has.branch [
    | then-has w ↦ rw w.image-is (cross_turn args.x args.set (search rules) args.firsts args.seconds c.loop-i.i c.loop-i.image w.crossed-next.result
        apart (omega arith) (sym w.if-has.true ∙ c.has.ensures) (c.loop-i.invariant.1 apart) w.crossed-next.ensures)
    | else-has w ↦ rw w.image-is (cross_pass args.x args.set (search rules) args.firsts args.seconds c.loop-i.i c.loop-i.image
        (sym w.if-has.false ∙ c.has.ensures) (c.loop-i.invariant.1 apart))
  ],
)
