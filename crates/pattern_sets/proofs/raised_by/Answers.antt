use mathlib.Core.Path.{sym, ◌∙◌}
use native.Mathlib.Omega.{arith}
use borrow.Author.Rules.{rules}
use Rattle.pattern_sets.proofs.Imaging.{raise_start, raise_turn, raise_pass}
use Rattle.pattern_sets.proofs.raised_by.Goals.{then-has, else-has}
use Rattle.pattern_sets.proofs.raised_by.Goals as goal

pub loop-i-init : goal.loop-i-init
loop-i-init c = (omega arith, raise_start c.args.x c.args.set (search rules))

pub loop-i-preserved : goal.loop-i-preserved
loop-i-preserved c = let args = c.args in (
  omega arith,
  elim c.if-has.branch [
    | then-has w ↦ rw w.image-is (raise_turn args.x args.set (search rules) c.loop-i.i c.loop-i.image w.raised-next.result
        (sym w.if-has.true ∙ c.has.ensures) c.loop-i.invariant.1 w.raised-next.ensures)
    | else-has w ↦ rw w.image-is (raise_pass args.x args.set (search rules) c.loop-i.i c.loop-i.image (sym w.if-has.false ∙ c.has.ensures) c.loop-i.invariant.1)
  ],
)
