use native.Mathlib.Omega.{arith}
use Rattle.commands.proofs.Spelling.{starts, fits, goes_on, ends}
use Rattle.commands.proofs.set_at.Goals as goal

pub loop-k-init : goal.loop-k-init
loop-k-init c = starts _ _

pub overflow_mul-number : goal.overflow_mul-number
overflow_mul-number c = let l = fits _ _ _ _ c.loop-k-test.true c.loop-k.invariant in record { fits = omega arith }

pub overflow_add-number : goal.overflow_add-number
overflow_add-number c = let l = fits _ _ _ _ c.loop-k-test.true c.loop-k.invariant in record { fits = omega arith }

pub loop-k-preserved : goal.loop-k-preserved
loop-k-preserved c = goes_on _ _ _ _ c.loop-k-test.true c.loop-k.invariant _ c.byte_at.ensures (omega arith)

pub returns : goal.returns
returns c = ends _ _ _ _ (omega arith) c.loop-k.invariant
