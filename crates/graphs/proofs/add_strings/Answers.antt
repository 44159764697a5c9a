use mathlib.Core.Bool.{true}
use native.Mathlib.Omega.{arith}
use Rattle.sets.proofs.Steps.{next_is}
use Rattle.graphs.proofs.AddingAt.{adding_begins, adding_goes, adding_ends}
use Rattle.graphs.proofs.add_strings.Goals as goal

pub loop-next-init : goal.loop-next-init
loop-next-init c = (next_is _ 0 _ c.next_member-next.ensures, λ f R k. adding_begins true _ _ _ _ R _ c.next_member-next.ensures k)

pub loop-next-preserved : goal.loop-next-preserved
loop-next-preserved c =
    let (held, so_far) = rw c.in-Some.is at c.loop-next.invariant in (
      next_is _ _ _ c.next_member-next-in-Some.ensures,
      λ f R k. adding_goes true _ _ _ c.in-Some.n _ held.1 c.next_member-next-in-Some.ensures R (omega arith) f c.loop-next.graph _ c.add_strings_at.ensures (so_far f R k),
    )

pub returns-then-n-ge32 : goal.returns-then-n-ge32
returns-then-n-ge32 c = λ f R k. adding_ends true _ _ _ _ R _ (rw c.in-Some.is (omega arith)) (c.loop-next.invariant.1 f R k)

pub returns : goal.returns
returns c = λ f R k. adding_ends true _ _ _ _ R _ (rw c.in_default.is tt) (c.loop-next.invariant.1 f R k)
