use mathlib.Core.Path.{refl}
use native.Mathlib.Omega.{arith}
use Rattle.pages.proofs.Steps.{blank_moves}
use Rattle.judge.proofs.BlankLaws.{passes_blank, passed}
use Rattle.judge.proofs.after_blank.Goals as goal

pub loop-next-init : goal.loop-next-init
loop-next-init c = record { forward = omega arith; goes = λ r A. A }

pub returns-in_default : goal.returns-in_default
returns-in_default c = passed _ _ _ c.item_here-item.ensures.is c.item_here-item.ensures.moves _ c.loop-next.invariant c.in_default.not-Blank _ refl

pub loop-next-smaller : goal.loop-next-smaller
loop-next-smaller c = let m = blank_moves _ _ _ c.item_here-item.ensures.moves _ c.in-Blank.is in
    omega (arith, m.inside, m.forward)

pub loop-next-preserved : goal.loop-next-preserved
loop-next-preserved c = passes_blank _ _ _ c.item_here-item.ensures.is c.item_here-item.ensures.moves _ c.loop-next.invariant _ c.in-Blank.is
