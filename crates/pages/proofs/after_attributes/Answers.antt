use mathlib.Core.Path.{refl}
use native.Mathlib.Omega.{arith}
use Rattle.pages.proofs.Walks.{after_one, after_none}
use Rattle.pages.proofs.after_attributes.Goals as goal

pub loop-next-init : goal.loop-next-init
loop-next-init c = record { forward = omega arith; goes = λ r A. A }

pub loop-next-smaller-in-Fixed : goal.loop-next-smaller-in-Fixed
loop-next-smaller-in-Fixed c = let m = (after_one _ _ _ c.attribute_here-attribute.ensures.is c.attribute_here-attribute.ensures.moves _ c.loop-next.invariant _ c.in-Fixed.is).0 in
    omega (arith, m.inside, m.forward)

pub loop-next-preserved-in-Fixed : goal.loop-next-preserved-in-Fixed
loop-next-preserved-in-Fixed c = (after_one _ _ _ c.attribute_here-attribute.ensures.is c.attribute_here-attribute.ensures.moves _ c.loop-next.invariant _ c.in-Fixed.is).1

pub loop-next-smaller : goal.loop-next-smaller
loop-next-smaller c = let m = (after_one _ _ _ c.attribute_here-attribute.ensures.is c.attribute_here-attribute.ensures.moves _ c.loop-next.invariant _ c.in-Fixed.is).0 in
    omega (arith, m.inside, m.forward)

pub loop-next-preserved : goal.loop-next-preserved
loop-next-preserved c = (after_one _ _ _ c.attribute_here-attribute.ensures.is c.attribute_here-attribute.ensures.moves _ c.loop-next.invariant _ c.in-Fixed.is).1

pub returns-in-Done : goal.returns-in-Done
returns-in-Done c =
    let w = after_none _ _ _ c.attribute_here-attribute.ensures.is c.attribute_here-attribute.ensures.moves _ c.loop-next.invariant _ refl c.in-Done.is in
    record { forward = w.0; after = w.1 }
