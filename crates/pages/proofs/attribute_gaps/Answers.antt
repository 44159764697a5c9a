use mathlib.Core.Path.{refl}
use native.Mathlib.Omega.{arith}
use Rattle.pages.proofs.Steps.{fixed_moves, open_moves}
use Rattle.pages.proofs.Gathering.{onto_start, fixed_gaps, open_gaps, none_gaps}
use Rattle.pages.proofs.attribute_gaps.Goals as goal

pub loop-next-init : goal.loop-next-init
loop-next-init c = onto_start _ _ _

pub loop-next-smaller-in-Fixed : goal.loop-next-smaller-in-Fixed
loop-next-smaller-in-Fixed c = let m = (fixed_moves _ _ _ c.attribute_here-attribute.ensures.moves _ _ _ c.in-Fixed.is).0 in
    omega (arith, m.inside, m.forward)

pub loop-next-preserved-in-Fixed : goal.loop-next-preserved-in-Fixed
loop-next-preserved-in-Fixed c = fixed_gaps _ _ _ c.attribute_here-attribute.ensures.is c.attribute_here-attribute.ensures.moves _ _ _ c.loop-next.invariant _ _ _ c.in-Fixed.is

pub overflow_add-gap : goal.overflow_add-gap
overflow_add-gap c = let m = open_moves _ _ _ c.attribute_here-attribute.ensures.moves _ _ _ c.in-Open.is in
    record { fits = omega (arith, m.2) }

pub with-requires : goal.with-requires
with-requires c = let m = open_moves _ _ _ c.attribute_here-attribute.ensures.moves _ _ _ c.in-Open.is in
    omega (arith, m.2)

pub loop-next-smaller : goal.loop-next-smaller
loop-next-smaller c = let m = (open_moves _ _ _ c.attribute_here-attribute.ensures.moves _ _ _ c.in-Open.is).0 in
    omega (arith, m.inside, m.forward)

pub loop-next-preserved : goal.loop-next-preserved
loop-next-preserved c = open_gaps _ _ _ c.attribute_here-attribute.ensures.is c.attribute_here-attribute.ensures.moves _ _ _ c.loop-next.invariant _ _ _ c.in-Open.is _ c.with.ensures

pub returns-in-Done : goal.returns-in-Done
returns-in-Done c =
    let w = none_gaps _ _ _ c.attribute_here-attribute.ensures.is c.attribute_here-attribute.ensures.moves _ _ _ c.loop-next.invariant _ refl refl c.in-Done.is in
    record { forward = w.0; found = w.1 }
