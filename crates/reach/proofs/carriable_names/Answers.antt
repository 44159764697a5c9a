use mathlib.Core.Path.{refl}
use native.Mathlib.Omega.{arith}
use Rattle.pages.proofs.Steps.{fixed_moves, open_moves}
use Rattle.reach.proofs.Carrying.{carrying_fixed, carrying_open, carrying_done}
use Rattle.reach.proofs.carriable_names.Goals as goal

pub with-names-requires : goal.with-names-requires
with-names-requires c = let m = fixed_moves _ _ _ c.attribute_here.ensures.moves _ _ _ c.in-Fixed.is in
    omega (arith, m.1)

pub loop-name-smaller-in-Fixed : goal.loop-name-smaller-in-Fixed
loop-name-smaller-in-Fixed c = let m = (fixed_moves _ _ _ c.attribute_here.ensures.moves _ _ _ c.in-Fixed.is).0 in
    omega (arith, m.inside, m.forward)

pub loop-name-preserved-in-Fixed : goal.loop-name-preserved-in-Fixed
loop-name-preserved-in-Fixed c = let q = c.in-Fixed.is in
    carrying_fixed _ _ _ _ _ _ c.loop-name.invariant _ c.attribute_here.ensures.is _ _ _ q (fixed_moves _ _ _ c.attribute_here.ensures.moves _ _ _ q).0.forward _ c.with-names.ensures

pub with_if-names-requires : goal.with_if-names-requires
with_if-names-requires c = let m = open_moves _ _ _ c.attribute_here.ensures.moves _ _ _ c.in-Open.is in
    omega (arith, m.1)

pub loop-name-smaller : goal.loop-name-smaller
loop-name-smaller c = let m = (open_moves _ _ _ c.attribute_here.ensures.moves _ _ _ c.in-Open.is).0 in
    omega (arith, m.inside, m.forward)

pub loop-name-preserved : goal.loop-name-preserved
loop-name-preserved c = let q = c.in-Open.is in
    carrying_open _ _ _ _ _ _ c.loop-name.invariant _ c.attribute_here.ensures.is _ _ _ q (open_moves _ _ _ c.attribute_here.ensures.moves _ _ _ q).0.forward c.string_reaches.result c.string_reaches.ensures _ c.with_if-names.ensures

pub returns-in-Done : goal.returns-in-Done
returns-in-Done c = record { forward = c.loop-name.invariant.forward; carriable = carrying_done _ _ _ _ _ _ c.loop-name.invariant _ c.attribute_here.ensures.is _ c.in-Done.is refl }
