use mathlib.Core.Path.{refl}
use mathlib.Core.List.{◌∷◌}
use native.Mathlib.Omega.{arith}
use lib.ListN.{length-set}
use Rattle.pages.proofs.Steps.{fixed_moves, open_moves}
use Rattle.judging.proofs.AttributeLaws.{adds_all, none_added, fixed_added, open_added}
use Rattle.judging.proofs.read_attributes.Goals as goal

pub with-names-requires : goal.with-names-requires
with-names-requires c = omega (arith, (fixed_moves _ _ _ c.attribute_here-attribute.ensures.moves _ _ _ c.in-Fixed.is).1)

pub bounds-strings-i : goal.bounds-strings-i
bounds-strings-i c = (fixed_moves _ _ _ c.attribute_here-attribute.ensures.moves _ _ _ c.in-Fixed.is).1

pub loop-name-smaller-in-Fixed : goal.loop-name-smaller-in-Fixed
loop-name-smaller-in-Fixed c = let m = fixed_moves _ _ _ c.attribute_here-attribute.ensures.moves _ _ _ c.in-Fixed.is in
    omega (arith, m.0.inside, m.0.forward)

pub loop-name-preserved-in-Fixed : goal.loop-name-preserved-in-Fixed
loop-name-preserved-in-Fixed c = record {
  forward = omega (arith, c.loop-name.invariant.forward, (fixed_moves _ _ _ c.attribute_here-attribute.ensures.moves _ _ _ c.in-Fixed.is).0.forward);
  room = simp length-set c.loop-name.invariant.room;
  earlier = _ ∷ c.loop-name.invariant.earlier;
  goes = λ r last A. c.loop-name.invariant.goes r last (fixed_added _ _ _ _ _ _ c.attribute_here-attribute.ensures.is r last _ _ _ _ c.in-Fixed.is c.with-names.ensures c.loop-name.invariant.room A);
}

pub with-names-requires-in-Open : goal.with-names-requires-in-Open
with-names-requires-in-Open c = omega (arith, (open_moves _ _ _ c.attribute_here-attribute.ensures.moves _ _ _ c.in-Open.is).1)

pub loop-name-smaller : goal.loop-name-smaller
loop-name-smaller c = let m = open_moves _ _ _ c.attribute_here-attribute.ensures.moves _ _ _ c.in-Open.is in
    omega (arith, m.0.inside, m.0.forward)

pub loop-name-preserved : goal.loop-name-preserved
loop-name-preserved c = record {
  forward = omega (arith, c.loop-name.invariant.forward, (open_moves _ _ _ c.attribute_here-attribute.ensures.moves _ _ _ c.in-Open.is).0.forward);
  room = c.loop-name.invariant.room;
  earlier = c.loop-name.invariant.earlier;
  goes = λ r last A. c.loop-name.invariant.goes r last (open_added _ _ _ _ _ _ c.attribute_here-attribute.ensures.is r last _ _ _ c.in-Open.is);
}

pub returns-in-Done : goal.returns-in-Done
returns-in-Done c = record {
  forward = c.loop-name.invariant.forward;
  named = adds_all _ _ _ _ _ (c.loop-name.invariant.goes _ _ (none_added _ _ _ c.loop-name.invariant.earlier _ _ c.attribute_here-attribute.ensures.is c.in-Done.is c.loop-name.place refl));
}
