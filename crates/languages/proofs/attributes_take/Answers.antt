use mathlib.Core.Path.{refl, sym, ap, ◌∙◌}
use native.Mathlib.Omega.{arith}
use mathlib.Core.Bool.{Bool, ◌&&◌, and-true, and-false}
use Rattle.pages.proofs.Steps.{fixed_moves, open_moves}
use Rattle.languages.proofs.Lists.{taking_fixed, taking_open, taking_done}
use Rattle.languages.proofs.attributes_take.Goals as goal

pub loop-next-smaller-in-Fixed : goal.loop-next-smaller-in-Fixed
loop-next-smaller-in-Fixed c = let m = (fixed_moves _ _ _ c.attribute_here.ensures.moves _ _ _ c.in-Fixed.is).0 in
    omega (arith, m.inside, m.forward)

pub loop-next-preserved-in-Fixed : goal.loop-next-preserved-in-Fixed
loop-next-preserved-in-Fixed c = let q = c.in-Fixed.is in
    taking_fixed _ _ _ _ _ _ c.loop-next.invariant _ c.attribute_here.ensures.is _ _ _ q (fixed_moves _ _ _ c.attribute_here.ensures.moves _ _ _ q).0.forward

pub loop-next-smaller-then-not-takes_something : goal.loop-next-smaller-then-not-takes_something
loop-next-smaller-then-not-takes_something c = let m = (open_moves _ _ _ c.attribute_here.ensures.moves _ _ _ c.in-Open.is).0 in
    omega (arith, m.inside, m.forward)

pub loop-next-preserved-then-not-takes_something : goal.loop-next-preserved-then-not-takes_something
loop-next-preserved-then-not-takes_something c = let q = c.in-Open.is in
    taking_open _ _ _ _ c.loop-next.takes _ c.loop-next.invariant _ c.attribute_here.ensures.is _ _ _ q (open_moves _ _ _ c.attribute_here.ensures.moves _ _ _ q).0.forward c.takes_something.result c.takes_something.ensures _ (sym (ap (λ (t : Bool). c.loop-next.takes && t) c.if-not-takes_something.true ∙ and-false c.loop-next.takes))

pub loop-next-smaller : goal.loop-next-smaller
loop-next-smaller c = let m = (open_moves _ _ _ c.attribute_here.ensures.moves _ _ _ c.in-Open.is).0 in
    omega (arith, m.inside, m.forward)

pub loop-next-preserved : goal.loop-next-preserved
loop-next-preserved c = let q = c.in-Open.is in
    taking_open _ _ _ _ c.loop-next.takes _ c.loop-next.invariant _ c.attribute_here.ensures.is _ _ _ q (open_moves _ _ _ c.attribute_here.ensures.moves _ _ _ q).0.forward c.takes_something.result c.takes_something.ensures _ (sym (ap (λ (t : Bool). c.loop-next.takes && t) c.if-not-takes_something.false ∙ and-true c.loop-next.takes))

pub returns-in-Done : goal.returns-in-Done
returns-in-Done c = record { forward = c.loop-next.invariant.forward; filled = taking_done _ _ _ _ _ _ c.loop-next.invariant _ c.attribute_here.ensures.is _ c.in-Done.is refl }
