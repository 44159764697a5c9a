use mathlib.Core.Path.{sym, ◌∙◌}
use native.Mathlib.Omega.{arith}
use Rattle.pages.proofs.Steps.{fixed_moves, open_moves}
use Rattle.elements.proofs.AttributeLists.{going_none, going_string, going_other_string, going_empty, going_values, going_other_values, going_ends}
use Rattle.elements.proofs.attribute_patterns.Goals as goal

pub loop-name-init : goal.loop-name-init
loop-name-init c = going_none _ _ _ _ _ _ _

pub has-requires : goal.has-requires
has-requires c = let m = fixed_moves _ _ _ c.attribute_here.ensures.moves _ _ _ c.in-Fixed.is in
    omega (arith, m.1)

pub loop-name-smaller-then-has : goal.loop-name-smaller-then-has
loop-name-smaller-then-has c = let m = (fixed_moves _ _ _ c.attribute_here.ensures.moves _ _ _ c.in-Fixed.is).0 in
    omega (arith, m.inside, m.forward)

pub loop-name-preserved-then-has : goal.loop-name-preserved-then-has
loop-name-preserved-then-has c = let stands = c.in-Fixed.is in
    going_string _ _ _ _ _ _ _ _ _ _ c.loop-name.invariant c.attribute_here.result (c.attribute_here.ensures.is, c.attribute_here.ensures.moves) _ _ _ stands _ _ _ c.attribute_pattern.ensures c.only-own.ensures c.product-more.ensures

pub loop-name-smaller-else-has : goal.loop-name-smaller-else-has
loop-name-smaller-else-has c = let m = (fixed_moves _ _ _ c.attribute_here.ensures.moves _ _ _ c.in-Fixed.is).0 in
    omega (arith, m.inside, m.forward)

pub loop-name-preserved-else-has : goal.loop-name-preserved-else-has
loop-name-preserved-else-has c = let stands = c.in-Fixed.is in
    going_other_string _ _ _ _ _ _ _ _ _ _ c.loop-name.invariant c.attribute_here.result (c.attribute_here.ensures.is, c.attribute_here.ensures.moves) _ _ _ stands
    _ c.attributes_of-about.ensures (sym c.has.ensures ∙ c.if-has.false)

pub loop-name-smaller-then-takes_nothing : goal.loop-name-smaller-then-takes_nothing
loop-name-smaller-then-takes_nothing c = let m = (open_moves _ _ _ c.attribute_here.ensures.moves _ _ _ c.in-Open.is).0 in
    omega (arith, m.inside, m.forward)

pub loop-name-preserved-then-takes_nothing : goal.loop-name-preserved-then-takes_nothing
loop-name-preserved-then-takes_nothing c = let stands = c.in-Open.is in
    going_empty _ _ _ _ _ _ _ _ _ _ c.loop-name.invariant c.attribute_here.result (c.attribute_here.ensures.is, c.attribute_here.ensures.moves) _ _ _ stands
    c.requires _ c.attribute_values-values.ensures _ c.takes_nothing.ensures c.if-takes_nothing.true _ c.empty-none.ensures

pub has-requires-else-takes_nothing : goal.has-requires-else-takes_nothing
has-requires-else-takes_nothing c = let m = open_moves _ _ _ c.attribute_here.ensures.moves _ _ _ c.in-Open.is in
    omega (arith, m.1)

pub loop-name-smaller-then-has-2 : goal.loop-name-smaller-then-has-2
loop-name-smaller-then-has-2 c = let m = (open_moves _ _ _ c.attribute_here.ensures.moves _ _ _ c.in-Open.is).0 in
    omega (arith, m.inside, m.forward)

pub loop-name-preserved-then-has-2 : goal.loop-name-preserved-then-has-2
loop-name-preserved-then-has-2 c = let stands = c.in-Open.is in
    going_values _ _ _ _ _ _ _ _ _ _ c.loop-name.invariant c.attribute_here.result (c.attribute_here.ensures.is, c.attribute_here.ensures.moves) _ _ _ stands
    c.requires _ c.attribute_values-values.ensures _ c.takes_nothing.ensures c.if-takes_nothing.false _ _ c.value_patterns-taken.ensures c.product-more-then-has-2.ensures

pub loop-name-smaller : goal.loop-name-smaller
loop-name-smaller c = let m = (open_moves _ _ _ c.attribute_here.ensures.moves _ _ _ c.in-Open.is).0 in
    omega (arith, m.inside, m.forward)

pub loop-name-preserved : goal.loop-name-preserved
loop-name-preserved c = let stands = c.in-Open.is in
    going_other_values _ _ _ _ _ _ _ _ _ _ c.loop-name.invariant c.attribute_here.result (c.attribute_here.ensures.is, c.attribute_here.ensures.moves) _ _ _ stands
    c.requires _ c.attribute_values-values.ensures _ c.takes_nothing.ensures c.if-takes_nothing.false
    _ c.attributes_of-about.ensures (sym c.has-else-takes_nothing.ensures ∙ c.if-has-2.false)

pub returns-in-Done : goal.returns-in-Done
returns-in-Done c = record {
  forward = c.loop-name.invariant.taking_to.forward;
  patterned = going_ends _ _ _ _ _ _ _ _ _ _ c.loop-name.invariant c.attribute_here.result (c.attribute_here.ensures.is, c.attribute_here.ensures.moves) c.in-Done.is c.only-set.ensures;
}
