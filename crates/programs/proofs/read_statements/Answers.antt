use mathlib.Core.Path.{refl}
use native.Mathlib.Omega.{arith}
use lib.ListN.{length-set}
use borrow.Author.Rules.{rules}
use Rattle.programs.proofs.Reading.{places_stay_below, few_before, fewer_left_here, is_in_range, refused_here, ends_here, goes_on}
use Rattle.programs.proofs.read_statements.Goals as goal

pub loop-code-init : goal.loop-code-init
loop-code-init c = (search rules, refl, λ r k h. h)

pub returns-in_default : goal.returns-in_default
returns-in_default c = c.loop-code.invariant.2 _ tt (search refused_here)

pub returns-then-code-eq63 : goal.returns-then-code-eq63
returns-then-code-eq63 c = c.loop-code.invariant.2 _ (record { same = λ i l. refl }) (search ends_here)

pub offset_bounds-places-count : goal.offset_bounds-places-count
offset_bounds-places-count c = omega (arith, few_before _ _ _ _ _ c.statement_here-d.ensures _ _ c.in-Moved.is c.if-code-eq63.false)

pub bounds-places-count : goal.bounds-places-count
bounds-places-count c = search few_before

pub named_by-requires : goal.named_by-requires
named_by-requires c = search is_in_range

pub loop-code-smaller : goal.loop-code-smaller
loop-code-smaller c = fewer_left_here _ _ _ _ _ c.statement_here-d.ensures _ _ c.in-Moved.is c.if-code-eq63.false

pub loop-code-preserved : goal.loop-code-preserved
loop-code-preserved c = (
  omega (arith, few_before _ _ _ _ _ c.statement_here-d.ensures _ _ c.in-Moved.is c.if-code-eq63.false),
  simp length-set c.loop-code.invariant.1,
  λ r k h. c.loop-code.invariant.2 r (places_stay_below _ _ _ c.loop-code.places _ (omega arith) k)
      (goes_on _ _ _ _ _ c.statement_here-d.ensures _ _ c.in-Moved.is c.if-code-eq63.false _ _ _ c.loop-code.places
      c.statement_at.result c.statement_at.ensures c.named_by.ensures c.union-named.ensures c.loop-code.invariant.1 r k h),
)
