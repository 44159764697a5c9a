use native.Mathlib.Omega.{arith}
use Rattle.shows.proofs.Lowest.{none_more, root_found, no_root_found}
use Rattle.shows.proofs.lowest_root.Goals as goal

pub loop-t-init : goal.loop-t-init
loop-t-init c = λ m l. absurd (omega arith)

pub returns-then-is_other : goal.returns-then-is_other
returns-then-is_other c = root_found _ c.args.classes _ _ _ c.is_other.ensures c.if-is_other.true (omega arith) c.loop-t.invariant

pub loop-t-preserved : goal.loop-t-preserved
loop-t-preserved c = none_more _ c.args.classes _ _ c.is_other.ensures c.if-is_other.false c.loop-t.invariant

pub returns : goal.returns
returns c = no_root_found _ c.args.classes _ _ (omega arith) c.loop-t.invariant
