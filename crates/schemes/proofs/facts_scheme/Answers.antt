use native.Mathlib.Omega.{arith}
use Rattle.schemes.proofs.Tabling.{tabled_none, tabled_more, tabled_all}
use Rattle.schemes.proofs.facts_scheme.Goals as goal

pub loop-i-init : goal.loop-i-init
loop-i-init c = tabled_none _

pub loop-i-preserved : goal.loop-i-preserved
loop-i-preserved c = tabled_more _ c.loop-i.i _ _ _ c.loop-i.invariant (omega arith) (omega arith) _ _ _ c.content_of.ensures c.pair_place-before.ensures.0 c.pair_place-before.ensures.1

pub returns : goal.returns
returns c = tabled_all _ _ _ _ _ c.loop-i.invariant (omega arith)
