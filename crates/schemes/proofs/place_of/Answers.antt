use mathlib.Core.Path.{refl, ◌∙◌}
use native.Mathlib.Omega.{arith}
use Rattle.vocabularies.proofs.FactLists.{compared}
use Rattle.vocabularies.specs.Inner.Promises.{kept_at}
use Rattle.schemes.proofs.Placing.{place_none, place_found, from_next}
use Rattle.schemes.proofs.place_of.Goals as goal

pub returns-then-eq : goal.returns-then-eq
returns-then-eq c = place_found _ _ c.loop-i.i (omega arith) (omega arith) c.loop-i.invariant _ refl _ (c.eq.ensures ∙ compared (kept_at c.args.facts c.loop-i.i) c.args.fact) c.if-eq.true

pub loop-i-preserved : goal.loop-i-preserved
loop-i-preserved c = from_next _ _ c.loop-i.i (omega arith) (omega arith) c.loop-i.invariant _ refl _ (c.eq.ensures ∙ compared (kept_at c.args.facts c.loop-i.i) c.args.fact) c.if-eq.false

pub returns : goal.returns
returns c = place_none _ _ c.loop-i.i (omega arith) c.loop-i.invariant
