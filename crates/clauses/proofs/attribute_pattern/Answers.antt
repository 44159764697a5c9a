use mathlib.Core.Bool.{true, false}
use mathlib.Core.Path.{refl, sym, ◌∙◌}
use native.Mathlib.Omega.{arith}
use Rattle.clauses.proofs.AttributeFlags.{flag_at, numbering_none, numbering_all, numbering_with, numbering_without}
use Rattle.clauses.proofs.attribute_pattern.Goals.{then-is_flagged, else-is_flagged}
use Rattle.clauses.proofs.attribute_pattern.Goals as goal

pub loop-i-init : goal.loop-i-init
loop-i-init c = numbering_none _ _ _

pub loop-i-preserved : goal.loop-i-preserved
loop-i-preserved c = let args = c.args in elim c.if-is_flagged.branch [
  | then-is_flagged w ↦ rw w.pattern-is (numbering_with _ _ _ c.loop-i.i c.loop-i.pattern c.loop-i.invariant (omega arith) (omega arith)
      (flag_at args.facts c.loop-i.i args.a args.s _ true refl (sym w.if-is_flagged.true ∙ c.is_flagged.ensures)))
  | else-is_flagged w ↦ rw w.pattern-is (numbering_without _ _ _ c.loop-i.i c.loop-i.pattern c.loop-i.invariant (omega arith) (omega arith)
      (flag_at args.facts c.loop-i.i args.a args.s _ false refl (sym w.if-is_flagged.false ∙ c.is_flagged.ensures)))
]

pub returns : goal.returns
returns c = numbering_all _ _ _ c.loop-i.i c.loop-i.pattern (omega arith) c.loop-i.invariant
