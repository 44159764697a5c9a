use mathlib.Core.Path.{sym, ◌∙◌}
use Rattle.elements.proofs.Rules.{ruled_none, ruled_past, ruled_more, ruled_all}
use borrow.Author.Rules.{rules}
use Rattle.elements.proofs.search_rules.Goals as goal
use Rattle.elements.proofs.search_rules.Goals.{then-has, else-has}

pub loop-e-init : goal.loop-e-init
loop-e-init c = ruled_none _ _ _ _ _ _ _ _

pub loop-e-preserved : goal.loop-e-preserved
loop-e-preserved c = elim c.if-has.branch [
  | then-has m ↦ rw m.lowest-is (ruled_more _ _ _ _ _ _ _ _ _ _ c.loop-e.invariant (sym c.has.ensures ∙ m.if-has.true)
      m.common-chosen.result m.common-chosen.ensures m.search_rule-found.result m.search_rule-found.ensures m.lower-lowest.result m.lower-lowest.ensures)
  | else-has m ↦ rw m.lowest-is (ruled_past _ _ _ _ _ _ _ _ _ _ c.loop-e.invariant (sym c.has.ensures ∙ m.if-has.false))
]

pub returns : goal.returns
returns c = ruled_all _ _ _ _ _ _ _ _ _ _ c.loop-e.invariant c.loop-e-test.false (search rules)
