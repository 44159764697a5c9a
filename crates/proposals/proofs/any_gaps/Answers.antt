use borrow.Author.Rules.{rules}
use Rattle.proposals.proofs.Values.{gathered_none, gathered_more}
use Rattle.proposals.proofs.any_gaps.Goals as goal

pub loop-h-init : goal.loop-h-init
loop-h-init c = gathered_none _ _

pub loop-h-preserved : goal.loop-h-preserved
loop-h-preserved c = gathered_more _ _ _ _ c.loop-h.invariant (search rules) c.strings_at-values.result (c.strings_at-values.ensures c.requires (search rules)) _ c.takes_any.ensures _ c.with_if-gaps.ensures
