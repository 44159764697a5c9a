use native.Mathlib.Omega.{arith}
use Rattle.vocabularies.proofs.Laws.{command_turns}
use Rattle.summaries.proofs.Reading.{holdings_end, holdings_refused, holdings_missing, holdings_fall, holdings_go_on}
use Rattle.summaries.proofs.read_holdings.Goals as goal

pub loop-context-init : goal.loop-context-init
loop-context-init c = λ r h. h

pub returns-then-not-is_allowed : goal.returns-then-not-is_allowed
returns-then-not-is_allowed c = c.loop-context.invariant _ (search holdings_end)

pub returns-in_default : goal.returns-in_default
returns-in_default c = c.loop-context.invariant _ (search holdings_refused)

pub returns-then-not-holding_there : goal.returns-then-not-holding_there
returns-then-not-holding_there c = c.loop-context.invariant _ (search holdings_missing)

pub returns-then-place-least : goal.returns-then-place-least
returns-then-place-least c = c.loop-context.invariant _ (search holdings_fall)

pub overflow_add-least : goal.overflow_add-least
overflow_add-least c = let l = c.rank-place.ensures.low in omega arith

pub loop-context-smaller : goal.loop-context-smaller
loop-context-smaller c = search command_turns

pub loop-context-preserved : goal.loop-context-preserved
loop-context-preserved c = λ r h. c.loop-context.invariant r (search holdings_go_on)
