-- The two tests in turn.
use Rattle.reach.proofs.Outside.{names_outside, content_outside_lem, none_outside}
use Rattle.reach.proofs.outside_at.Goals as goal

pub returns-then-not-is_within : goal.returns-then-not-is_within
returns-then-not-is_within c = names_outside _ _ _ _ _ _ c.is_within.result c.is_within.ensures c.if-not-is_within.true

pub returns-then-not-is_within-2 : goal.returns-then-not-is_within-2
returns-then-not-is_within-2 c = content_outside_lem _ _ _ _ _ _ c.is_within.result c.is_within-2.result c.is_within.ensures
    c.if-not-is_within.false c.is_within-2.ensures c.if-not-is_within-2.true

pub returns : goal.returns
returns c = none_outside _ _ _ _ _ _ c.is_within.result c.is_within-2.result c.is_within.ensures
    c.if-not-is_within.false c.is_within-2.ensures c.if-not-is_within-2.false
