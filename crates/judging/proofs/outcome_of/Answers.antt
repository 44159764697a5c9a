-- The three tests in turn.
use Rattle.judging.proofs.Rules.{names_fail, contents_fail, clauses_decide}
use Rattle.judging.proofs.outcome_of.Goals as goal

pub returns-then-not-is_within : goal.returns-then-not-is_within
returns-then-not-is_within c = record {
  outcome = names_fail _ _ _ _ _ _ c.is_within.ensures c.if-not-is_within.true;
  remembered = c.requires;
}

pub returns-then-not-is_within-2 : goal.returns-then-not-is_within-2
returns-then-not-is_within-2 c = record {
  outcome = contents_fail _ _ _ _ _ _ _ c.is_within.ensures c.if-not-is_within.false c.is_within-2.ensures c.if-not-is_within-2.true;
  remembered = c.requires;
}

pub returns : goal.returns
returns c = record {
  outcome = clauses_decide _ _ _ _ _ _ _ c.is_within.ensures c.if-not-is_within.false c.is_within-2.ensures c.if-not-is_within-2.false
      c.first_failing-met.result.breach c.first_failing-met.ensures.first;
  remembered = c.remember.ensures;
}
