-- A pattern that is in the set and does not make the formula true.
use Rattle.clauses.proofs.TrueForms.{tells_failure}
use Rattle.clauses.proofs.clause_fails.Goals as goal

pub returns : goal.returns
returns c = let args = c.args in record {
  forward = c.true_patterns-truths.ensures.forward;
  told = tells_failure args.facts args.s.now args.here.at c.true_patterns-truths.result args.patterns c.complement-falsehoods.result
      c.intersection.result c.is_empty-fails.result c.true_patterns-truths.ensures.truths c.complement-falsehoods.ensures c.intersection.ensures c.is_empty-fails.ensures;
}
