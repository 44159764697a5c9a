-- The patterns of attributes and contents joined, and the clause at each of them.
use Rattle.elements.proofs.Searches.{clause_tested}
use Rattle.elements.proofs.can_fail.Goals as goal

pub returns : goal.returns
returns c = let args = c.args in
    clause_tested args.s.now args.clause args.outer args.inner c.product-patterns.result c.clause_fails.result c.product-patterns.ensures c.clause_fails.ensures.told
