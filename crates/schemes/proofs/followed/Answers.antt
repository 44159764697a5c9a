-- The empty word changes nothing.
use Rattle.schemes.proofs.Products.{followed_empty}
use Rattle.schemes.proofs.followed.Goals as goal

pub returns-then-p-eq-EMPTY : goal.returns-then-p-eq-EMPTY
returns-then-p-eq-EMPTY c = let args = c.args in
    followed_empty args.r args.a _ args.p c.only-own.ensures c.if-p-eq-EMPTY.true
