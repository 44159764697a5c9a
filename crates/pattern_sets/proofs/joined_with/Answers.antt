-- The pairs first, and then the flags of x.
use Rattle.pattern_sets.proofs.Imaging.{join_nothing, join_image}
use borrow.Author.Rules.{rules}
use Rattle.pattern_sets.proofs.joined_with.Goals as goal

pub returns-then-x-eq0 : goal.returns-then-x-eq0
returns-then-x-eq0 c = λ apart. join_nothing c.args.x c.args.set (search rules) c.args.firsts c.args.seconds c.if-x-eq0.true

pub returns : goal.returns
returns c = λ apart.
    let args = c.args in
    join_image args.x args.set (search rules) args.firsts args.seconds c.crossed_by.result c.raised_by.result
    (c.crossed_by.ensures apart) c.raised_by.ensures
