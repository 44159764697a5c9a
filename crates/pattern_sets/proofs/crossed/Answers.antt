-- The patterns with the one flag get the other; the rest stays.
use Rattle.pattern_sets.proofs.Imaging.{cross_image}
use borrow.Author.Rules.{rules}
use Rattle.pattern_sets.proofs.crossed.Goals as goal

pub returns : goal.returns
returns c = cross_image c.args.c c.args.i c.args.set c.flagged-those.result c.difference.result
    c.intersection.result c.raised.result c.union.result (search rules)
    c.flagged-those.ensures c.difference.ensures
    c.intersection.ensures c.raised.ensures c.union.ensures
