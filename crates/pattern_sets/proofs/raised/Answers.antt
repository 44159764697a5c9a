-- Of the set and the set moved, what has the flag.
use Rattle.pattern_sets.proofs.Imaging.{raise_image}
use borrow.Author.Rules.{rules}
use Rattle.pattern_sets.proofs.raised.Goals as goal

pub returns : goal.returns
returns c = raise_image c.args.i c.requires c.args.set c.flagged.result c.shifted.result
    c.union.result c.intersection.result (search rules) (search rules) c.flagged.ensures
    c.shifted.ensures c.union.ensures c.intersection.ensures
