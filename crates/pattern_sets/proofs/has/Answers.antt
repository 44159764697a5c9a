-- The pattern is a bit of one word.
use Rattle.pattern_sets.specs.Inner.PatternSets.{holds}
use Rattle.pattern_sets.proofs.has.Goals as goal

pub returns : goal.returns
unfolding holds
returns c = c.has.ensures
