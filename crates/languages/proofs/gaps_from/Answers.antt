use Rattle.languages.proofs.GapSets.{gap_sets_are}
use Rattle.languages.proofs.gaps_from.Goals as goal

pub returns : goal.returns
returns c = gap_sets_are _ _ _ _ c.requires _ c.loop-g.invariant c.loop-g-test.false
