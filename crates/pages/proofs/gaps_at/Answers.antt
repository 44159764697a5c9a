-- The gaps of a list to which none were added.
use Rattle.pages.proofs.Gathering.{all_gaps}
use Rattle.pages.proofs.gaps_at.Goals as goal

pub returns : goal.returns
returns c = all_gaps _ _ c.items_gaps.result c.items_gaps.ensures.found
