-- Both words in which the item may be held are emptied.
use Rattle.graphs.proofs.Forgetting.{forgets}
use Rattle.graphs.proofs.forget.Goals as goal

pub returns : goal.returns
returns c = forgets _ _ c.slot_of-slot.result _ c.slot_of-slot.ensures c.other_word-k.ensures
