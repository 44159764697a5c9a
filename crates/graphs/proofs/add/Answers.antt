-- The item has the slot where the bit is set.
use borrow.Author.Rules.{rules}
use Rattle.graphs.proofs.Adding.{add_keeps}
use Rattle.graphs.proofs.add.Goals as goal

pub returns : goal.returns
returns c = add_keeps _ _ c.slot_of-slot.result _ c.slot_of-slot.ensures (search rules) c.with.ensures
