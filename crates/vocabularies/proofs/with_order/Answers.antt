-- The three facts are added in the order of the definition.
use Rattle.vocabularies.proofs.Gathering.{order_adds}
use Rattle.vocabularies.proofs.with_order.Goals as goal

pub returns : goal.returns
returns c = search order_adds
