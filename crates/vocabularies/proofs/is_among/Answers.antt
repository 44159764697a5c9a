-- The facts that are kept are compared.
use Rattle.vocabularies.proofs.FactLists.{told_among}
use Rattle.vocabularies.proofs.is_among.Goals as goal

pub returns : goal.returns
returns c = told_among _ _ _ c.requires c.contains.ensures.value
