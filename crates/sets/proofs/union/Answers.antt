-- A bit of the union is set where either's is.
use Rattle.sets.proofs.Laws.{member_or}
use Rattle.sets.proofs.union.Goals as goal

pub returns : goal.returns
returns c = member_or c.args.a c.args.b
