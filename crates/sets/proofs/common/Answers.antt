-- The law of a conjunction of words.
use Rattle.sets.proofs.Laws.{member_and}
use Rattle.sets.proofs.common.Goals as goal

pub returns : goal.returns
returns c = member_and c.args.a c.args.b
