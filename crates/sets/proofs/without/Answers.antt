-- What the words have in common is taken away.
use Rattle.sets.proofs.Laws.{member_without}
use Rattle.sets.proofs.without.Goals as goal

pub returns : goal.returns
returns c = member_without c.args.a c.args.b
