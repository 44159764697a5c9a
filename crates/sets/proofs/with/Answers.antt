-- The word that is joined has one member.
use Rattle.sets.proofs.Laws.{member_with}
use Rattle.sets.proofs.with.Goals as goal

pub returns : goal.returns
returns c = member_with c.args.set c.args.i c.requires
