-- By whether roots pass.
use Rattle.entries.proofs.Held.{root_held, root_left_out}
use Rattle.entries.proofs.root_holds.Goals as goal

pub returns-then-not-how : goal.returns-then-not-how
returns-then-not-how c = root_left_out c.args.graph.now c.args.how _ c.if-not-how.true

pub returns : goal.returns
returns c = root_held c.args.graph.now c.args.how _ _ c.is_member.result c.if-not-how.false c.roots.ensures c.is_member.ensures
