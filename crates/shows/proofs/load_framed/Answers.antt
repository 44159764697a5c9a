-- The frame's template is loaded into nothing, and the entry of the variable plugged in.
use Rattle.shows.proofs.Statements.{framed}
use Rattle.shows.proofs.load_framed.Goals as goal

pub returns : goal.returns
returns c = let args = c.args in
    framed args.s.now args.heads.now args.gaps.now args.p args.x args.frame args.gap _ _ _ _ _ c.none-value.ensures c.load_entry.ensures c.add_template.ensures c.plug.ensures
