-- The items under the variable's head are added to nothing.
use Rattle.shows.proofs.Statements.{entry_loaded}
use Rattle.shows.proofs.load_entry.Goals as goal

pub returns : goal.returns
returns c = let args = c.args in
    entry_loaded args.s.now args.heads.now args.p args.x c.template_head.result.at c.template_head.ensures _ _ c.load.ensures
