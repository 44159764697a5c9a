-- What the page is made from is loaded, and closed.
use Rattle.shows.proofs.Statements.{closed_source}
use Rattle.shows.proofs.shown_graph.Goals as goal

pub returns : goal.returns
returns c = let args = c.args in
    closed_source args.s.now args.heads.now args.gaps.now args.p args.source _ _ _ c.load_source.ensures c.close.ensures
