-- From what each of its gaps takes.
use Rattle.elements.proofs.Templates.{template_searched}
use Rattle.elements.proofs.search_template.Goals as goal

pub returns : goal.returns
returns c = let args = c.args in
    template_searched args.s.now args.start.at args.clause args.graph.now args.sets.now args.n c.gaps_from-takes.result c.gaps_from-takes.ensures c.search_items.result c.search_items.ensures.searched
