-- The lower of what is plainly wrong and of what is wrong by a clause.
use Rattle.shows.proofs.Elements.{elements_are}
use Rattle.shows.proofs.wrong_elements.Goals as goal

pub returns : goal.returns
returns c = λ j p A T exact sets.
    let bytes = c.type_inv.s in
    let args = c.args in
    elements_are _ _ _ _ _ _ j p A (λ i. (bytes i).fits) T exact args.classes sets c.yielding-yields.result c.yielding-yields.ensures c.reached-reached.result c.reached-reached.ensures
    c.contents_of-within.result c.contents_of-within.ensures c.plainly_wrong-plain.result c.plainly_wrong-plain.ensures c.search_rules-by_clause.result c.search_rules-by_clause.ensures c.lower.result c.lower.ensures
