-- The items of each sort are written behind those of the sorts before it.
use Rattle.memory.proofs.Laid.{writes_then}
use Rattle.proposals.specs.Inner.Bytes.{template_bytes}
use Rattle.proposals.proofs.Listing.put_template.Goals as goal

pub returns : goal.returns
unfolding template_bytes
returns c = writes_then _ _ _ _ _ _ _ _
    (writes_then _ _ _ _ _ _ _ _
    (writes_then _ _ _ _ _ _ _ _
    (writes_then _ _ _ _ _ _ _ _
    (writes_then _ _ _ _ _ _ _ _ c.put_sort-roots.ensures c.put_sort-edges.ensures)
    c.put_sort-listed.ensures)
    c.put_sort-any.ensures)
    c.put_sort-origins.ensures)
    c.put_sort.ensures
