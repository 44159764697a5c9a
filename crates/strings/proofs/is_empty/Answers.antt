-- There is a first one, or none.
use Rattle.strings.proofs.Laws.{first_decides}
use Rattle.strings.proofs.is_empty.Goals as goal

pub returns-in-Named : goal.returns-in-Named
returns-in-Named c = rw c.in-Named.is (first_decides _ _ c.next.ensures _ c.is_none.ensures)
