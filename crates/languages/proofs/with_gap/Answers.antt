-- The gap changes nothing, or there is a new set.
use Rattle.languages.proofs.Lines.{gap_kept, gap_new}
use Rattle.languages.proofs.with_gap.Goals as goal

pub returns-then-same : goal.returns-then-same
returns-then-same c = let a = c.args in
    gap_kept a.r a.takes.now a.line a.g c.requires _ c.product-joined.ensures c.same.result c.if-same.true c.same.ensures _ _ c.with.ensures c.without.ensures

pub returns : goal.returns
returns c = let a = c.args in
    gap_new a.r a.takes.now a.line a.g c.requires _ c.product-joined.ensures _ c.line_of.ensures
