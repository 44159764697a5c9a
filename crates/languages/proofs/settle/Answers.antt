use Rattle.languages.proofs.Settling.{settling_begins, settling_goes, settled_first, less_left, no_sets}
use Rattle.languages.proofs.settle.Goals as goal

pub loop-settler-init : goal.loop-settler-init
loop-settler-init c = settling_begins _ _ _ _ _ _ (no_sets 32)

pub loop-settler-smaller : goal.loop-settler-smaller
loop-settler-smaller c = less_left _ _ _ _ c.if-more-eq0.false c.grown-more.ensures

pub loop-settler-preserved : goal.loop-settler-preserved
loop-settler-preserved c = let l = c.loop-settler in
    let g = c.all_targets-targets in
    let n = c.round-next in
    settling_goes _ _ _ _ _ g.result g.ensures l.sets l.changed l.made l.invariant n.result n.ensures _ c.grown-more.ensures c.if-more-eq0.false

pub returns-then-more-eq0 : goal.returns-then-more-eq0
returns-then-more-eq0 c = let l = c.loop-settler in
    let g = c.all_targets-targets in
    let n = c.round-next in
    settled_first _ _ _ _ _ g.result g.ensures l.sets l.changed l.made l.invariant n.result n.ensures _ c.grown-more.ensures c.if-more-eq0.true
