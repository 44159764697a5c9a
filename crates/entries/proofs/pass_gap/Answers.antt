-- Edges are added at the origins, which are taken out then.
use Rattle.entries.proofs.PassingOn.{none_plugged, no_gap, gap_plugged}
use Rattle.entries.proofs.pass_gap.Goals as goal

pub returns-in_default : goal.returns-in_default
returns-in_default c = λ S k. none_plugged S _ _ c.in_default.is k

pub returns-then-plug-ge-GAPS : goal.returns-then-plug-ge-GAPS
returns-then-plug-ge-GAPS c = λ S k. rw c.in-Some.is (no_gap S _ _ _ c.if-plug-ge-GAPS.true k)

pub returns : goal.returns
returns c = λ S k.
    let l = c.if-plug-ge-GAPS.false in
    rw c.in-Some.is (gap_plugged S _ _ _ _ _ l k (c.origins-open.ensures l) (c.drop_origins.ensures l _ (c.add_edges.ensures l S k)))
