-- Strings are added at the origins, which are taken out then.
use Rattle.entries.proofs.PassingOn.{none_filled, no_attribute, attribute_filled}
use Rattle.entries.proofs.pass_attribute.Goals as goal

pub returns-in_default : goal.returns-in_default
returns-in_default c = λ S k. none_filled S _ _ c.in_default.is k

pub returns-then-fill-ge-GAPS : goal.returns-then-fill-ge-GAPS
returns-then-fill-ge-GAPS c = λ S k. rw c.in-Some.is (no_attribute S _ _ _ c.if-fill-ge-GAPS.true k)

pub returns : goal.returns
returns c = λ S k.
    let l = c.if-fill-ge-GAPS.false in
    rw c.in-Some.is (attribute_filled S _ _ _ _ _ l k (c.attribute_origins-open.ensures l) (c.drop_attribute_origins.ensures l _ (c.add_strings.ensures l S k)))
