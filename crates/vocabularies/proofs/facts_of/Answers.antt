use Rattle.vocabularies.proofs.Gathering.{conj_adds, disj_adds, neg_adds, truth_adds, attr_adds, content_adds, value_adds}
use Rattle.vocabularies.proofs.Pending.{gathering_starts, gathering_ends, gathering_cut, gathering_on}
use Rattle.vocabularies.proofs.facts_of.Goals as goal

pub loop-here-init : goal.loop-here-init
loop-here-init c = search gathering_starts

pub loop-here-preserved-in-Conj : goal.loop-here-preserved-in-Conj
loop-here-preserved-in-Conj c = gathering_on _ _ _ _ _ c.loop-here-test.true c.loop-here.invariant c.in-Conj.ensures _ (conj_adds _)

pub loop-here-preserved-in-Conj-2 : goal.loop-here-preserved-in-Conj-2
loop-here-preserved-in-Conj-2 c = gathering_on _ _ _ _ _ c.loop-here-test.true c.loop-here.invariant c.in-Conj.ensures _ (disj_adds _)

pub loop-here-preserved-in-Conj-3 : goal.loop-here-preserved-in-Conj-3
loop-here-preserved-in-Conj-3 c = gathering_on _ _ _ _ _ c.loop-here-test.true c.loop-here.invariant c.in-Conj.ensures _ (neg_adds _)

pub loop-here-preserved : goal.loop-here-preserved
loop-here-preserved c = gathering_on _ _ _ _ _ c.loop-here-test.true c.loop-here.invariant c.in-Conj.ensures _ (truth_adds _)

pub loop-here-preserved-in-Attr-1 : goal.loop-here-preserved-in-Attr-1
loop-here-preserved-in-Attr-1 c = gathering_on _ _ _ _ _ c.loop-here-test.true c.loop-here.invariant c.in-Attr.ensures _ (search attr_adds)

pub loop-here-preserved-in-Content-1 : goal.loop-here-preserved-in-Content-1
loop-here-preserved-in-Content-1 c = gathering_on _ _ _ _ _ c.loop-here-test.true c.loop-here.invariant c.in-Content.ensures _ (search content_adds)

pub loop-here-preserved-in-Order-1 : goal.loop-here-preserved-in-Order-1
loop-here-preserved-in-Order-1 c = gathering_on _ _ _ _ _ c.loop-here-test.true c.loop-here.invariant c.in-Order.ensures _ c.with_order-facts.ensures

pub loop-here-preserved-in-Value-1 : goal.loop-here-preserved-in-Value-1
loop-here-preserved-in-Value-1 c = gathering_on _ _ _ _ _ c.loop-here-test.true c.loop-here.invariant c.in-Value.ensures _ (search value_adds)

pub returns-in-Nothing : goal.returns-in-Nothing
returns-in-Nothing c = gathering_cut _ _ _ _ _ c.loop-here-test.true c.loop-here.invariant c.in-Nothing.ensures

pub returns : goal.returns
returns c = search gathering_ends
