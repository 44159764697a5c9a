use Rattle.entries.proofs.Templates.{loading_begins, loading_goes, loading_ends}
use Rattle.entries.proofs.add_template.Goals as goal

pub loop-k-init : goal.loop-k-init
loop-k-init c = λ f R k. loading_begins _ _ R _ k

pub loop-k-preserved : goal.loop-k-preserved
loop-k-preserved c = λ f R k. loading_goes _ _ R _ c.loop-k-test.true _ _ (c.loop-k.invariant f R k) (c.add_origin.ensures f)

pub returns : goal.returns
returns c = λ φ R g f k. loading_ends _ _ R _ c.loop-k-test.false φ g _ (c.loop-k.invariant f R (c.add.ensures f R k))
