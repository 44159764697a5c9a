use Rattle.entries.proofs.Loading.{load_goes, load_ends}
use Rattle.entries.proofs.load.Goals as goal

pub loop-item-preserved : goal.loop-item-preserved
loop-item-preserved c = λ after l. c.loop-item.invariant after
    (load_goes c.args.s.now _ c.claim_here.result c.claim_here.ensures.is _ _ c.in-Some.is c.claim_here.ensures.fits _ _ after c.add.ensures l)

pub returns : goal.returns
returns c = c.loop-item.invariant _ (load_ends c.args.s.now _ c.claim_here.result c.claim_here.ensures.is c.in_default.is _)
