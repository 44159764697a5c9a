use Rattle.entries.proofs.Loading.{unload_goes, unload_ends}
use Rattle.entries.proofs.unload.Goals as goal

pub returns : goal.returns
returns c = c.loop-item.invariant _ (unload_ends c.args.s.now _ c.claim_here.result c.claim_here.ensures.is c.in_default.is _)

pub loop-item-preserved : goal.loop-item-preserved
loop-item-preserved c = λ after l. c.loop-item.invariant after
    (unload_goes c.args.s.now _ c.claim_here.result c.claim_here.ensures.is _ _ c.in-Some.is c.claim_here.ensures.fits _ _ after c.forget.ensures l)
