use mathlib.Core.Path.{ap}
use mathlib.Core.Bool.{not}
use Rattle.summaries.proofs.Steps.{claims_first, claims_end}
use Rattle.entries.proofs.Walks.{claim_moves}
use Rattle.entries.proofs.Gathering.{pass_goes, pass_fails, pass_ends}
use Rattle.entries.proofs.items_hold.Goals as goal

pub returns : goal.returns
returns c = λ xs R l k. pass_ends _ R c.args.s.now _ _ (c.loop-item.invariant R k) (λ ys m. claims_end c.args.s.now _ ys m _ c.claim_here.ensures.is c.in_default.is) xs l

pub returns-then-not-item_holds : goal.returns-then-not-item_holds
returns-then-not-item_holds c = λ xs R l k. pass_fails _ R c.args.s.now _ _ (c.loop-item.invariant R k) _ _ (λ ys l. claims_first c.args.s.now _ ys l _ c.claim_here.ensures.is _ _ c.in-Some.is) c.item_holds.result (c.item_holds.ensures (claim_moves c.args.s.now _ _ c.claim_here.ensures.fits _ _ c.in-Some.is).fits R k) (ap not c.if-not-item_holds.true) xs l

pub loop-item-preserved : goal.loop-item-preserved
loop-item-preserved c = λ R k. pass_goes _ R c.args.s.now _ _ (c.loop-item.invariant R k) _ _ (λ ys l. claims_first c.args.s.now _ ys l _ c.claim_here.ensures.is _ _ c.in-Some.is) c.item_holds.result (c.item_holds.ensures (claim_moves c.args.s.now _ _ c.claim_here.ensures.fits _ _ c.in-Some.is).fits R k) (ap not c.if-not-item_holds.false)
