use Rattle.sets.specs.Sets.{member}
use Rattle.sets.proofs.Laws.{member_zero}
use Rattle.commands.specs.declared.Context.TheVariants.{TemplateHoldings}
use Rattle.summaries.specs.Proposal.{root}
use Rattle.summaries.specs.Summaries.{says_claim}
use Rattle.summaries.proofs.Steps.{claims_first, claims_end}
use Rattle.entries.proofs.Walks.{claim_moves}
use Rattle.entries.proofs.Gathering.{gather_begins, gather_goes, gather_ends}
use Rattle.entries.proofs.roots_of.Goals as goal

pub loop-item-init : goal.loop-item-init
loop-item-init c = gather_begins says_claim root TemplateHoldings _ _ (member 0) member_zero

pub returns : goal.returns
returns c = let s = c.args.s.now in
    gather_ends says_claim root TemplateHoldings s _ _ (member c.loop-item.found) c.loop-item.invariant (λ ys m. claims_end s _ ys m _ c.claim_here.ensures.is c.in_default.is)

pub loop-item-preserved : goal.loop-item-preserved
loop-item-preserved c = let s = c.args.s.now in
    let e = c.in-Some.is in
    gather_goes says_claim root TemplateHoldings s _ _ (member c.loop-item.found) c.loop-item.invariant _ _ (λ ys m. claims_first s _ ys m _ c.claim_here.ensures.is _ _ e) (member c.with_root-found.result) (c.with_root-found.ensures (claim_moves s _ _ c.claim_here.ensures.fits _ _ e).fits)
