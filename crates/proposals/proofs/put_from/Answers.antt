-- What was lent comes back written.
use native.Mathlib.Omega.{arith}
use Rattle.summaries.specs.ProposalOf.{proposal_of}
use Rattle.summaries.specs.WrittenProposal.{written_proposal}
use Rattle.states.specs.Inner.States.{entries_in}
use Rattle.memory.proofs.Laid.{part_laid}
use Rattle.proposals.proofs.put_from.Goals as goal

pub returns : goal.returns
returns c = let args = c.args in
    let bytes = written_proposal (proposal_of args.templates args.points (entries_in args.points args.work.now)) in
    let w = c.put_proposal.ensures in
    (omega (arith, w.0), part_laid args.buffer.now _ args.place bytes c.requires.0 w.1)
