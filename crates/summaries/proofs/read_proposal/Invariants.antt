-- What is kept so far and what reads on from here make up the whole; each head moves the position on.
use Prim.Native.Nat.{ℕ, ◌-◌}
use mathlib.Core.Path.{◌≡◌}
use mathlib.Core.List.{List}
use lib.ListN.{length}
use Rattle.programs.proofs.Laws.{Stay}
use Rattle.std.specs.Prelude.{Result}
use Rattle.commands.specs.declared.Position.{Position}
use Rattle.commands.specs.declared.ReadError.{ReadError}
use Rattle.summaries.specs.Inner.Promises.{ProposalReads}
use Rattle.summaries.proofs.Heads.{Unwritten}
use Rattle.summaries.proofs.read_proposal.Given as goal

abbrev pub invariant-loop-code : goal.invariant-loop-code
invariant-loop-code l = (length l.heads ≡ 256)
    × Unwritten l.least l.heads
    × ((kept : List ℕ) (r : Result Position ReadError) → Stay l.least l.heads kept → ProposalReads l.templates l.points l.s l.least l.at.at kept r → ProposalReads l.templates l.points l.s 0 l.initial.at.at kept r)

abbrev pub decreases-loop-code : goal.decreases-loop-code
decreases-loop-code l = length l.s - l.at.at
