-- The bytes of the entries passed are counted, then the end.
use Prim.Native.Nat.{ℕ, ◌*◌, ◌≤◌}
use mathlib.Core.Path.{◌≡◌}
use mathlib.Core.List.{List}
use lib.ListN.{length}
use Rattle.summaries.specs.ProposalOf.{each}
use Rattle.proposals.specs.Inner.Bytes.{headed_at, Counted}
use Rattle.proposals.proofs.proposal_length.Given as goal

abbrev pub invariant-loop-i : goal.invariant-loop-i
invariant-loop-i l = (l.total ≤ l.i * 393219)
    × ((templates : ℕ) (work : List ℕ) → Counted templates work (l.points * 8) l.lengths → l.total ≡ length (each l.i (headed_at templates work)))
