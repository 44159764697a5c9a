-- The members passed are written.
use Prim.Native.Nat.{◌-◌, ◌≤◌}
use Rattle.proposals.specs.Inner.Bytes.{prefix_bytes}
use Rattle.proposals.proofs.Members.{Written}
use Rattle.proposals.proofs.Prefix.put_members.Given as goal

abbrev pub invariant-loop-k : goal.invariant-loop-k
invariant-loop-k l = (l.from ≤ l.below) × Written (prefix_bytes l.self) l.set l.below l.initial.out l.at l.n l.out l.from

abbrev pub decreases-loop-k : goal.decreases-loop-k
decreases-loop-k l = l.below - l.from
