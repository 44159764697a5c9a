-- Whether a shape decides a formula, from its parts, form by form. The measure is the unread bytes.
use Prim.Native.Nat.{◌-◌}
use lib.ListN.{length}
use Rattle.judging.proofs.+is_settled.Given as goal

abbrev pub decreases-is_settled : goal.decreases-is_settled
decreases-is_settled l = length l.v.now - l.here.at
