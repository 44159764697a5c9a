-- A formula's truth from those of its parts, form by form. The measure is the unread bytes.
use Prim.Native.Nat.{◌-◌}
use lib.ListN.{length}
use Rattle.judging.proofs.+holds.Given as goal

abbrev pub decreases-holds : goal.decreases-holds
decreases-holds l = length l.v.now - l.here.at
