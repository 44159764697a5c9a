-- Each blank text is passed over, up to what is none.
use Prim.Native.Nat.{◌-◌}
use lib.ListN.{length}
use Rattle.judge.proofs.BlankLaws.{Passing}
use Rattle.judge.proofs.after_blank.Given as goal

abbrev pub invariant-loop-next : goal.invariant-loop-next
invariant-loop-next l = Passing l.page l.initial.p.at l.p.at

abbrev pub decreases-loop-next : goal.decreases-loop-next
decreases-loop-next l = length l.page - l.p.at
