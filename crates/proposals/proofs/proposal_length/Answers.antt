use Prim.Native.Nat.{◌*◌, ◌/◌, ◌%◌}
use mathlib.Core.Path.{ap}
use mathlib.Core.List.{[], ◌∷◌}
use native.Mathlib.Omega.{arith}
use lib.ListN.{length, length-append}
use borrow.Author.Rules.{rules}
use Rattle.proposals.proofs.Each.{counting_starts, counting_goes, counting_ends}
use Rattle.proposals.specs.Inner.Bytes.{items_at, headed_at, entries_bytes}
use Rattle.proposals.proofs.Written.{proposal_written}
use Rattle.proposals.proofs.proposal_length.Goals as goal

pub loop-i-init : goal.loop-i-init
loop-i-init c = (omega arith, λ templates work counted. counting_starts (headed_at templates work))

pub loop-i-preserved : goal.loop-i-preserved
loop-i-preserved c = let pre = c.requires in
    let r = c.with_head-total.ensures in (
      omega (arith, c.loop-i.invariant.0, r.0, pre.1 c.loop-i.i (search rules)),
      λ templates work counted.
          counting_goes (headed_at templates work) c.loop-i.i _ _ (c.loop-i.invariant.1 templates work counted) (r.1 (c.loop-i.i / 8) (c.loop-i.i % 8) (items_at templates work c.loop-i.i) (counted c.loop-i.i (search rules))),
    )

pub returns : goal.returns
unfolding entries_bytes
returns c = λ templates work counted.
    let args = c.args in
    let e = counting_ends (headed_at templates work) (args.points * 8) c.loop-i.i _ (omega arith) (omega arith) (c.loop-i.invariant.1 templates work counted) in
    omega (arith, e, ap length (proposal_written templates args.points work), length-append (entries_bytes templates work (args.points * 8)) (0x4F ∷ []))
