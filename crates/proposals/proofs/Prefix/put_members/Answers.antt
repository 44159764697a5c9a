-- A member is written where numbers that are none were passed; at the end, and at a member past the limit, all are.
use native.Mathlib.Omega.{arith}
use Rattle.proposals.specs.Inner.Bytes.{prefix_bytes}
use Rattle.proposals.proofs.Each.{writing_starts}
use Rattle.proposals.proofs.Members.{items, none_after, write_fits, write_goes, write_ends}
use Rattle.proposals.proofs.Prefix.put_members.Goals as goal

pub loop-k-init : goal.loop-k-init
loop-k-init c = (omega arith, writing_starts (items (prefix_bytes c.args.self) c.args.set c.args.below) _ _)

pub returns-then-below-k : goal.returns-then-below-k
returns-then-below-k c = let I = c.loop-k.invariant in
    write_ends (prefix_bytes c.args.self) c.args.set _ _ _ _ _ _ I.1 I.0 (λ k l m. c.in-Some.ensures.skips k l (omega (arith, c.if-below-k.true)))

pub put_item-n-requires : goal.put_item-n-requires
put_item-n-requires c = write_fits (prefix_bytes c.args.self) c.args.set _ _ _ _ _ _ c.loop-k.invariant.1 _ c.in-Some.ensures (omega arith) c.requires.0

pub loop-k-preserved : goal.loop-k-preserved
loop-k-preserved c = (omega arith, write_goes (prefix_bytes c.args.self) c.args.set c.args.below _ _ _ _ _ c.loop-k.invariant.1 _ c.in-Some.ensures _ _ c.put_item-n.ensures)

pub returns : goal.returns
returns c = let I = c.loop-k.invariant in
    write_ends (prefix_bytes c.args.self) c.args.set _ _ _ _ _ _ I.1 I.0 (λ k l m. none_after _ _ _ c.next_member.ensures c.in_default.not-Some k l)
