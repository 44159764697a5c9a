-- The points, then the end.
use Prim.Native.Nat.{◌*◌}
use mathlib.Core.Path.{ap}
use mathlib.Core.List.{[], ◌∷◌}
use native.Mathlib.Omega.{arith}
use lib.ListN.{length, length-append}
use Rattle.memory.proofs.Laid.{writes_same, writes_then, writes_fits}
use Rattle.proposals.specs.Inner.Bytes.{entries_bytes}
use Rattle.proposals.proofs.Written.{proposal_written}
use Rattle.proposals.proofs.put_proposal.Goals as goal

pub put_entries-n-requires : goal.put_entries-n-requires
put_entries-n-requires c = let args = c.args in
    let pre = c.requires in
    (omega (arith, pre.0, ap length (proposal_written args.templates args.points args.work.now), length-append (entries_bytes args.templates args.work.now (args.points * 8)) (0x4F ∷ [])), pre.4)

pub put-requires : goal.put-requires
put-requires c = let args = c.args in
    omega (arith, writes_fits _ _ _ (0x4F ∷ []) _ _ c.put_entries-n.ensures (omega (arith, c.requires.0, ap length (proposal_written args.templates args.points args.work.now))))

pub returns : goal.returns
returns c = let args = c.args in writes_same _ _ _ _ _ _ (proposal_written args.templates args.points args.work.now) (writes_then _ _ _ _ _ _ _ _ c.put_entries-n.ensures c.put.ensures)
