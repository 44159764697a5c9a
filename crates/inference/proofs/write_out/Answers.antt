-- It does not fit after the place, or it is written there.
use Prim.Native.Nat.{◌*◌}
use native.Mathlib.Omega.{arith}
use Rattle.proposals.proofs.Heads.{few_bytes}
use Rattle.inference.proofs.Answers.{no_room_out, written_out}
use borrow.Author.Rules.{rules}
use Rattle.inference.proofs.write_out.Goals as goal

pub proposal_length-needed-requires : goal.proposal_length-needed-requires
proposal_length-needed-requires c = let args = c.args in
    let pre = c.requires in
    (pre.2, few_bytes args.templates (omega (arith, pre.1)) args.work.now (args.points * 8) c.entry_lengths-lengths.result c.entry_lengths-lengths.ensures)

pub returns-then-buffer-place : goal.returns-then-buffer-place
returns-then-buffer-place c = no_room_out _ _ _ _ (c.proposal_length-needed.ensures c.args.templates c.args.work.now c.entry_lengths-lengths.ensures) (search rules)

pub returns-then-buffer-place-2 : goal.returns-then-buffer-place-2
returns-then-buffer-place-2 c = no_room_out _ _ _ _ (c.proposal_length-needed.ensures c.args.templates c.args.work.now c.entry_lengths-lengths.ensures) (search rules)

pub put_from-requires : goal.put_from-requires
put_from-requires c = let pre = c.requires in
    let needed = c.proposal_length-needed.ensures c.args.templates c.args.work.now c.entry_lengths-lengths.ensures in
    (omega (arith, needed), omega (arith, pre.0, pre.2), omega (arith, pre.1), pre.2, c.entry_lengths-lengths.ensures)

pub returns : goal.returns
returns c = written_out _ _ _ _ (c.proposal_length-needed.ensures c.args.templates c.args.work.now c.entry_lengths-lengths.ensures) (search rules) _ _ c.put_from.ensures
