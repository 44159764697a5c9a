use Prim.Native.Nat.{◌*◌}
use native.Mathlib.Omega.{arith}
use borrow.Author.Rules.{rules}
use Rattle.proposals.proofs.Each.{writing_starts, writing_fits, writing_goes, writing_ends}
use Rattle.proposals.proofs.Tables.{filled_none, ends_more}
use Rattle.proposals.specs.Inner.Bytes.{headed_at, entries_bytes}
use Rattle.proposals.proofs.Entries.put_entries.Goals as goal

pub loop-i-init : goal.loop-i-init
loop-i-init c = let args = c.args in (writing_starts (headed_at args.self.now.templates args.self.now.work.now) _ _, filled_none _)

pub put_variable-n-requires : goal.put_variable-n-requires
unfolding entries_bytes
put_variable-n-requires c = let args = c.args in
    let pre = c.requires in
    (writing_fits (headed_at args.self.now.templates args.self.now.work.now) _ _ (args.self.now.points * 8) c.loop-i.i c.loop-i.n c.loop-i.out (search rules) pre.0 c.loop-i.invariant.0, search rules, pre.1 c.loop-i.i (search rules), c.loop-i.invariant.1.holds)

pub loop-i-preserved : goal.loop-i-preserved
unfolding entries_bytes
loop-i-preserved c = let args = c.args in
    let pre = c.requires in
    let w = c.put_variable-n.ensures in
    let fits = writing_fits (headed_at args.self.now.templates args.self.now.work.now) _ _ (args.self.now.points * 8) c.loop-i.i c.loop-i.n c.loop-i.out (search rules) pre.0 c.loop-i.invariant.0 in
    (writing_goes (headed_at args.self.now.templates args.self.now.work.now) _ _ c.loop-i.i c.loop-i.n c.loop-i.out _ _ c.loop-i.invariant.0 w, ends_more args.self.now.templates args.self.now.work.now c.loop-i.out c.loop-i.n _ _ c.loop-i.i c.loop-i.ends (omega (arith, args.self.now.few_points)) fits w c.loop-i.invariant.1)

pub returns : goal.returns
unfolding entries_bytes
returns c = let args = c.args in writing_ends (headed_at args.self.now.templates args.self.now.work.now) _ _ (args.self.now.points * 8) c.loop-i.i _ _ (omega arith) (omega arith) c.loop-i.invariant.0
