-- A head, then the items; nothing where there is none.
use Prim.Native.Nat.{◌/◌, ◌%◌}
use mathlib.Core.Path.{sym, ◌∙◌}
use Rattle.memory.proofs.Laid.{writes_none, writes_same, writes_then, writes_fits}
use Rattle.proposals.specs.Inner.Bytes.{items_at}
use Rattle.proposals.proofs.Heads.{head_none, head_some}
use Rattle.proposals.proofs.Tables.{stand_kept}
use Rattle.proposals.proofs.Entries.put_variable.Goals as goal

pub returns-then-size-eq0 : goal.returns-then-size-eq0
returns-then-size-eq0 c = let args = c.args in
    let e = c.requires.2 in
    writes_same _ _ _ _ _ _ (head_none (args.i / 8) (args.i % 8) (items_at args.self.now.templates args.self.now.work.now args.i) (sym e ∙ c.if-size-eq0.true)) (writes_none _ _)

pub put_items-requires : goal.put_items-requires
put_items-requires c = let args = c.args in
    let pre = c.requires in
    let items = items_at args.self.now.templates args.self.now.work.now args.i in
    let whole = head_some (args.i / 8) (args.i % 8) items (λ z. c.if-size-eq0.false (pre.2 ∙ z)) in
    (writes_fits _ _ _ items _ _ c.put-n.ensures (rw whole at pre.0), pre.1, pre.2, stand_kept args.self.now.templates args.self.now.work.now _ _ _ _ _ c.put-n.ensures args.i args.ends.now pre.3)

pub returns : goal.returns
returns c = let args = c.args in
    let pre = c.requires in
    let whole = head_some (args.i / 8) (args.i % 8) (items_at args.self.now.templates args.self.now.work.now args.i) (λ z. c.if-size-eq0.false (pre.2 ∙ z)) in
    writes_same _ _ _ _ _ _ whole (writes_then _ _ _ _ _ _ _ _ c.put-n.ensures c.put_items.ensures)
