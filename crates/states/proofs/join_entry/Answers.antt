use mathlib.Core.Path.{◌≡◌}
use native.Mathlib.Omega.{arith}
use borrow.Author.Rules.{rules}
use Rattle.states.proofs.Put.{row_begins, row_goes, row_read, row_ends, entry_within}
use Rattle.states.proofs.join_entry.Goals as goal

pub returns-then-lies_within : goal.returns-then-lies_within
returns-then-lies_within c = entry_within _ _ _ _ _ _ _ (search rules) (search rules) c.graph_place-first.ensures c.graph_place-from.ensures (c.lies_within.ensures c.if-lies_within.true)

pub loop-i-init : goal.loop-i-init
loop-i-init c = row_begins _ _ _

pub loop-i-preserved : goal.loop-i-preserved
loop-i-preserved c = let args = c.args in
    row_goes _ _ _ _ _ c.loop-i.i _ c.loop-i.gained c.join_word.result _ (search rules)
    (row_read _ _ _ _ args.q args.z _ _ c.loop-i.i c.loop-i.gained (search rules) (search rules) c.graph_place-first.ensures c.graph_place-from.ensures (search rules) c.loop-i.invariant)
    c.loop-i.invariant c.join_word.ensures (search rules) c.union-gained.ensures

pub returns : goal.returns
returns c =
    let whole_row : c.loop-i.i ≡ 544 = omega arith in
    row_ends _ _ _ (search rules) (search rules) _ _ _ c.loop-i.gained c.graph_place-first.ensures (rw whole_row at c.loop-i.invariant)
