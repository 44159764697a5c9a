use mathlib.Core.Path.{◌≡◌, refl}
use native.Mathlib.Omega.{arith}
use borrow.Author.Rules.{rules}
use Rattle.states.proofs.Put.{row_begins, row_goes, row_ends}
use Rattle.states.proofs.join_graph.Goals as goal

pub loop-i-init : goal.loop-i-init
loop-i-init c = row_begins _ _ _

pub loop-i-preserved : goal.loop-i-preserved
loop-i-preserved c = row_goes _ _ _ _ _ c.loop-i.i _ c.loop-i.gained c.join_word.result _ (omega (arith, c.graph_place-first.ensures, c.requires)) refl c.loop-i.invariant c.join_word.ensures (search rules) c.union-gained.ensures

pub returns : goal.returns
returns c =
    let whole_row : c.loop-i.i ≡ 544 = omega arith in
    row_ends _ _ _ (search rules) (search rules) _ _ _ c.loop-i.gained c.graph_place-first.ensures (rw whole_row at c.loop-i.invariant)
