use Prim.Native.Nat.{◌+◌, ◌-◌}
use mathlib.Core.Path.{◌≡◌}
use native.Mathlib.Omega.{arith}
use borrow.Author.Rules.{rules}
use Rattle.states.proofs.Taken.{graph_taken}
use Rattle.states.proofs.graph_at.Goals as goal

pub returns : goal.returns
returns c =
    let first = c.graph_place-first.result in
    let whole_row : first + 544 - first ≡ 544 = omega arith in
    graph_taken _ _ _ c.requires.0 (search rules) (λ k. (c.type_inv.work k).fits) _ _ c.graph_place-first.ensures (rw whole_row at c.copy_from_slice.ensures.after)
