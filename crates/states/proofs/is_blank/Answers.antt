-- The words of the row are gathered: where none has a member, all are zero.
use Prim.Native.Nat.{ℕ, ◌+◌, ◌-◌, ◌<◌}
use mathlib.Core.Path.{◌≡◌, ap, ◌∙◌}
use native.Mathlib.Omega.{arith}
use lib.ListN.{length, get_or, take, drop, length-take, length-drop}
use lib.Seq.{length-take-le}
use borrow.Author.Tests.{eqb-true}
use Rattle.sets.specs.Sets.{member}
use Rattle.states.proofs.Taken.{nothing_there}
use Rattle.states.proofs.Gathering.{gathers, words_zero, row_word}
use Rattle.states.proofs.is_blank.Goals as goal

pub loop-word-init : goal.loop-word-init
loop-word-init c = λ k l. absurd (omega arith)

pub loop-word-preserved : goal.loop-word-preserved
loop-word-preserved c =
    let work = c.args.work.now in
    let first = c.graph_place-first.result in
    let i = c.loop-word.word-index in
    let whole_row : first + 544 - first ≡ 544 = omega arith in
    let low : i < 544 = omega (arith, length-take (first + 544 - first) (drop first work)) in
    let is : get_or (take (first + 544 - first) (drop first work)) i 0 ≡ get_or work (first + i) 0 = rw whole_row (row_word work first i low) in
    gathers _ i c.loop-word.all _ _ c.loop-word.invariant (λ b. ap (λ (w : ℕ). member w b) is) c.union-all.ensures

pub returns : goal.returns
returns c = λ e.
    let work = c.args.work.now in
    let first = c.graph_place-first.result in
    let whole_row : first + 544 - first ≡ 544 = omega arith in
    let size : length (take (first + 544 - first) (drop first work)) ≡ 544 = rw whole_row (length-take-le 544 (drop first work) (omega (arith, length-drop first work, c.graph_place-first.ensures, c.requires))) in
    let done : c.loop-word.word-index ≡ 544 = omega (arith, size) in
    nothing_there work _ _ first c.graph_place-first.ensures
    (λ k l. row_word work first k l ∙ words_zero work first 544 c.loop-word.all (λ k. (c.type_inv.work k).fits) (rw done at c.loop-word.invariant) (eqb-true _ 0 e) k l)
