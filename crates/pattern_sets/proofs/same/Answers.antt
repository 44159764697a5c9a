-- Sets differ where one of their words does.
use Prim.Native.Nat.{ℕ, ◌+◌, ◌<◌}
use mir.Syntax.{w64}
use mathlib.Core.Path.{◌≡◌, refl, sym, ap}
use mathlib.Core.List.{List}
use mathlib.Core.Bool.{true, false, false≢true}
use native.Mathlib.Omega.{arith}
use native.Mathlib.Decide.{ℕ_discrete}
use lib.ListN.{length, get_or}
use borrow.Author.Rules.{rules, elem_Fits}
use Rattle.std.proofs.lemmas.Grind.{same_number_lists}
use Rattle.pattern_sets.proofs.Laws.{tells_same}
use Rattle.pattern_sets.proofs.same.Goals as goal

pub loop-i-init : goal.loop-i-init
loop-i-init c = λ k l. absurd (omega arith)

pub returns-then-a-i : goal.returns-then-a-i
returns-then-a-i c =
    let a = c.well_formed.0 in
    let b = c.well_formed.1.0 in
    tells_same c.args.a c.args.b (search rules) (search rules) (λ i h. ((elem_Fits w64 w64 c.args.a a.0 i a.1.1 tt).fits, (elem_Fits w64 w64 c.args.b b.0 i b.1.1 tt).fits))
    false (λ e. absurd (false≢true e)) (λ e. absurd (c.if-a-i.true (ap (λ (s : List ℕ). get_or s c.loop-i.i 0) e)))

pub loop-i-preserved : goal.loop-i-preserved
loop-i-preserved c = λ k l. go k l (ℕ_discrete k c.loop-i.i)
  where
    go : (k : ℕ) → k < c.loop-i.i + 1 → Dec (k ≡ c.loop-i.i) → get_or c.args.a k 0 ≡ get_or c.args.b k 0
    go k l (yes q) = rw q c.if-a-i.false
    go k l (no n) = c.loop-i.invariant k (omega arith)

pub returns : goal.returns
returns c =
    let a = c.well_formed.0 in
    let b = c.well_formed.1.0 in
    let four : length c.args.a ≡ 4 = search rules in
    let four' : length c.args.b ≡ 4 = search rules in
    tells_same c.args.a c.args.b four four' (λ i h. ((elem_Fits w64 w64 c.args.a a.0 i a.1.1 tt).fits, (elem_Fits w64 w64 c.args.b b.0 i b.1.1 tt).fits))
    true (λ e. same_number_lists c.args.a c.args.b (omega arith) (λ k l. c.loop-i.invariant k (omega (arith, c.loop-i-test.false)))) (λ e. refl)
