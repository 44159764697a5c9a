-- The digits that are set are counted.
use Prim.Native.Nat.{◌<◌}
use native.Mathlib.Omega.{arith}
use borrow.Author.Rules.{rules}
use Rattle.proposals.proofs.Counts.{ones_below, ones_all, shifted}
use Rattle.proposals.proofs.count_members.Goals as goal

pub returns-then-below-eq64 : goal.returns-then-below-eq64
returns-then-below-eq64 c = rw c.if-below-eq64.true (ones_all 64 c.args.set (search rules))

pub returns : goal.returns
returns c = let low : c.args.below < 64 = omega (arith, c.requires, c.if-below-eq64.false) in
    rw (shifted c.args.below low) (ones_below c.args.below c.args.set)
