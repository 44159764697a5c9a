-- Each table is checked at all patterns.
use native.Mathlib.Omega.{arith}
use mathlib.Core.List.{[], ◌∷◌}
use Rattle.sets.specs.Sets.{member}
use Rattle.pattern_sets.specs.Inner.PatternSets.{holds}
use Rattle.pattern_sets.proofs.Tables.{table, none_flagged}
use Rattle.pattern_sets.proofs.flagged.Goals as goal

pub returns-in-0 : goal.returns-in-0
unfolding holds member
returns-in-0 c = rw c.in-0.is (table (0xAAAA_AAAA_AAAA_AAAA ∷ 0xAAAA_AAAA_AAAA_AAAA ∷ 0xAAAA_AAAA_AAAA_AAAA ∷ 0xAAAA_AAAA_AAAA_AAAA ∷ []) 0 tt)

pub returns-in-1 : goal.returns-in-1
unfolding holds member
returns-in-1 c = rw c.in-1.is (table (0xCCCC_CCCC_CCCC_CCCC ∷ 0xCCCC_CCCC_CCCC_CCCC ∷ 0xCCCC_CCCC_CCCC_CCCC ∷ 0xCCCC_CCCC_CCCC_CCCC ∷ []) 1 tt)

pub returns-in-2 : goal.returns-in-2
unfolding holds member
returns-in-2 c = rw c.in-2.is (table (0xF0F0_F0F0_F0F0_F0F0 ∷ 0xF0F0_F0F0_F0F0_F0F0 ∷ 0xF0F0_F0F0_F0F0_F0F0 ∷ 0xF0F0_F0F0_F0F0_F0F0 ∷ []) 2 tt)

pub returns-in-3 : goal.returns-in-3
unfolding holds member
returns-in-3 c = rw c.in-3.is (table (0xFF00_FF00_FF00_FF00 ∷ 0xFF00_FF00_FF00_FF00 ∷ 0xFF00_FF00_FF00_FF00 ∷ 0xFF00_FF00_FF00_FF00 ∷ []) 3 tt)

pub returns-in-4 : goal.returns-in-4
unfolding holds member
returns-in-4 c = rw c.in-4.is (table (0xFFFF_0000_FFFF_0000 ∷ 0xFFFF_0000_FFFF_0000 ∷ 0xFFFF_0000_FFFF_0000 ∷ 0xFFFF_0000_FFFF_0000 ∷ []) 4 tt)

pub returns-in-5 : goal.returns-in-5
unfolding holds member
returns-in-5 c = rw c.in-5.is (table (0xFFFF_FFFF_0000_0000 ∷ 0xFFFF_FFFF_0000_0000 ∷ 0xFFFF_FFFF_0000_0000 ∷ 0xFFFF_FFFF_0000_0000 ∷ []) 5 tt)

pub returns-in-6 : goal.returns-in-6
unfolding holds member
returns-in-6 c = rw c.in-6.is (table (0 ∷ 0xFFFF_FFFF_FFFF_FFFF ∷ 0 ∷ 0xFFFF_FFFF_FFFF_FFFF ∷ []) 6 tt)

pub returns-in-7 : goal.returns-in-7
unfolding holds member
returns-in-7 c = rw c.in-7.is (table (0 ∷ 0 ∷ 0xFFFF_FFFF_FFFF_FFFF ∷ 0xFFFF_FFFF_FFFF_FFFF ∷ []) 7 tt)

pub returns-in_default : goal.returns-in_default
returns-in_default c = none_flagged c.args.i (λ e. omega arith) (λ e. omega arith) (λ e. omega arith) (λ e. omega arith) (λ e. omega arith) (λ e. omega arith) (λ e. omega arith) (λ e. omega arith)
