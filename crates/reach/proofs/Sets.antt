-- Words as sets: which numbers are in none, and growth.
use Prim.Native.Nat.{ℕ, ◌^◌, ◌≤◌, ◌<◌}
use mathlib.Core.Path.{◌≡◌, refl, sym, subst, ◌∙◌}
use mathlib.Core.Bool.{Bool, true, false, ◌&&◌, ◌||◌, false≢true}
use lib.Bits.{bit_and, and_le_l, and_lt}
use Rattle.sets.specs.Sets.{member}
use Rattle.sets.proofs.Laws.{member_zero, member_high, member_and, same_members}
use Rattle.sets.proofs.Booleans.{and_both, and_right, alike}

-- No number is in the empty set, and none from 64 on in a word.
pub not_in_zero : (k : ℕ) → member 0 k ≡ true → ⊥
not_in_zero k e = false≢true (sym (member_zero k) ∙ e)

pub member_low : (set k : ℕ) → set < 2 ^ 64 → 64 ≤ k → member set k ≡ true → ⊥
member_low set k narrow high e = false≢true (sym (member_high 64 set k narrow high) ∙ e)

-- A larger set is a larger number.
pub larger : (a b : ℕ) → a < 2 ^ 64 → b < 2 ^ 64 → ((k : ℕ) → member a k ≡ true → member b k ≡ true) → a ≤ b
larger a b p q within =
    let e : bit_and b a ≡ a = same_members 64 (bit_and b a) a (and_lt 64 b a q p) p
    (λ k h. member_and b a k ∙ alike (member b k && member a k) (member a k) (and_right (member b k) (member a k)) (λ t. and_both _ _ (within k t) t)) in
    subst (λ (n : ℕ). n ≤ b) e (and_le_l b a)

-- The first two of three tests in the other order.
pub moved_first : (a b c : Bool) → ((a || b) || c) ≡ (b || (a || c))
moved_first true true c = refl
moved_first true false c = refl
moved_first false b c = refl
