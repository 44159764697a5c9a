-- Laws of sets of strings, and of what an attribute gap can take.
use Prim.Native.Nat.{ℕ, zero, suc, ◌^◌, ◌≤◌, ◌<◌}
use mathlib.Core.Path.{◌≡◌, refl, sym, ap, ◌∙◌}
use mathlib.Core.Bool.{Bool, true, false, not, ◌&&◌, ◌||◌, false≢true}
use mathlib.Core.Logic.{inl, inr}
use native.Mathlib.Nat.{eq-or-lt_of_le, le_of_suc-le-suc}
use native.Mathlib.Omega.{arith}
use lib.Dec.{ltb, lit<}
use borrow.Author.Tests.{ltb-true, ltb-false}
use Rattle.sets.proofs.Booleans.{and_left, and_right}
use Rattle.std.specs.Prelude.{Option, Some, None}
use Rattle.std.specs.Option.{is_some}
use Rattle.sets.specs.Sets.{member}
use Rattle.sets.specs.Inner.Promises.{NextMember}
use Rattle.sets.proofs.Laws.{member_high}
use Rattle.strings.specs.declared.StringSet.{StringSet}
use Rattle.strings.specs.declared.Values.TheVariants.{Any, Named}
use Rattle.strings.specs.Strings.{strings}
use Rattle.strings.specs.Inner.Promises.{has_string, ValuesWithin, NoValues}

-- The word that has every string.
unfoldable all_below : ℕ → (ℕ → Bool) → Bool
all_below zero p = true
all_below (suc n) p = p n && all_below n p

below : (n : ℕ) (p : ℕ → Bool) → all_below n p ≡ true → (k : ℕ) → k < n → p k ≡ true
unfolding all_below
below zero p t k h = absurd (omega arith)
below (suc n) p t k h = elim (eq-or-lt_of_le (le_of_suc-le-suc h)) [
  | inl e ↦ ap p e ∙ and_left (p n) (all_below n p) t
  | inr l ↦ below n p (and_right (p n) (all_below n p) t) k l
]

pub all_strings : (s : ℕ) → member 0xFFFF_FFFF_FFFF_FFFF s ≡ ltb s strings
unfolding member all_below
all_strings s = go (ltb s strings) refl
  where
    go : (t : Bool) → ltb s strings ≡ t → member 0xFFFF_FFFF_FFFF_FFFF s ≡ t
    go true e = below strings (member 0xFFFF_FFFF_FFFF_FFFF) refl s (ltb-true s strings e)
    go false e = member_high 64 0xFFFF_FFFF_FFFF_FFFF s (lit< tt) (ltb-false s strings e)

-- No string outside the named ones is in a set.
pub outside : (set : StringSet) → set.word < 2 ^ 64 → (s : ℕ) → strings ≤ s → has_string set s ≡ false
outside set b s l = member_high 64 set.word s b l

-- ---- what an attribute gap can take

pub any_not_within : (b : StringSet) → b.word < 2 ^ 64 → ValuesWithin Any (Named b) false
any_not_within b l = (strings, refl, outside b l strings (omega arith))

-- The first string of a set decides whether there is one.
pub first_decides : (set : StringSet) (next : Option ℕ) → NextMember set.word 0 next → (r : Bool) → is_some next ≡ not r → NoValues (Named set) r
first_decides set (Some s) is true e = absurd (false≢true (sym e))
first_decides set (Some s) is false e = let w : s < 64 = is.within in (s, omega arith, is.is_held)
first_decides set None is true e = λ s. is s (omega arith)
first_decides set None is false e = absurd (false≢true e)
