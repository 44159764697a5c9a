-- Loops that step through the members of a word: `while let Some(n) = next { ..; next = next_member(set, n + 1); }`.
use Prim.Native.Nat.{ℕ, ◌+◌, ◌-◌, ◌≤◌, ◌<◌}
use mathlib.Core.Path.{◌≡◌, refl, sym, ◌∙◌}
use mathlib.Core.Bool.{Bool, true, false, false≢true}
use mathlib.Core.Logic.{◌⊎◌, inl, inr}
use native.Mathlib.Omega.{arith}
use lib.Dec.{eqb, ltb}
use borrow.Author.Tests.{eqb-true, eqb-false, ltb-true, ltb-false}
use Rattle.std.specs.Prelude.{Option, Some, None}
use Rattle.sets.specs.Sets.{member}
use Rattle.sets.specs.Inner.Promises.{NextMember}

-- The measure of such a loop: how far the next member is from the end.
abbrev pub steps_left : Option ℕ → ℕ
steps_left None = 0
steps_left (Some n) = 64 - n

pub fewer_left : (set n : ℕ) (next : Option ℕ) → n < 64 → NextMember set (n + 1) next → steps_left next < 64 - n
fewer_left set n None low is = omega arith
fewer_left set n (Some m) low is = let l : n + 1 ≤ m = is.after in omega arith

-- What is next is a member.
abbrev pub IsMember : ℕ → Option ℕ → Type 0
IsMember set None = Unit {0}
IsMember set (Some n) = (n < 64) × (member set n ≡ true)

pub next_is : (set from : ℕ) (next : Option ℕ) → NextMember set from next → IsMember set next
next_is set from None is = tt
next_is set from (Some n) is = (is.within, is.is_held)

-- Whether a number lies before what is next.
abbrev pub is_before : Option ℕ → ℕ → Bool
is_before None k = true
is_before (Some n) k = ltb k n

-- Between two members there is none.
pub none_between : (set from : ℕ) (next : Option ℕ) → NextMember set from next → (k : ℕ) → from ≤ k → is_before next k ≡ true → member set k ≡ false
none_between set from None is k l b = is k l
none_between set from (Some n) is k l b = is.skips k l (ltb-true k n b)

-- A member before what is next lies before the last step's, or is it.
pub passed_by : (set n : ℕ) (next : Option ℕ) → NextMember set (n + 1) next → (k : ℕ) → member set k ≡ true → is_before next k ≡ true → (k < n) ⊎ (k ≡ n)
passed_by set n next is k held b = go (ltb k n) refl (eqb k n) refl
  where
    go : (t : Bool) → ltb k n ≡ t → (s : Bool) → eqb k n ≡ s → (k < n) ⊎ (k ≡ n)
    go true e s f = inl (ltb-true k n e)
    go false e true f = inr (eqb-true k n f)
    go false e false f =
        let l : n ≤ k = ltb-false k n e in
        let d = eqb-false k n f in
        absurd (false≢true (sym (none_between set (n + 1) next is k (omega arith) b) ∙ held))
