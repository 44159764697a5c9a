-- What the code over sets as words promises.
use Rattle.std.specs.Prelude.{ℕ, zero, suc, ◌+◌, ◌<◌, ◌≤◌, ◌≡◌, Bool, true, false, cond, Option, Some, None}
use Rattle.sets.specs.Sets.{member}

-- How many numbers a word can hold: 0 to 63.
abbrev pub word_size : ℕ
word_size = 64

-- How many of the numbers below n are as p says.
unfoldable pub count_below : ℕ → (ℕ → Bool) → ℕ
count_below zero p = 0
count_below (suc n) p = count_below n p + cond (p n) 1 0

-- By the answer: every member of a is one of b; or a has a member that b lacks.
abbrev pub MembersWithin : ℕ → ℕ → Bool → Type 0
MembersWithin a b true = (k : ℕ) → member a k ≡ true → member b k ≡ true
MembersWithin a b false = (k : ℕ) × (k < word_size) × (member a k ≡ true) × (member b k ≡ false)

-- A member at a place or after it, with none in between.
pub record MemberFrom (set from n : ℕ) : Type 0 where
  pub after : from ≤ n
  pub within : n < word_size
  pub is_held : member set n ≡ true
  pub skips : (k : ℕ) → from ≤ k → k < n → member set k ≡ false

-- The first member of a word at a place or after it, or that there is none.
abbrev pub NextMember : ℕ → ℕ → Option ℕ → Type 0
NextMember set from None = (k : ℕ) → from ≤ k → member set k ≡ false
NextMember set from (Some n) = MemberFrom set from n
