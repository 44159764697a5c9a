-- Sets of patterns, the numbers 0 to 255, as four words: pattern x is bit x % 64 of word x / 64.
use Rattle.std.specs.Prelude.{ℕ, ◌/◌, ◌%◌, ◌<◌, ◌≤◌, ◌≡◌, List, Bool, true, false, get_or, Option, Some, None}
use Rattle.sets.specs.Sets.{member}

unfoldable pub holds : List ℕ → ℕ → Bool
holds set x = member (get_or set (x / 64) 0) (x % 64)

-- The first pattern of a set at a place or after it.
pub record First (set : List ℕ) (from first : ℕ) : Type 0 where
  pub after : from ≤ first
  pub within : first < 256
  pub is_held : holds set first ≡ true
  pub skips : (x : ℕ) → from ≤ x → x < first → holds set x ≡ false

-- By the answer: it is the first; or the set has no pattern from that place on.
abbrev pub NextPattern : List ℕ → ℕ → Option ℕ → Type 0
NextPattern set from (Some first) = First set from first
NextPattern set from None = (x : ℕ) → from ≤ x → holds set x ≡ false

-- By the answer: the set has no pattern; or it has one.
abbrev pub IsEmpty : List ℕ → Bool → Type 0
IsEmpty set true = (x : ℕ) → holds set x ≡ false
IsEmpty set false = (x : ℕ) × (x < 256) × (holds set x ≡ true)

-- By the answer: two sets have the same patterns; or there is a pattern that one alone has.
abbrev pub Same : List ℕ → List ℕ → Bool → Type 0
Same a b true = (x : ℕ) → holds a x ≡ holds b x
Same a b false = (x : ℕ) × (x < 256) × (holds a x ≡ holds b x → ⊥)
