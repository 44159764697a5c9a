-- Images of sets of patterns under functions of patterns, by which sets are joined for many patterns at once. A pattern has eight
-- flags, its bits.
use Rattle.std.specs.Prelude.{ℕ, zero, suc, ◌+◌, ◌-◌, ◌*◌, ◌%◌, ◌^◌, ◌≤◌, ◌<◌, ◌≡◌, List, Bool, true, false, cond, ◌&&◌, ◌||◌, get_or, eqb, ltb}
use Rattle.sets.specs.Sets.{member}
use Rattle.pattern_sets.specs.Inner.PatternSets.{holds}

-- The number whose bits below n are as p says.
unfoldable pub number_of : ℕ → (ℕ → Bool) → ℕ
number_of zero p = 0
number_of (suc n) p = cond (p 0) 1 0 + 2 * number_of n (λ i. p (suc i))

abbrev pub flags : ℕ
flags = 8

-- The pattern whose flags are as p says.
abbrev pub pattern : (ℕ → Bool) → ℕ
pattern p = number_of flags p

-- A pattern with flag i.
abbrev pub raised_at : ℕ → ℕ → ℕ
raised_at i y = pattern (λ j. eqb j i || member y j)

-- A pattern with flag i if it has flag c.
abbrev pub crossed_at : ℕ → ℕ → ℕ → ℕ
crossed_at c i y = pattern (λ j. member y j || (eqb j i && member y c))

-- The flag at place j of a list of places.
abbrev pub flag_at : ℕ → List ℕ → ℕ → Bool
flag_at x places j = member x (get_or places j 0 % 64)

-- A pattern with the first flags of x, and with the first ones at whose places x and it have flags.
abbrev pub raised_by : ℕ → ℕ → ℕ → ℕ
raised_by n x y = pattern (λ j. member y j || (ltb j n && member x j))

abbrev pub crossed_by : ℕ → ℕ → List ℕ → List ℕ → ℕ → ℕ
crossed_by n x firsts seconds y = pattern (λ j. member y j || (ltb j n && (flag_at x firsts j && flag_at y seconds j)))

-- Two patterns joined: the flags of both, and those at whose places both have flags.
abbrev pub joined_by : List ℕ → List ℕ → ℕ → ℕ → ℕ
joined_by firsts seconds x y = pattern (λ j. (member x j || member y j) || (flag_at x firsts j && flag_at y seconds j))

-- A set of patterns that have flag i.
abbrev pub AllFlagged : ℕ → List ℕ → Type 0
AllFlagged i r = (x : ℕ) → x < 256 → holds r x ≡ member x i

-- The members of a word n places up.
abbrev pub ShiftedMembers : ℕ → ℕ → ℕ → Type 0
ShiftedMembers word n r = (k : ℕ) → n ≤ k → k < 64 → member r k ≡ member word (k - n)

-- The members of a set 2 ^ i up, for the patterns that have flag i.
abbrev pub Shifted : List ℕ → ℕ → List ℕ → Type 0
Shifted set i r = (z : ℕ) → z < 256 → member z i ≡ true → holds r z ≡ holds set (z - 2 ^ i)

pub record Image (f : ℕ → ℕ) (set r : List ℕ) : Type 0 where
  pub complete : (y : ℕ) → holds set y ≡ true → holds r (f y) ≡ true
  pub sound : (z : ℕ) → holds r z ≡ true → (y : ℕ) × (holds set y ≡ true) × (f y ≡ z)

-- The places of seconds are none at which x has a flag by its own first place.
abbrev pub Apart : ℕ → List ℕ → List ℕ → Type 0
Apart x firsts seconds = (j : ℕ) → j < flags → get_or seconds j 0 % 64 < flags → flag_at x firsts (get_or seconds j 0 % 64) ≡ false

-- The patterns of a joined with those of b, no less and no more.
pub record Joined (op : ℕ → ℕ → ℕ) (a b r : List ℕ) : Type 0 where
  pub complete : (x y : ℕ) → holds a x ≡ true → holds b y ≡ true → holds r (op x y) ≡ true
  pub sound : (z : ℕ) → holds r z ≡ true → (x : ℕ) × (y : ℕ) × (holds a x ≡ true) × (holds b y ≡ true) × (op x y ≡ z)
