-- Tables of sets as words: unions of their sets, and sets closed under them. Templates are reached in rounds until a round adds none
-- (documents 01 and 02, verdicts 12, 14 and 15); that set is the least one that has its start and is closed under the edges.
use Rattle.std.specs.Prelude.{ℕ, ◌≡◌, List, Bool, true, ◌⊎◌, get_or}
use Rattle.sets.specs.Sets.{member}

-- A set, with the sets of the table that another set names.
pub record United (first set : ℕ) (table : List ℕ) (r : ℕ) : Type 0 where
  pub keeps : (k : ℕ) → member first k ≡ true → member r k ≡ true
  pub adds : (i k : ℕ) → member set i ≡ true → member (get_or table i 0) k ≡ true → member r k ≡ true
  pub no_other : (k : ℕ) → member r k ≡ true
      → (member first k ≡ true) ⊎ ((i : ℕ) × (member set i ≡ true) × (member (get_or table i 0) k ≡ true))

-- What a member leads to, by the table, is a member.
abbrev pub ClosedUnder : List ℕ → (ℕ → Bool) → Type 0
ClosedUnder table S = (i k : ℕ) → S i ≡ true → member (get_or table i 0) k ≡ true → S k ≡ true

-- The least closed set that has a start.
pub record Closure (set : ℕ) (table : List ℕ) (r : ℕ) : Type 0 where
  pub starts : (k : ℕ) → member set k ≡ true → member r k ≡ true
  pub closed : ClosedUnder table (member r)
  pub least : (S : ℕ → Bool) → ((k : ℕ) → member set k ≡ true → S k ≡ true) → ClosedUnder table S
      → (k : ℕ) → member r k ≡ true → S k ≡ true
