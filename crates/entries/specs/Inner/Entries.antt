-- What the code that compares entries promises.
use Rattle.std.specs.Prelude.{ℕ, ◌-◌, ◌≡◌, List, [], ◌∷◌, Bool, cond, ◌&&◌, ◌||◌, ltb, None, Some}
use Rattle.sets.specs.Sets.{member}
use Rattle.commands.specs.declared.Position.{Position}
use Rattle.summaries.specs.declared.Claim as Declared
use Rattle.summaries.specs.Proposal.{Claim, root, gap_from, attribute_gap_from, Holding, claim}
use Rattle.summaries.specs.Summaries.{Summary, Within, says_claim, held}
use Rattle.summaries.specs.Inner.Listed.{HoldingFits, meaning_of, claim_here}
use Rattle.graphs.specs.Inner.Graphs.{Keeps, nothing}
use Rattle.entries.specs.declared.Passing.{Passing}
use Rattle.entries.specs.Inner.Passing.{passed, Decides}

-- The items that code takes off from an offset on, in any bytes. Those of a proposal that was read are the items that stand there.
pub record First (s : List ℕ) (at : ℕ) (y : Holding) (Rest : ℕ → Type 0) : Type 0 where
  pub item : Declared.Claim
  pub next : Position
  pub is : claim_here s at ≡ Some (item, next)
  pub means : y ≡ meaning_of item
  pub more : Rest next.at

unfoldable pub Taken : List ℕ → ℕ → List Holding → Type 0
Taken s at [] = claim_here s at ≡ None
Taken s at (y ∷ ys) = First s at y (λ k. Taken s k ys)

-- The graph keeps what it kept, and what the items at an offset say.
pub record Loads (s : List ℕ) (at : ℕ) (before after : List ℕ) : Type 0 where
  pub items : List Holding
  pub taken : Taken s at items
  pub keeps : (R : Summary) → Keeps before R → Keeps after (λ c. R c || held says_claim items c)

-- The graph keeps nothing, if all that it kept is what the items at an offset say.
pub record Unloads (s : List ℕ) (at : ℕ) (before after : List ℕ) : Type 0 where
  pub items : List Holding
  pub taken : Taken s at items
  pub keeps : (R : Summary) → Keeps before R → Within R (held says_claim items) → Keeps after nothing

-- A set of templates with the root that an item says.
abbrev pub WithRoot : ℕ → Holding → ℕ → Type 0
WithRoot found y r = HoldingFits y → (n : ℕ) → member r n ≡ (says_claim y (root n) || member found n)

-- By the answer, what passes of an item lies within the entry that a graph keeps.
abbrev pub ItemHolds : List ℕ → Passing → Holding → Bool → Type 0
ItemHolds graph how y r = HoldingFits y → (R : Summary) → Keeps graph R → Decides r (Within (passed how (says_claim y)) R)

-- That an open gap may come from template n: gap k, or from 8 on attribute gap k - 8.
abbrev pub origin_of : ℕ → ℕ → Claim
origin_of k n = cond (ltb k 8) (gap_from k n) (attribute_gap_from (k - 8) n)

-- A summary with that, if the template has the gap.
abbrev pub with_origin : ℕ → ℕ → ℕ → Summary → Summary
with_origin k n gaps R c = (member gaps k && says_claim (claim (origin_of k n)) c) || R c
