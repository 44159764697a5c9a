-- Sets of strings and what an attribute gap can take, as the code keeps them, and what the code over them promises.
use Rattle.std.specs.Prelude.{ℕ, ◌≤◌, ◌<◌, ◌≡◌, Bool, true, false, ◌||◌, ◌⊎◌}
use Rattle.std.proofs.Math.Option.{Option, some, none}
use Rattle.sets.specs.Sets.{member}
use Rattle.strings.specs.declared.StringSet.{StringSet}
use Rattle.strings.specs.declared.Values.{Values}
use Rattle.strings.specs.declared.Values.TheVariants.{Any, Named}
use Rattle.strings.specs.declared.AttributeValues.{AttributeValues}
use Rattle.strings.specs.Strings.{strings}

-- The number m of a set: bit i of m, counted from the lowest, stands for string i.
abbrev pub set_number : StringSet → ℕ
set_number set = set.word

abbrev pub has_string : StringSet → ℕ → Bool
has_string set s = member (set_number set) s

-- By the answer: every string of a is one of b; or a has a string that b lacks.
abbrev pub StringsWithin : StringSet → StringSet → Bool → Type 0
StringsWithin a b true = (s : ℕ) → has_string a s ≡ true → has_string b s ≡ true
StringsWithin a b false = (s : ℕ) × (s < strings) × (has_string a s ≡ true) × (has_string b s ≡ false)

-- Whether a string is among them.
abbrev pub holds_value : Values → ℕ → Bool
holds_value Any s = true
holds_value (Named set) s = has_string set s

-- By the answer: what the one has the other has; or there is a string that the one has and the other has not.
abbrev pub ValuesWithin : Values → Values → Bool → Type 0
ValuesWithin a b true = (s : ℕ) → holds_value a s ≡ true → holds_value b s ≡ true
ValuesWithin a b false = (s : ℕ) × (holds_value a s ≡ true) × (holds_value b s ≡ false)

-- By the answer: there is no string; or there is.
abbrev pub NoValues : Values → Bool → Type 0
NoValues values true = (s : ℕ) → holds_value values s ≡ false
NoValues values false = (s : ℕ) × (s ≤ strings) × (holds_value values s ≡ true)

-- Whether an attribute gap can take this, a string or no string.
abbrev pub can_take : AttributeValues → Option ℕ → Bool
can_take values none = values.absent
can_take values (some s) = holds_value values.strings s

-- By the answer: there is neither a string nor absence to take; or there is one of them.
abbrev pub NothingToTake : AttributeValues → Bool → Type 0
NothingToTake values true = (values.absent ≡ false) × NoValues values.strings true
NothingToTake values false = (values.absent ≡ true) ⊎ NoValues values.strings false
