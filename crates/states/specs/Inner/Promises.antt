-- What the code over the work area promises: what it takes out, and what it changes.
use Rattle.std.specs.Prelude.{ℕ, ◌+◌, ◌-◌, ◌*◌, ◌^◌, ◌<◌, ◌≤◌, ◌≡◌, List, Bool, true, false, ◌&&◌, ◌||◌, length, get_or, take, drop}
use Rattle.sets.specs.Sets.{member}
use Rattle.sets.specs.Inner.Promises.{MembersWithin}
use Rattle.strings.specs.declared.Values.{Values}
use Rattle.strings.specs.declared.Values.TheVariants.{Any, Named}
use Rattle.strings.specs.Inner.Promises.{set_number, holds_value}
use Rattle.summaries.specs.Proposal.{Claim}
use Rattle.graphs.specs.Inner.Graphs.{holds, Keeps}
use Rattle.graphs.specs.Inner.Growth.{Grows}
use Rattle.states.specs.Inner.States.{point_words, strings_place, graph_words, in_words, entries_in}

-- The words of a point are in the work area.
abbrev pub HasPoint : List ℕ → ℕ → Type 0
HasPoint work p = p * point_words + point_words ≤ length work

-- The two words of a string variable.
abbrev pub string_words : List ℕ → ℕ → ℕ → List ℕ
string_words work p y = take 2 (drop (strings_place p y) work)

-- The entry of a template variable, taken out.
pub record GraphTaken (work : List ℕ) (p x : ℕ) (graph : List ℕ) : Type 0 where
  pub words : graph ≡ graph_words work p x
  pub keeps : (points : ℕ) → p < points → Keeps graph ((entries_in points work p).template x)

-- The words that tell it: the second has the lowest bit for any string; otherwise the first has the named ones.
abbrev pub WordsTell : List ℕ → ℕ → ℕ → Values → Type 0
WordsTell work p y Any = member (get_or work (strings_place p y + 1) 0) 0 ≡ true
WordsTell work p y (Named set) = (member (get_or work (strings_place p y + 1) 0) 0 ≡ false) × (set_number set ≡ get_or work (strings_place p y) 0) × (set_number set < 2 ^ 64)

-- The entry of a string variable, taken out.
pub record ValuesTaken (work : List ℕ) (p y : ℕ) (values : Values) : Type 0 where
  pub told : WordsTell work p y values
  pub keeps : (points : ℕ) → p < points → (s : ℕ) → holds_value values s ≡ (entries_in points work p).string y s

-- The words of a graph, from a place on, lie within those of another.
abbrev pub LiesWithin : List ℕ → ℕ → ℕ → Type 0
LiesWithin work from first = (k : ℕ) → k < 544 → MembersWithin (get_or work (from + k) 0) (get_or work (first + k) 0) true

-- The entry of a template variable holds what it held and what these words hold, every other entry is as it was, and the words have grown.
pub record GraphJoined (work : List ℕ) (p x : ℕ) (from : List ℕ) (after : List ℕ) (changed : Bool) : Type 0 where
  pub here : (points : ℕ) → p < points → (c : Claim) → (entries_in points after p).template x c ≡ ((entries_in points work p).template x c || (in_words c && holds from c))
  pub others : (points q z : ℕ) → ((q ≡ p) × (z ≡ x) → ⊥) → (c : Claim) → (entries_in points after q).template z c ≡ (entries_in points work q).template z c
  pub strings : (points q y s : ℕ) → (entries_in points after q).string y s ≡ (entries_in points work q).string y s
  pub grows : Grows work after changed

-- A string variable can take what it could and these values, every other entry is as it was, and the words have grown.
pub record ValuesJoined (work : List ℕ) (p y : ℕ) (values : Values) (after : List ℕ) (changed : Bool) : Type 0 where
  pub here : (points : ℕ) → p < points → (s : ℕ) → (entries_in points after p).string y s ≡ ((entries_in points work p).string y s || holds_value values s)
  pub others : (points q z : ℕ) → ((q ≡ p) × (z ≡ y) → ⊥) → (s : ℕ) → (entries_in points after q).string z s ≡ (entries_in points work q).string z s
  pub templates : (points q x : ℕ) → (c : Claim) → (entries_in points after q).template x c ≡ (entries_in points work q).template x c
  pub grows : Grows work after changed

-- The entries of a variable at two points hold the same; variables from 4 on are string variables.
pub record SameEntry (points : ℕ) (work : List ℕ) (p q v : ℕ) : Type 0 where
  pub template : v < 4 → (c : Claim) → (entries_in points work p).template v c ≡ (entries_in points work q).template v c
  pub string : 4 ≤ v → (s : ℕ) → (entries_in points work p).string (v - 4) s ≡ (entries_in points work q).string (v - 4) s
