-- The bytes of a proposal in the order in which the code writes them: points, variables, sorts of items, places, members.
use Rattle.std.specs.Prelude.{ℕ, ◌+◌, ◌-◌, ◌/◌, ◌%◌, ◌<◌, ◌≤◌, ◌≡◌, List, [], ◌∷◌, ◌++◌, Bool, cond, not, ◌&&◌, ltb, length, get_or, take, drop}
use Rattle.commands.specs.Commands.{strings}
use Rattle.summaries.specs.Proposal.{root, edge, string, gap_from, attribute_gap_from}
use Rattle.summaries.specs.Summaries.{Summary, Strings, Environment}
use Rattle.summaries.specs.ProposalOf.{each, unlisted}
use Rattle.states.specs.Inner.States.{entries_in}
use Rattle.proposals.specs.declared.Prefix.{Prefix}
use Rattle.proposals.specs.declared.Prefix.TheVariants.{Bare, One, Two}
use Rattle.proposals.specs.declared.Sort.{Sort}
use Rattle.proposals.specs.declared.Sort.TheVariants.{Roots, Edges, Listed, Any, Origins, AttributeOrigins}

-- ---- the members of a set behind a prefix

abbrev pub prefix_bytes : Prefix → List ℕ
prefix_bytes (Bare c) = c ∷ []
prefix_bytes (One c a) = c ∷ a ∷ []
prefix_bytes (Two c a b) = c ∷ a ∷ b ∷ []

abbrev pub item_bytes : List ℕ → ℕ → List ℕ
item_bytes before k = before ++ (k ∷ [])

-- An item for each number below m that is held.
abbrev pub member_items : List ℕ → (ℕ → Bool) → ℕ → List ℕ
member_items before held k = cond (held k) (item_bytes before k) []

unfoldable pub members : List ℕ → ℕ → (ℕ → Bool) → List ℕ
unfolding each
members before m held = each m (member_items before held)

-- No string is listed beside any string.
abbrev pub listed_of : Strings → ℕ → Bool
listed_of Y s = Y s && not (Y unlisted)

-- ---- the items of a template variable, by their sort

-- The items of a sort are told by a first operand, a second one and a member, as far as they have them: how many first operands there are,
-- how many second ones, and below which number the members are.
abbrev pub firsts : ℕ → Sort → ℕ
firsts templates Roots = 1
firsts templates Edges = templates + 1
firsts templates Listed = templates + 1
firsts templates Any = templates + 1
firsts templates Origins = 8
firsts templates AttributeOrigins = 8

abbrev pub seconds : Sort → ℕ
seconds Roots = 1
seconds Edges = 8
seconds Listed = 8
seconds Any = 1
seconds Origins = 1
seconds AttributeOrigins = 1

abbrev pub limit : ℕ → Sort → ℕ
limit templates Roots = templates + 1
limit templates Edges = templates + 1
limit templates Listed = strings
limit templates Any = 8
limit templates Origins = templates + 1
limit templates AttributeOrigins = templates + 1

abbrev pub prefix_of : Sort → ℕ → ℕ → Prefix
prefix_of Roots a b = Bare 0x41
prefix_of Edges a b = Two 0x42 a b
prefix_of Listed a b = Two 0x43 a b
prefix_of Any a b = One 0x44 a
prefix_of Origins a b = One 0x45 a
prefix_of AttributeOrigins a b = One 0x46 a

abbrev pub is_held : Summary → Sort → ℕ → ℕ → ℕ → Bool
is_held S Roots a b k = S (root k)
is_held S Edges a b k = S (edge a b k)
is_held S Listed a b k = S (string a b k) && not (S (string a b unlisted))
is_held S Any a b k = S (string a k unlisted)
is_held S Origins a b k = S (gap_from a k)
is_held S AttributeOrigins a b k = S (attribute_gap_from a k)

-- The operands for which a graph has a word, and the members that one may have.
abbrev pub MayStand : Sort → ℕ → ℕ → Type 0
MayStand Roots a b = Unit {0}
MayStand Edges a b = (a < 32) × (b < 8)
MayStand Listed a b = (a < 32) × (b < 8)
MayStand Any a b = a < 32
MayStand Origins a b = a < 8
MayStand AttributeOrigins a b = a < 8

abbrev pub MayBe : Sort → ℕ → Type 0
MayBe Roots k = Unit {0}
MayBe Edges k = Unit {0}
MayBe Listed k = Unit {0}
MayBe Any k = k < 8
MayBe Origins k = Unit {0}
MayBe AttributeOrigins k = Unit {0}

module _ (templates : ℕ) (S : Summary) where
  abbrev pub place_bytes : Sort → ℕ → ℕ → List ℕ
  place_bytes sort a b = members (prefix_bytes (prefix_of sort a b)) (limit templates sort) (is_held S sort a b)

  unfoldable pub row_bytes : Sort → ℕ → List ℕ
  unfolding each members
  row_bytes sort a = each (seconds sort) (place_bytes sort a)

  unfoldable pub sort_bytes : Sort → List ℕ
  unfolding each row_bytes
  sort_bytes sort = each (firsts templates sort) (row_bytes sort)

  -- In the order of their commands, `41` to `46`.
  unfoldable pub template_bytes : List ℕ
  template_bytes = sort_bytes Roots ++ sort_bytes Edges ++ sort_bytes Listed ++ sort_bytes Any ++ sort_bytes Origins ++ sort_bytes AttributeOrigins

-- ---- the items of a string variable

unfoldable pub string_bytes : Strings → List ℕ
unfolding members
string_bytes Y = members (0x47 ∷ []) strings (listed_of Y) ++ cond (Y unlisted) (0x48 ∷ []) []

-- ---- heads

unfoldable pub entry_bytes : ℕ → Environment → ℕ → List ℕ
unfolding template_bytes string_bytes
entry_bytes templates E v = cond (ltb v 4) (template_bytes templates (E.template v)) (string_bytes (E.string (v - 4)))

abbrev pub head_bytes : ℕ → ℕ → List ℕ → List ℕ
head_bytes p v [] = []
head_bytes p v (b ∷ bs) = 0x40 ∷ p ∷ v ∷ b ∷ bs

-- The entries at a point; whether there are more points does not matter to them.
abbrev pub entry_at : List ℕ → ℕ → Environment
entry_at work p = entries_in (p + 1) work p

-- Bytes that stand in a buffer and end at an offset, which is no later than another.
pub record EndAt (out : List ℕ) (at end : ℕ) (bs : List ℕ) : Type 0 where
  pub below : end ≤ at
  pub long : length bs ≤ end
  pub there : take (length bs) (drop (end - length bs) out) ≡ bs

-- The entries one after another: entry 8 p + v is that of variable v at point p.
module _ (templates : ℕ) (work : List ℕ) where
  abbrev pub items_at : ℕ → List ℕ
  items_at i = entry_bytes templates (entry_at work (i / 8)) (i % 8)

  abbrev pub headed_at : ℕ → List ℕ
  headed_at i = head_bytes (i / 8) (i % 8) (items_at i)

  unfoldable pub entries_bytes : ℕ → List ℕ
  unfolding each entry_bytes
  entries_bytes n = each n headed_at

  -- The bytes of the items of each of the first n entries are told.
  abbrev pub Counted : ℕ → List ℕ → Type 0
  Counted n lengths = (i : ℕ) → i < n → get_or lengths i 0 ≡ length (items_at i)

  -- The items of each of the first n entries stand in a buffer below an offset, and end where a table tells.
  abbrev pub Stand : ℕ → List ℕ → ℕ → List ℕ → Type 0
  Stand n out at ends = (i : ℕ) → i < n → EndAt out at (get_or ends i 0) (items_at i)

-- A variable has the same entry as at the point before.
abbrev pub Repeated : List ℕ → ℕ → ℕ → Type 0
Repeated work p v = (0 < p) × ((templates : ℕ) → entry_bytes templates (entry_at work p) v ≡ entry_bytes templates (entry_at work (p - 1)) v)

-- No entry has more bytes of items.
abbrev pub entry_most : ℕ
entry_most = 393216

abbrev pub FewBytes : ℕ → List ℕ → Type 0
FewBytes n lengths = (i : ℕ) → i < n → get_or lengths i 0 ≤ entry_most
