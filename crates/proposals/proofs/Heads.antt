-- The bytes of the variables at a point: by the words of the work area, under heads, and how many they are at most.
use Prim.Native.Nat.{ℕ, zero, suc, ◌+◌, ◌-◌, ◌/◌, ◌%◌, ◌≤◌, ◌<◌}
use mathlib.Core.Path.{◌≡◌, refl, sym, ap, ap₂, ◌∙◌}
use mathlib.Core.Bool.{Bool, true, false, cond, not, ◌&&◌}
use mathlib.Core.List.{List, [], ◌∷◌, ◌++◌}
use native.Mathlib.Omega.{arith}
use lib.ListN.{length, length-append}
use lib.Dec.{ltb}
use borrow.Author.Tests.{lt-ltb, le-ltb}
use Rattle.commands.specs.Commands.{strings}
use Rattle.summaries.specs.Summaries.{Summary, Strings, Environment}
use Rattle.summaries.specs.Proposal.{Claim, root, edge, string, gap_from, attribute_gap_from}
use Rattle.summaries.specs.ProposalOf.{each, unlisted}
use Rattle.graphs.specs.Inner.Graphs.{holds, Keeps}
use Rattle.strings.specs.declared.Values.{Values}
use Rattle.strings.specs.Inner.Promises.{holds_value}
use Rattle.states.specs.Inner.Promises.{GraphTaken, ValuesTaken}
use Rattle.proposals.specs.declared.Sort.{Sort}
use Rattle.proposals.specs.declared.Sort.TheVariants.{Roots, Edges, Listed, Any, Origins, AttributeOrigins}
use Rattle.proposals.specs.Inner.Bytes.{prefix_bytes, member_items, members, firsts, seconds, limit, prefix_of, listed_of, is_held, MayStand, MayBe, place_bytes, row_bytes, sort_bytes, template_bytes, string_bytes, entry_bytes, head_bytes, entry_at, items_at, headed_at, entries_bytes, Counted, FewBytes}
use Rattle.proposals.proofs.Each.{each_same, each_most}
use Rattle.proposals.proofs.Members.{members_most, members_same}
use Rattle.proposals.proofs.Sorts.{may_stand, may_be, template_most}

-- ---- entries that hold the same have the same bytes

held_same : (graph : List ℕ) (R : Summary) → Keeps graph R → (sort : Sort) (a b k : ℕ) → MayStand sort a b → MayBe sort k → is_held (holds graph) sort a b k ≡ is_held R sort a b k
held_same graph R keeps Roots a b k f m = sym (keeps.same _ tt)
held_same graph R keeps Edges a b k f m = sym (keeps.same _ f)
held_same graph R keeps Listed a b k f m = ap₂ (λ s t. s && not t) (sym (keeps.same _ f)) (sym (keeps.same _ f))
held_same graph R keeps Any a b k f m = sym (keeps.same _ (f, m))
held_same graph R keeps Origins a b k f m = sym (keeps.same _ f)
held_same graph R keeps AttributeOrigins a b k f m = sym (keeps.same _ f)

sort_same : (templates : ℕ) → templates < 32 → (graph : List ℕ) (R : Summary) → Keeps graph R → (sort : Sort) → sort_bytes templates (holds graph) sort ≡ sort_bytes templates R sort
unfolding sort_bytes row_bytes
sort_same templates few graph R keeps sort =
    each_same (firsts templates sort) (row_bytes templates (holds graph) sort) (row_bytes templates R sort) λ a la.
    each_same (seconds sort) (place_bytes templates (holds graph) sort a) (place_bytes templates R sort a) λ b lb.
    members_same (prefix_bytes (prefix_of sort a b)) (limit templates sort) (is_held (holds graph) sort a b) (is_held R sort a b) λ k lk.
    held_same graph R keeps sort a b k (may_stand templates few sort a b la lb) (may_be templates few sort k lk)

template_same : (templates : ℕ) → templates < 32 → (graph : List ℕ) (R : Summary) → Keeps graph R → template_bytes templates (holds graph) ≡ template_bytes templates R
unfolding template_bytes
template_same templates few graph R keeps = let same = sort_same templates few graph R keeps in rw (same Roots, same Edges, same Listed, same Any, same Origins, same AttributeOrigins) refl

strings_same : (Y Z : Strings) → ((s : ℕ) → Y s ≡ Z s) → string_bytes Y ≡ string_bytes Z
unfolding string_bytes
strings_same Y Z same =
    ap₂ (λ xs ys. xs ++ ys)
    (members_same (0x47 ∷ []) strings (listed_of Y) (listed_of Z) (λ k l. ap₂ (λ s t. s && not t) (same k) (same unlisted)))
    (ap (λ (t : Bool). cond t (0x48 ∷ []) []) (same unlisted))

-- ---- the entry of a variable

pub entry_template : (templates : ℕ) (E : Environment) (v : ℕ) → v < 4 → entry_bytes templates E v ≡ template_bytes templates (E.template v)
unfolding entry_bytes
entry_template templates E v l = rw (lt-ltb v 4 l)

pub entry_string : (templates : ℕ) (E : Environment) (v : ℕ) → 4 ≤ v → entry_bytes templates E v ≡ string_bytes (E.string (v - 4))
unfolding entry_bytes
entry_string templates E v l = rw (le-ltb v 4 l)

pub entry_of_graph : (templates : ℕ) → templates < 32 → (work : List ℕ) (p v : ℕ) → v < 4 → (graph : List ℕ) → GraphTaken work p v graph
    → entry_bytes templates (entry_at work p) v ≡ template_bytes templates (holds graph)
entry_of_graph templates few work p v l graph taken =
    entry_template templates (entry_at work p) v l ∙ sym (template_same templates few graph ((entry_at work p).template v) (taken.keeps (p + 1) (omega arith)))

pub entry_of_values : (templates : ℕ) (work : List ℕ) (p v : ℕ) → 4 ≤ v → (values : Values) → ValuesTaken work p (v - 4) values
    → entry_bytes templates (entry_at work p) v ≡ string_bytes (holds_value values)
entry_of_values templates work p v l values taken =
    entry_string templates (entry_at work p) v l ∙ sym (strings_same (holds_value values) ((entry_at work p).string (v - 4)) (taken.keeps (p + 1) (omega arith)))

-- ---- a head stands where an item follows

pub head_none : (p v : ℕ) (bs : List ℕ) → length bs ≡ 0 → head_bytes p v bs ≡ []
head_none p v [] e = refl
head_none p v (b ∷ bs) e = absurd (omega arith)

pub head_some : (p v : ℕ) (bs : List ℕ) → (length bs ≡ 0 → ⊥) → head_bytes p v bs ≡ (0x40 ∷ p ∷ v ∷ []) ++ bs
head_some p v [] h = absurd (h refl)
head_some p v (b ∷ bs) h = refl

-- ---- at most so many bytes

head_most : (p v n : ℕ) (bs : List ℕ) → length bs ≤ n → length (head_bytes p v bs) ≤ 3 + n
head_most p v n [] l = omega arith
head_most p v n (b ∷ bs) l = omega arith

module _ (templates : ℕ) (few : templates < 32) where
  string_most : (Y : Strings) → length (string_bytes Y) ≤ 257
  unfolding string_bytes
  string_most Y = omega (arith, length-append (members (0x47 ∷ []) strings (listed_of Y)) (cond (Y unlisted) (0x48 ∷ []) []), members_most (0x47 ∷ []) (listed_of Y) strings (omega arith) (omega arith), last (Y unlisted))
    where
      last : (t : Bool) → length {A = ℕ} (cond t (0x48 ∷ []) []) ≤ 1
      last true = omega arith
      last false = omega arith

  pub entry_most_lem : (E : Environment) (v : ℕ) → length (entry_bytes templates E v) ≤ 393216
  unfolding entry_bytes
  entry_most_lem E v = go (ltb v 4)
    where
      go : (t : Bool) → length (cond t (template_bytes templates (E.template v)) (string_bytes (E.string (v - 4)))) ≤ 393216
      go true = template_most templates few (E.template v)
      go false = omega (arith, string_most (E.string (v - 4)))

  module _ (work : List ℕ) where
    pub entries_most : (n : ℕ) → n ≤ 256 → length (entries_bytes templates work n) ≤ 100664064
    unfolding entries_bytes
    entries_most n l = each_most (headed_at templates work) n 256 393219 l (λ i m. head_most (i / 8) (i % 8) 393216 (items_at templates work i) (entry_most_lem (entry_at work (i / 8)) (i % 8)))

    pub few_bytes : (n : ℕ) (lengths : List ℕ) → Counted templates work n lengths → FewBytes n lengths
    few_bytes n lengths counted i l = rw (counted i l) (entry_most_lem (entry_at work (i / 8)) (i % 8))

-- Where nothing is held there is no item.
none_each : (n : ℕ) (f : ℕ → List ℕ) → ((q : ℕ) → f q ≡ []) → each n f ≡ []
unfolding each
none_each zero f h = refl
none_each (suc n) f h = rw (none_each n f h) (h n)

module _ (S : Summary) (none : (c : Claim) → S c ≡ false) where
  none_held : (sort : Sort) (a b k : ℕ) → is_held S sort a b k ≡ false
  none_held Roots a b k = none (root k)
  none_held Edges a b k = none (edge a b k)
  none_held Listed a b k = rw (none (string a b k)) refl
  none_held Any a b k = none (string a k unlisted)
  none_held Origins a b k = none (gap_from a k)
  none_held AttributeOrigins a b k = none (attribute_gap_from a k)

  no_members : (templates : ℕ) (sort : Sort) (a b : ℕ) → place_bytes templates S sort a b ≡ []
  unfolding members
  no_members templates sort a b = none_each (limit templates sort) (member_items (prefix_bytes (prefix_of sort a b)) (is_held S sort a b)) λ k. rw (none_held sort a b k) refl

  no_row : (templates : ℕ) (sort : Sort) (a : ℕ) → row_bytes templates S sort a ≡ []
  unfolding row_bytes
  no_row templates sort a = none_each (seconds sort) (place_bytes templates S sort a) (no_members templates sort a)

  no_sort : (templates : ℕ) (sort : Sort) → sort_bytes templates S sort ≡ []
  unfolding sort_bytes
  no_sort templates sort = none_each (firsts templates sort) (row_bytes templates S sort) (no_row templates sort)

  no_items : (templates : ℕ) → template_bytes templates S ≡ []
  unfolding template_bytes
  no_items templates = let no = no_sort templates in rw (no Roots, no Edges, no Listed, no Any, no Origins, no AttributeOrigins) refl

pub blank_entry : (templates : ℕ) (E : Environment) (v : ℕ) → v < 4 → ((c : Claim) → E.template v c ≡ false) → 0 ≡ length (entry_bytes templates E v)
unfolding entry_bytes
blank_entry templates E v l none = rw (lt-ltb v 4 l, no_items (E.template v) none templates) refl
