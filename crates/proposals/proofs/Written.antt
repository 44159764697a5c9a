-- The bytes in the order in which they are written are those of the proposal.
use Prim.Native.Nat.{ℕ, zero, suc, ◌+◌, ◌-◌, ◌*◌, ◌≤◌, ◌<◌}
use mathlib.Core.Path.{◌≡◌, refl, sym, ap, ap₂, ◌∙◌}
use mathlib.Core.Bool.{Bool, true, false, cond, not, ◌&&◌}
use mathlib.Core.List.{List, [], ◌∷◌, ◌++◌, append_assoc, append-nil}
use native.Mathlib.Numerals.{add-one}
use native.Mathlib.Omega.{arith}
use lib.Dec.{ltb}
use borrow.Author.Tests.{lt-ltb, ltb-false}
use Rattle.commands.specs.Commands.{strings}
use Rattle.programs.specs.Program.{Variable, template_variable, string_variable}
use Rattle.summaries.specs.Proposal.{root, edge, string, gap_from, attribute_gap_from, Holding, claim, any_at, one_string, any_string, Head}
use Rattle.summaries.specs.ProposalReading.{variable_of}
use Rattle.summaries.specs.Summaries.{Summary, Strings, Environment}
use Rattle.summaries.specs.ProposalOf.{each, where_held, unlisted, root_items, edge_items, string_items, any_items, gap_items, attribute_gap_items, template_items, variable_strings, items_of, headed, proposal_of}
use Rattle.summaries.specs.WrittenProposal.{written_holding, written_holdings, written_variable, written_head, written_proposal}
use Rattle.states.specs.Inner.States.{entries_in}
use Rattle.proposals.specs.declared.Sort.TheVariants.{Roots, Edges, Listed, Any, Origins, AttributeOrigins}
use Rattle.proposals.specs.Inner.Bytes.{item_bytes, member_items, members, listed_of, place_bytes, row_bytes, sort_bytes, template_bytes, string_bytes, entry_bytes, head_bytes, entry_at, entries_bytes}
use Rattle.proposals.proofs.Each.{each_same, each_one, each_rows}

-- ---- items

holdings_append : (xs ys : List Holding) → written_holdings (xs ++ ys) ≡ written_holdings xs ++ written_holdings ys
unfolding written_holdings
holdings_append [] ys = refl
holdings_append (x ∷ xs) ys = ap (λ (bs : List ℕ). written_holding x ++ bs) (holdings_append xs ys) ∙ sym (append_assoc (written_holding x) (written_holdings xs) (written_holdings ys))

holdings_each : (n : ℕ) (f : ℕ → List Holding) → written_holdings (each n f) ≡ each n (λ q. written_holdings (f q))
unfolding each written_holdings
holdings_each zero f = refl
holdings_each (suc n) f = holdings_append (each n f) (f n) ∙ ap (λ (bs : List ℕ). bs ++ written_holdings (f n)) (holdings_each n f)

holdings_where : (t : Bool) (y : Holding) → written_holdings (where_held t y) ≡ cond t (written_holding y) []
unfolding written_holdings
holdings_where true y = append-nil (written_holding y)
holdings_where false y = refl

-- The items of the members of a set.
members_written : (before : List ℕ) (m : ℕ) (held : ℕ → Bool) (y : ℕ → Holding) → ((k : ℕ) → written_holding (y k) ≡ item_bytes before k)
    → written_holdings (each m λ k. where_held (held k) (y k)) ≡ members before m held
unfolding members
members_written before m held y same =
    holdings_each m (λ k. where_held (held k) (y k))
    ∙ each_same m (λ k. written_holdings (where_held (held k) (y k))) (member_items before held)
    (λ k l. holdings_where (held k) (y k) ∙ ap (λ (bs : List ℕ). cond (held k) bs []) (same k))

-- Lists of lists of items.
rows_written : (n : ℕ) (f : ℕ → List Holding) (g : ℕ → List ℕ) → ((q : ℕ) → written_holdings (f q) ≡ g q) → written_holdings (each n f) ≡ each n g
rows_written n f g same = holdings_each n f ∙ each_same n (λ q. written_holdings (f q)) g (λ q l. same q)

module _ (templates : ℕ) (S : Summary) where
  count : suc templates ≡ templates + 1
  count = sym (add-one templates)

  roots_written : written_holdings (root_items templates S) ≡ sort_bytes templates S Roots
  unfolding sort_bytes row_bytes
  roots_written =
      members_written (0x41 ∷ []) (suc templates) (λ t. S (root t)) (λ t. claim (root t)) (λ k. refl)
      ∙ ap (λ (m : ℕ). members (0x41 ∷ []) m (λ t. S (root t))) count
      ∙ sym (each_one (place_bytes templates S Roots 0)) ∙ sym (each_one (row_bytes templates S Roots))

  edges_written : written_holdings (edge_items templates S) ≡ sort_bytes templates S Edges
  unfolding sort_bytes row_bytes
  edges_written =
      ap (λ (m : ℕ). written_holdings (each m λ n. each 8 λ g. each m λ t. where_held (S (edge n g t)) (claim (edge n g t)))) count
      ∙ rows_written (templates + 1) _ (row_bytes templates S Edges) λ n.
      rows_written 8 _ (place_bytes templates S Edges n) λ g.
      members_written (0x42 ∷ n ∷ g ∷ []) (templates + 1) (λ t. S (edge n g t)) (λ t. claim (edge n g t)) (λ k. refl)

  strings_written : written_holdings (string_items templates S) ≡ sort_bytes templates S Listed
  unfolding sort_bytes row_bytes
  strings_written =
      ap (λ (m : ℕ). written_holdings (each m λ n. each 8 λ h. each strings λ s. where_held (S (string n h s) && not (S (string n h unlisted))) (claim (string n h s)))) count
      ∙ rows_written (templates + 1) _ (row_bytes templates S Listed) λ n.
      rows_written 8 _ (place_bytes templates S Listed n) λ h.
      members_written (0x43 ∷ n ∷ h ∷ []) strings (λ s. S (string n h s) && not (S (string n h unlisted))) (λ s. claim (string n h s)) (λ k. refl)

  any_written : written_holdings (any_items templates S) ≡ sort_bytes templates S Any
  unfolding sort_bytes row_bytes
  any_written =
      ap (λ (m : ℕ). written_holdings (each m λ n. each 8 λ h. where_held (S (string n h unlisted)) (any_at n h))) count
      ∙ rows_written (templates + 1) _ (row_bytes templates S Any) λ n.
      members_written (0x44 ∷ n ∷ []) 8 (λ h. S (string n h unlisted)) (λ h. any_at n h) (λ k. refl) ∙ sym (each_one (place_bytes templates S Any n))

  gaps_written : written_holdings (gap_items templates S) ≡ sort_bytes templates S Origins
  unfolding sort_bytes row_bytes
  gaps_written =
      ap (λ (m : ℕ). written_holdings (each 8 λ g. each m λ n. where_held (S (gap_from g n)) (claim (gap_from g n)))) count
      ∙ rows_written 8 _ (row_bytes templates S Origins) λ g.
      members_written (0x45 ∷ g ∷ []) (templates + 1) (λ n. S (gap_from g n)) (λ n. claim (gap_from g n)) (λ k. refl) ∙ sym (each_one (place_bytes templates S Origins g))

  attribute_gaps_written : written_holdings (attribute_gap_items templates S) ≡ sort_bytes templates S AttributeOrigins
  unfolding sort_bytes row_bytes
  attribute_gaps_written =
      ap (λ (m : ℕ). written_holdings (each 8 λ h. each m λ n. where_held (S (attribute_gap_from h n)) (claim (attribute_gap_from h n)))) count
      ∙ rows_written 8 _ (row_bytes templates S AttributeOrigins) λ h.
      members_written (0x46 ∷ h ∷ []) (templates + 1) (λ n. S (attribute_gap_from h n)) (λ n. claim (attribute_gap_from h n)) (λ k. refl) ∙ sym (each_one (place_bytes templates S AttributeOrigins h))

  and_then : (xs ys : List Holding) (us vs : List ℕ) → written_holdings xs ≡ us → written_holdings ys ≡ vs → written_holdings (xs ++ ys) ≡ us ++ vs
  and_then xs ys us vs e f = holdings_append xs ys ∙ ap₂ (λ a b. a ++ b) e f

  template_written : written_holdings (template_items templates S) ≡ template_bytes templates S
  unfolding template_items template_bytes
  template_written =
      and_then _ _ _ _ (and_then _ _ _ _ (and_then _ _ _ _ (and_then _ _ _ _ (and_then _ _ _ _ roots_written edges_written) strings_written) any_written) gaps_written) attribute_gaps_written

string_written : (Y : Strings) → written_holdings (variable_strings Y) ≡ string_bytes Y
unfolding variable_strings string_bytes
string_written Y =
    holdings_append (each strings (λ s. where_held (Y s && not (Y unlisted)) (one_string s))) (where_held (Y unlisted) any_string)
    ∙ ap₂ (λ us vs. us ++ vs) (members_written (0x47 ∷ []) strings (listed_of Y) one_string (λ k. refl)) (holdings_where (Y unlisted) any_string)

-- ---- heads

-- The heads without the end.
unfoldable written_heads : List Head → List ℕ
unfolding written_head
written_heads [] = []
written_heads (h ∷ hs) = written_head h ++ written_heads hs

heads_end : (hs : List Head) → written_proposal hs ≡ written_heads hs ++ (0x4F ∷ [])
unfolding written_proposal written_heads
heads_end [] = refl
heads_end (h ∷ hs) = ap (λ (bs : List ℕ). written_head h ++ bs) (heads_end hs) ∙ sym (append_assoc (written_head h) (written_heads hs) (0x4F ∷ []))

heads_append : (xs ys : List Head) → written_heads (xs ++ ys) ≡ written_heads xs ++ written_heads ys
unfolding written_heads
heads_append [] ys = refl
heads_append (x ∷ xs) ys = ap (λ (bs : List ℕ). written_head x ++ bs) (heads_append xs ys) ∙ sym (append_assoc (written_head x) (written_heads xs) (written_heads ys))

heads_each : (n : ℕ) (f : ℕ → List Head) (g : ℕ → List ℕ) → ((q : ℕ) → q < n → written_heads (f q) ≡ g q) → written_heads (each n f) ≡ each n g
unfolding each written_heads
heads_each zero f g same = refl
heads_each (suc n) f g same = heads_append (each n f) (f n) ∙ ap₂ (λ xs ys. xs ++ ys) (heads_each n f g (λ q l. same q (omega arith))) (same n (omega arith))

-- An item has a byte, so that a head with an item is one with bytes.
starts : (p v : ℕ) (y : Holding) (bs : List ℕ) → 0x40 ∷ p ∷ v ∷ (written_holding y ++ bs) ≡ head_bytes p v (written_holding y ++ bs)
starts p v (claim (root t)) bs = refl
starts p v (claim (edge n g t)) bs = refl
starts p v (claim (string n h s)) bs = refl
starts p v (claim (gap_from g n)) bs = refl
starts p v (claim (attribute_gap_from h n)) bs = refl
starts p v (any_at n h) bs = refl
starts p v (one_string s) bs = refl
starts p v any_string bs = refl

headed_written : (p : ℕ) (v : Variable) (ys : List Holding) → written_heads (headed p v ys) ≡ head_bytes p (written_variable v) (written_holdings ys)
unfolding written_heads written_head written_holdings
headed_written p v [] = refl
headed_written p v (y ∷ ys) = append-nil _ ∙ starts p (written_variable v) y (written_holdings ys)

variable_written : (templates : ℕ) (E : Environment) (p v : ℕ) → written_heads (headed p (variable_of v) (items_of templates E (variable_of v))) ≡ head_bytes p v (entry_bytes templates E v)
unfolding entry_bytes
variable_written templates E p v = headed_written p (variable_of v) (items_of templates E (variable_of v)) ∙ go (ltb v 4) refl
  where
    go : (t : Bool) → ltb v 4 ≡ t
        → head_bytes p (written_variable (cond t (template_variable v) (string_variable (v - 4)))) (written_holdings (items_of templates E (cond t (template_variable v) (string_variable (v - 4)))))
        ≡ head_bytes p v (cond t (template_bytes templates (E.template v)) (string_bytes (E.string (v - 4))))
    go true e = ap (head_bytes p v) (template_written templates (E.template v))
    go false e =
        let l : 4 ≤ v = ltb-false v 4 e in
        let n : 4 + (v - 4) ≡ v = omega arith in
        ap₂ (head_bytes p) n (string_written (E.string (v - 4)))

-- ---- the whole

-- Whether there are more points does not matter to the entries at one.
pub one_point : (points : ℕ) (work : List ℕ) (p : ℕ) → p < points → entries_in points work p ≡ entry_at work p
unfolding entries_in
one_point points work p l = rw (lt-ltb p points l, lt-ltb p (p + 1) (omega arith))

abbrev variable_bytes : ℕ → List ℕ → ℕ → ℕ → List ℕ
variable_bytes templates work p v = head_bytes p v (entry_bytes templates (entry_at work p) v)

pub proposal_written : (templates points : ℕ) (work : List ℕ) → written_proposal (proposal_of templates points (entries_in points work)) ≡ entries_bytes templates work (points * 8) ++ (0x4F ∷ [])
unfolding proposal_of entries_bytes
proposal_written templates points work =
    heads_end (proposal_of templates points (entries_in points work))
    ∙ ap (λ (bs : List ℕ). bs ++ (0x4F ∷ []))
    (heads_each points _ (λ p. each 8 (variable_bytes templates work p)) (λ p l.
    heads_each 8 _ (variable_bytes templates work p) λ v m.
    variable_written templates (entries_in points work p) p v ∙ ap (λ (E : Environment). head_bytes p v (entry_bytes templates E v)) (one_point points work p l))
    ∙ each_rows (variable_bytes templates work) points)
