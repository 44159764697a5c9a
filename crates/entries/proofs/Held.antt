-- Whether an item passes into the entry that a graph keeps, by what the graph's accessors say.
use Prim.Native.Nat.{ℕ, ◌<◌}
use mathlib.Core.Path.{◌≡◌, refl, sym, ◌∙◌}
use mathlib.Core.List.{List}
use mathlib.Core.Bool.{Bool, true, false, not}
use borrow.Author.Tests.{not-true, not-false, eq-eqb, ne_eqb}
use Rattle.std.specs.Prelude.{Option, None, Some}
use Rattle.sets.specs.Sets.{member}
use Rattle.sets.specs.Inner.Promises as Sets
use Rattle.summaries.specs.Proposal.{root, edge, string, gap_from, attribute_gap_from, claim, any_at}
use Rattle.summaries.specs.declared.Claim.{Claim}
use Rattle.summaries.specs.Inner.Listed.{meaning_of}
use Rattle.strings.specs.declared.Values.{Values}
use Rattle.strings.specs.Inner.Promises.{holds_value, ValuesWithin}
use Rattle.graphs.specs.Inner.Graphs.{holds}
use Rattle.entries.specs.declared.Passing.{Passing}
use Rattle.entries.specs.declared.Plugged.{Plugged}
use Rattle.entries.specs.declared.Filled.{Filled}
use Rattle.entries.specs.Inner.Passing.{plugs, fills}
use Rattle.entries.specs.Inner.Entries.{ItemHolds}
use Rattle.entries.proofs.Tests.{members_decide, values_decide}
use Rattle.entries.proofs.Passings.{root_passes, root_stays_out, edge_passes, string_passes, any_passes, gap_passes, plugged_passes, attribute_passes, filled_passes}

-- No gap is plugged, or another; no attribute gap is filled, or another.
pub plugs_none : (plug : Option Plugged) → ((p : Plugged) → plug ≡ Some p → ⊥) → (k : ℕ) → plugs plug k ≡ false
plugs_none None n k = refl
plugs_none (Some p) n k = absurd (n p refl)

pub plugs_other : (plug : Option Plugged) (p : Plugged) (k : ℕ) → plug ≡ Some p → (k ≡ p.gap → ⊥) → plugs plug k ≡ false
plugs_other plug p k e n = rw e (ne_eqb k p.gap n)

pub fills_none : (fill : Option Filled) → ((f : Filled) → fill ≡ Some f → ⊥) → (k : ℕ) → fills fill k ≡ false
fills_none None n k = refl
fills_none (Some f) n k = absurd (n f refl)

pub fills_other : (fill : Option Filled) (f : Filled) (k : ℕ) → fill ≡ Some f → (k ≡ f.gap → ⊥) → fills fill k ≡ false
fills_other fill f k e n = rw e (ne_eqb k f.gap n)

module _ (graph : List ℕ) (how : Passing) where
  pub as_item : (item known : Claim) → item ≡ known → (r : Bool) → ItemHolds graph how (meaning_of known) r → ItemHolds graph how (meaning_of item) r
  as_item item known e r h = rw e h

  pub root_left_out : (n : ℕ) → not how.roots ≡ true → ItemHolds graph how (claim (root n)) true
  root_left_out n e f R k = root_stays_out how R n (not-true how.roots e)

  pub root_held : (n roots : ℕ) (r : Bool) → not how.roots ≡ false → ((m : ℕ) → member roots m ≡ holds graph (root m)) → r ≡ member roots n
      → ItemHolds graph how (claim (root n)) r
  root_held n roots r e is r-is f R k = root_passes how R n r (not-false how.roots e) (k.same (root n) tt ∙ (sym (is n) ∙ sym r-is))

  -- The edges of a gap.
  module _ (n g edges : ℕ) (is : n < 32 → g < 8 → (m : ℕ) → member edges m ≡ holds graph (edge n g m)) where
    pub edge_held : (m : ℕ) (r : Bool) → r ≡ member edges m → ItemHolds graph how (claim (edge n g m)) r
    edge_held m r r-is f R k = edge_passes how R n g m r (k.same (edge n g m) (f.0, f.1) ∙ (sym (is f.0 f.1 m) ∙ sym r-is))

    pub plugged_held : (p : Plugged) → how.plug ≡ Some p → g ≡ p.gap → (r : Bool) → Sets.MembersWithin p.roots edges r → ItemHolds graph how (claim (gap_from g n)) r
    plugged_held p e q r v f R k =
        plugged_passes how R g n (rw e (eq-eqb g p.gap q)) edges (λ m. k.same (edge n g m) (f.1, f.0) ∙ sym (is f.1 f.0 m)) r (rw e (members_decide p.roots edges r v))

  pub gap_held : (g n origins : ℕ) (r : Bool) → plugs how.plug g ≡ false → (g < 8 → (m : ℕ) → member origins m ≡ holds graph (gap_from g m)) → r ≡ member origins n
      → ItemHolds graph how (claim (gap_from g n)) r
  gap_held g n origins r other is r-is f R k = gap_passes how R g n other r (k.same (gap_from g n) f.0 ∙ (sym (is f.0 n) ∙ sym r-is))

  -- What an attribute gap takes.
  module _ (n h : ℕ) (values : Values) (is : n < 32 → h < 8 → (t : ℕ) → holds_value values t ≡ holds graph (string n h t)) where
    pub string_held : (t : ℕ) (r : Bool) → r ≡ holds_value values t → ItemHolds graph how (claim (string n h t)) r
    string_held t r r-is f R k = string_passes how R n h t r (k.same (string n h t) (f.0, f.1) ∙ (sym (is f.0 f.1 t) ∙ sym r-is))

    pub any_held : (any : Values) → ((t : ℕ) → holds_value any t ≡ true) → (r : Bool) → ValuesWithin any values r → ItemHolds graph how (any_at n h) r
    any_held any e r v f R k = any_passes how R n h values (λ t. k.same (string n h t) (f.0, f.1) ∙ sym (is f.0 f.1 t)) r (values_decide _ _ any values (λ t. sym (e t)) (λ t. refl) r v)

    pub filled_held : (p : Filled) → how.fill ≡ Some p → h ≡ p.gap → (r : Bool) → ValuesWithin p.strings values r → ItemHolds graph how (claim (attribute_gap_from h n)) r
    filled_held p e q r v f R k =
        filled_passes how R h n (rw e (eq-eqb h p.gap q)) values (λ t. k.same (string n h t) (f.1, f.0) ∙ sym (is f.1 f.0 t)) r (rw e (values_decide _ _ p.strings values (λ t. refl) (λ t. refl) r v))

  pub attribute_held : (h n origins : ℕ) (r : Bool) → fills how.fill h ≡ false → (h < 8 → (m : ℕ) → member origins m ≡ holds graph (attribute_gap_from h m)) → r ≡ member origins n
      → ItemHolds graph how (claim (attribute_gap_from h n)) r
  attribute_held h n origins r other is r-is f R k = attribute_passes how R h n other r (k.same (attribute_gap_from h n) f.0 ∙ (sym (is f.0 n) ∙ sym r-is))
