-- What passes of a graph, part by part.
use Prim.Native.Nat.{ℕ, ◌≤◌, ◌<◌}
use mathlib.Core.Path.{◌≡◌, refl, sym, ◌∙◌}
use mathlib.Core.List.{List}
use mathlib.Core.Bool.{Bool, true, false, ◌&&◌, ◌||◌, or-false, and_comm}
use Rattle.std.specs.Prelude.{Option, None}
use native.Mathlib.Omega.{arith}
use lib.Dec.{eqb}
use borrow.Author.Tests.{eqb-true, ne_eqb}
use Rattle.sets.specs.Sets.{member}
use Rattle.strings.specs.declared.Values.{Values}
use Rattle.strings.specs.Inner.Promises.{holds_value}
use Rattle.summaries.specs.Proposal.{Claim, root, edge, string, gap_from, attribute_gap_from}
use Rattle.summaries.specs.Summaries.{Summary}
use Rattle.graphs.specs.Inner.Graphs.{holds, InWords, Keeps}
use Rattle.graphs.specs.Inner.Promises.{added_at, rootless, without_gap, without_attribute_gap}
use Rattle.graphs.proofs.Storing.{keeps_same}
use Rattle.entries.specs.declared.Passing.{Passing}
use Rattle.entries.specs.declared.Plugged.{Plugged}
use Rattle.entries.specs.declared.Filled.{Filled}
use Rattle.entries.specs.Inner.Passing.{passed, by_roots, by_plug, by_fill, wholly, without_roots, plugging, filling}

module _ (S : Summary) where
  wholly_passes : (c : Claim) → passed wholly S c ≡ S c
  wholly_passes (root n) = or-false _
  wholly_passes (edge n g m) = or-false _
  wholly_passes (string n h s) = or-false _
  wholly_passes (gap_from g n) = or-false _
  wholly_passes (attribute_gap_from h n) = or-false _

  -- The parts that change nothing.
  pub roots_pass : (graph : List ℕ) (roots : Bool) → roots ≡ true → Keeps graph S → Keeps graph (passed (by_roots roots) S)
  roots_pass graph roots e K = rw e (keeps_same graph _ _ (λ c w. wholly_passes c) K)

  pub none_plugged : (graph : List ℕ) (plug : Option Plugged) → plug ≡ None → Keeps graph S → Keeps graph (passed (by_plug plug) S)
  none_plugged graph plug e K = rw e (keeps_same graph _ _ (λ c w. wholly_passes c) K)

  pub none_filled : (graph : List ℕ) (fill : Option Filled) → fill ≡ None → Keeps graph S → Keeps graph (passed (by_fill fill) S)
  none_filled graph fill e K = rw e (keeps_same graph _ _ (λ c w. wholly_passes c) K)

  pub roots_stay_out : (graph : List ℕ) (roots : Bool) → roots ≡ false → Keeps graph (rootless S) → Keeps graph (passed (by_roots roots) S)
  roots_stay_out graph roots e K = rw e (keeps_same graph _ _ (λ c w. same c) K)
    where
      same : (c : Claim) → passed without_roots S c ≡ rootless S c
      same (root n) = refl
      same (edge n g m) = or-false _
      same (string n h s) = or-false _
      same (gap_from g n) = or-false _
      same (attribute_gap_from h n) = or-false _

  -- There is no such gap.
  pub no_gap : (graph : List ℕ) (gap roots : ℕ) → 8 ≤ gap → Keeps graph S → Keeps graph (passed (plugging gap roots) S)
  no_gap graph gap roots l K = keeps_same graph _ _ same K
    where
      same : (c : Claim) → InWords c → passed (plugging gap roots) S c ≡ S c
      same (root n) w = or-false _
      same (edge n k m) w = let h = w.1 in rw (ne_eqb k gap (λ q. omega arith)) (or-false (S (edge n k m)))
      same (string n h s) w = or-false _
      same (gap_from k n) w = rw (ne_eqb k gap (λ q. omega arith)) (or-false _)
      same (attribute_gap_from h n) w = or-false _

  pub no_attribute : (graph : List ℕ) (gap : ℕ) (strings : Values) → 8 ≤ gap → Keeps graph S → Keeps graph (passed (filling gap strings) S)
  no_attribute graph gap strings l K = keeps_same graph _ _ same K
    where
      same : (c : Claim) → InWords c → passed (filling gap strings) S c ≡ S c
      same (root n) w = or-false _
      same (edge n k m) w = or-false _
      same (string n k s) w = let f = w.1 in rw (ne_eqb k gap (λ q. omega arith)) (or-false (S (string n k s)))
      same (gap_from k n) w = or-false _
      same (attribute_gap_from k n) w = rw (ne_eqb k gap (λ q. omega arith)) (or-false _)

  -- Edges and strings are added at the origins, which are taken out then.
  at_gap : (r : Bool) (k g : ℕ) (more here : Bool) (o : ℕ → Bool) → here ≡ o g → (r || (eqb k g && (o k && more))) ≡ (r || (eqb k g && (more && here)))
  at_gap r k g more here o is = go (eqb k g) refl
    where
      go : (t : Bool) → eqb k g ≡ t → (r || (t && (o k && more))) ≡ (r || (t && (more && here)))
      go true e = rw (eqb-true k g e, is, and_comm (o g) more)
      go false e = refl

  pub gap_plugged : (graph after : List ℕ) (gap roots origins : ℕ) → gap < 8 → Keeps graph S → ((n : ℕ) → member origins n ≡ holds graph (gap_from gap n))
      → Keeps after (without_gap gap (added_at false gap (member roots) (member origins) S)) → Keeps after (passed (plugging gap roots) S)
  gap_plugged graph after gap roots origins l K is L = keeps_same after _ _ same L
    where
      same : (c : Claim) → InWords c → passed (plugging gap roots) S c ≡ without_gap gap (added_at false gap (member roots) (member origins) S) c
      same (root n) w = or-false _
      same (edge n k m) w = at_gap (S (edge n k m)) k gap (member roots m) (member origins n) (λ j. S (gap_from j n)) (is n ∙ sym (K.same (gap_from gap n) l))
      same (string n h s) w = refl
      same (gap_from k n) w = or-false _
      same (attribute_gap_from h n) w = or-false _

  pub attribute_filled : (graph after : List ℕ) (gap : ℕ) (strings : Values) (origins : ℕ) → gap < 8 → Keeps graph S → ((n : ℕ) → member origins n ≡ holds graph (attribute_gap_from gap n))
      → Keeps after (without_attribute_gap gap (added_at true gap (holds_value strings) (member origins) S)) → Keeps after (passed (filling gap strings) S)
  attribute_filled graph after gap strings origins l K is L = keeps_same after _ _ same L
    where
      same : (c : Claim) → InWords c → passed (filling gap strings) S c ≡ without_attribute_gap gap (added_at true gap (holds_value strings) (member origins) S) c
      same (root n) w = or-false _
      same (edge n k m) w = refl
      same (string n k s) w = at_gap (S (string n k s)) k gap (holds_value strings s) (member origins n) (λ j. S (attribute_gap_from j n)) (is n ∙ sym (K.same (attribute_gap_from gap n) l))
      same (gap_from k n) w = or-false _
      same (attribute_gap_from k n) w = or-false _

  -- The three parts, one after the other.
  pub all_passed : (graph : List ℕ) (how : Passing) → Keeps graph (passed (by_fill how.fill) (passed (by_plug how.plug) (passed (by_roots how.roots) S))) → Keeps graph (passed how S)
  all_passed graph how K = keeps_same graph _ _ (λ c w. same c) K
    where
      same : (c : Claim) → passed how S c ≡ passed (by_fill how.fill) (passed (by_plug how.plug) (passed (by_roots how.roots) S)) c
      same (root n) = sym (or-false _ ∙ or-false _)
      same (edge n g m) = rw (or-false (S (edge n g m)), or-false (S (gap_from g n))) (sym (or-false _))
      same (string n h s) = rw (or-false (S (string n h s)), or-false (S (string n h s)), or-false (S (attribute_gap_from h n)), or-false (S (attribute_gap_from h n))) refl
      same (gap_from g n) = rw (or-false (S (gap_from g n))) (sym (or-false _))
      same (attribute_gap_from h n) = rw (or-false (S (attribute_gap_from h n)), or-false (S (attribute_gap_from h n))) refl
