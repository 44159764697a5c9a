-- Closing a graph, gap by gap; and what an attribute gap takes in it.
use Prim.Native.Nat.{ℕ, ◌+◌, ◌≤◌, ◌<◌}
use mathlib.Core.Path.{◌≡◌, refl, sym, ◌∙◌}
use mathlib.Core.List.{List}
use mathlib.Core.Bool.{Bool, true, false, ◌&&◌, ◌||◌, or-false}
use mathlib.Core.Option.{Option, some, none}
use native.Mathlib.Omega.{arith}
use lib.Dec.{eqb, ltb}
use borrow.Author.Tests.{eqb-true, eqb-false, lt-ltb, le-ltb, ltb-true, ltb-false}
use Rattle.sets.specs.Sets.{member}
use Rattle.strings.specs.declared.AttributeValues.{AttributeValues}
use Rattle.strings.specs.Inner.Promises.{holds_value, can_take}
use Rattle.summaries.specs.Proposal.{Claim, root, edge, string, gap_from, attribute_gap_from}
use Rattle.summaries.specs.Summaries.{Summary}
use Rattle.summaries.specs.Languages.{closed_summary, takes}
use Rattle.graphs.specs.Inner.Graphs.{holds, InWords, Keeps}
use Rattle.graphs.specs.Inner.Promises.{added_at}
use Rattle.graphs.proofs.Storing.{keeps_same}

-- A summary closed at the gaps below one.
abbrev pub closed_below : ℕ → Summary → Summary
closed_below g R (root n) = R (root n)
closed_below g R (edge n k m) = R (edge n k m) || (ltb k g && (eqb m 0 && R (gap_from k n)))
closed_below g R (string n h s) = R (string n h s)
closed_below g R (gap_from k n) = R (gap_from k n)
closed_below g R (attribute_gap_from h n) = R (attribute_gap_from h n)

below_next : (r z : Bool) (o : ℕ → Bool) (k g : ℕ) (here : Bool) → here ≡ o g → ((r || (ltb k g && (z && o k))) || (eqb k g && (z && here))) ≡ (r || (ltb k (g + 1) && (z && o k)))
below_next r z o k g here is = go (ltb k g) refl (eqb k g) refl
  where
    join : (r z : Bool) → ((r || false) || z) ≡ (r || z)
    join true z = refl
    join false z = refl

    go : (t : Bool) → ltb k g ≡ t → (u : Bool) → eqb k g ≡ u → ((r || (t && (z && o k))) || (u && (z && here))) ≡ (r || (ltb k (g + 1) && (z && o k)))
    go true e true q = let l = ltb-true k g e in let n = eqb-true k g q in absurd (omega arith)
    go true e false q = let l = ltb-true k g e in rw (lt-ltb k (g + 1) (omega arith)) (or-false (r || (z && o k)))
    go false e true q =
        let n : k ≡ g = eqb-true k g q in
        rw (lt-ltb k (g + 1) (omega arith), is, n) (join r (z && o g))
    go false e false q =
        let l = ltb-false k g e in
        let n = eqb-false k g q in
        rw (le-ltb k (g + 1) (omega arith)) (or-false (r || false))

module _ (R : Summary) where
  pub below_ends : (graph : List ℕ) (g : ℕ) → 8 ≤ g → Keeps graph (closed_below g R) → Keeps graph (closed_summary R)
  below_ends graph g l K = keeps_same graph _ _ same K
    where
      same : (c : Claim) → InWords c → closed_summary R c ≡ closed_below g R c
      same (root n) w = refl
      same (edge n k m) w = rw (lt-ltb k g (omega (arith, w.1)))
      same (string n h s) w = refl
      same (gap_from k n) w = refl
      same (attribute_gap_from h n) w = refl

  module _ (g opened : ℕ) (to : ℕ → Bool) (to_is : (m : ℕ) → to m ≡ eqb m 0) where
    one_more : ((n : ℕ) → member opened n ≡ R (gap_from g n)) → (c : Claim) → InWords c
        → closed_below (g + 1) R c ≡ added_at false g to (member opened) (closed_below g R) c
    one_more opened_is (root n) w = refl
    one_more opened_is (edge n k m) w = rw (to_is m) (sym (below_next (R (edge n k m)) (eqb m 0) (λ j. R (gap_from j n)) k g (member opened n) (opened_is n)))
    one_more opened_is (string n h s) w = sym (or-false (R (string n h s)))
    one_more opened_is (gap_from k n) w = refl
    one_more opened_is (attribute_gap_from h n) w = refl

    pub below_goes : g < 8 → (graph after : List ℕ) → Keeps graph (closed_below g R)
        → (g < 8 → (n : ℕ) → member opened n ≡ holds graph (gap_from g n)) → (g < 8 → (S : Summary) → Keeps graph S → Keeps after (added_at false g to (member opened) S))
        → Keeps after (closed_below (g + 1) R)
    below_goes l graph after K opened_is goes =
        keeps_same after _ _ (one_more (λ n. opened_is l n ∙ sym (K.same (gap_from g n) l))) (goes l (closed_below g R) K)

-- A string is taken where it is held, and absence where the template is an origin.
pub values_taken : (graph : List ℕ) (n h : ℕ) (values : AttributeValues) → ((s : ℕ) → holds_value values.strings s ≡ holds graph (string n h s))
    → values.absent ≡ holds graph (attribute_gap_from h n) → (o : Option ℕ) → can_take values o ≡ takes (holds graph) n h o
values_taken graph n h values strings absent none = absent
values_taken graph n h values strings absent (some s) = strings s

-- The same for the summary that the graph keeps.
pub values_kept : (graph : List ℕ) (n h : ℕ) (values : AttributeValues) → n < 32 → h < 8 → ((o : Option ℕ) → can_take values o ≡ takes (holds graph) n h o)
    → (G : Summary) → Keeps graph G → (o : Option ℕ) → takes G n h o ≡ can_take values o
values_kept graph n h values few low told G keeps none = keeps.same (attribute_gap_from h n) low ∙ sym (told none)
values_kept graph n h values few low told G keeps (some s) = keeps.same (string n h s) (few, low) ∙ sym (told (some s))
