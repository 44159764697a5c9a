-- Whether some string reaches an attribute gap, and whether it has something to take.
use Prim.Native.Nat.{ℕ, suc, ◌<◌}
use mathlib.Core.Path.{◌≡◌, sym, ◌∙◌}
use mathlib.Core.List.{List}
use mathlib.Core.Bool.{Bool, true, false, not, false≢true}
use mathlib.Core.Option.{Option, some, none}
use mathlib.Core.Logic.{inl, inr}
use native.Mathlib.Omega.{arith}
use Rattle.strings.specs.declared.Values.{Values}
use Rattle.strings.specs.declared.AttributeValues.{AttributeValues}
use Rattle.strings.specs.Strings.{strings}
use Rattle.strings.specs.Inner.Promises.{holds_value, can_take, NoValues, NothingToTake}
use Rattle.pages.specs.Items.{open_gap}
use Rattle.summaries.specs.Proposal as Proposal
use Rattle.summaries.specs.Summaries.{Summary}
use Rattle.summaries.specs.Languages.{takes}
use Rattle.patterns.specs.Inner.Rounds.{string_reaches, value_takes}
use Rattle.patterns.proofs.Tests.{any_below_lem, below_any}
use Rattle.sets.proofs.Booleans.{or_left, or_right, neither, refuted}
use Rattle.graphs.specs.Inner.Graphs.{holds, Keeps}
use Rattle.graphs.proofs.ClosedGraphs.{values_kept}

module _ (graph : List ℕ) (n h : ℕ) (few : n < 32) (G : Summary) (keeps : Keeps graph G) (low : h < 8) where
  pub some_string : (values : Values) → ((t : ℕ) → holds_value values t ≡ holds graph (Proposal.string n h t)) → (b : Bool) → NoValues values b
      → not b ≡ string_reaches G n (open_gap h)
  some_string values is b tells = go b tells
    where
      told : (t : ℕ) → takes G n h (some t) ≡ holds_value values t
      told t = keeps.same (Proposal.string n h t) (few, low) ∙ sym (is t)

      go : (b : Bool) → NoValues values b → not b ≡ string_reaches G n (open_gap h)
      go true nothing = sym (refuted _ (λ p. let (t, l, q) = below_any (suc strings) (λ t. takes G n h (some t)) p in false≢true (sym (told t ∙ nothing t) ∙ q)))
      go false (t, l, e) = sym (any_below_lem (suc strings) (λ t. takes G n h (some t)) t (omega arith) (told t ∙ e))

  pub some_taken : (values : AttributeValues) → ((o : Option ℕ) → can_take values o ≡ takes (holds graph) n h o) → (b : Bool) → NothingToTake values b
      → not b ≡ value_takes G n (open_gap h)
  some_taken values told b nothing = go b nothing
    where
      absent : takes G n h none ≡ values.absent
      absent = values_kept graph n h values few low told G keeps none

      reached : (b : Bool) → NoValues values.strings b → not b ≡ string_reaches G n (open_gap h)
      reached = some_string values.strings (λ t. told (some t))

      go : (b : Bool) → NothingToTake values b → not b ≡ value_takes G n (open_gap h)
      go true (e, no_string) = sym (neither (takes G n h none) (string_reaches G n (open_gap h)) (absent ∙ e) (sym (reached true no_string)))
      go false (inl e) = sym (or_left (takes G n h none) (string_reaches G n (open_gap h)) (absent ∙ e))
      go false (inr s) = sym (or_right (takes G n h none) (string_reaches G n (open_gap h)) (sym (reached false s)))
