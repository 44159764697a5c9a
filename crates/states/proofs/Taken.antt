-- An entry taken out of the work area.
use Prim.Native.Nat.{ℕ, ◌+◌, ◌^◌, ◌<◌}
use mathlib.Core.Path.{◌≡◌, refl, sym, ap, ◌∙◌}
use mathlib.Core.List.{List}
use mathlib.Core.Bool.{Bool, true, false, ◌&&◌, ◌||◌, and-false}
use lib.ListN.{get_or, take, drop}
use lib.Dec.{ltb}
use borrow.Author.Tests.{ltb-true, ltb-false}
use Rattle.sets.specs.Sets.{member}
use Rattle.strings.specs.declared.StringSet.{StringSet}
use Rattle.strings.specs.declared.Values.TheVariants.{Any, Named}
use Rattle.strings.specs.Inner.Promises.{set_number}
use Rattle.graphs.specs.Inner.Graphs.{holds, Keeps}
use Rattle.states.specs.Inner.States.{graph_place, strings_place, graph_words, in_words, entries_in}
use Rattle.states.specs.Inner.Promises.{HasPoint, GraphTaken, ValuesTaken}
use Rattle.states.proofs.Entries.{template_entry, string_entry, in_words_lem, graph_room, no_graph_word, graph_narrow}
use Rattle.graphs.proofs.Slots.{holds_none}
use Rattle.summaries.specs.Proposal.{Claim}

module _ (work : List ℕ) (p x : ℕ) (has : HasPoint work p) (l : x < 4) (narrow : (i : ℕ) → get_or work i 0 < 2 ^ 64) where
  pub entry_kept : (points : ℕ) → p < points → Keeps (graph_words work p x) ((entries_in points work p).template x)
  entry_kept points m = record {
    room = graph_room work p x has l;
    same = λ c f. template_entry points work p x m l c ∙ ap (λ (t : Bool). t && holds (graph_words work p x) c) (in_words_lem c f);
    narrow = graph_narrow work p x narrow;
  }

  pub graph_taken : (graph : List ℕ) (first : ℕ) → first ≡ graph_place p x → graph ≡ take 544 (drop first work) → GraphTaken work p x graph
  graph_taken graph first at copied =
      let words : graph ≡ graph_words work p x = copied ∙ ap (λ (n : ℕ). take 544 (drop n work)) at in
      record { words = words; keeps = λ points m. rw words (entry_kept points m) }

module _ (work : List ℕ) (p y first : ℕ) (l : y < 4) (at : first ≡ strings_place p y) where
  pub any_taken : (any : Bool) → any ≡ member (get_or work (first + 1) 0) 0 → any ≡ true → ValuesTaken work p y Any
  any_taken any is e =
      let told : member (get_or work (strings_place p y + 1) 0) 0 ≡ true = rw (← at, ← is) e in
      record { told = told; keeps = λ points m s. sym (string_entry points work p y m l s ∙ ap (λ (t : Bool). t || member (get_or work (strings_place p y) 0) s) told) }

  pub named_taken : (any : Bool) → any ≡ member (get_or work (first + 1) 0) 0 → any ≡ false → ((i : ℕ) → get_or work i 0 < 2 ^ 64) → (set : StringSet) → set_number set ≡ get_or work first 0 → ValuesTaken work p y (Named set)
  named_taken any is e narrow set named =
      let told : member (get_or work (strings_place p y + 1) 0) 0 ≡ false = rw (← at, ← is) e in
      let is_named : set_number set ≡ get_or work (strings_place p y) 0 = rw (← at) named in
      record {
        told = (told, is_named, rw is_named (narrow (strings_place p y)));
        keeps = λ points m s. rw is_named (sym (string_entry points work p y m l s ∙ ap (λ (t : Bool). t || member (get_or work (strings_place p y) 0) s) told));
      }

-- Words that are all zero hold nothing.
pub nothing_there : (work : List ℕ) (p x first : ℕ) → first ≡ graph_place p x → ((k : ℕ) → k < 544 → get_or (take 544 (drop first work)) k 0 ≡ 0) → (points : ℕ) (c : Claim)
    → (entries_in points work p).template x c ≡ false
unfolding entries_in
nothing_there work p x first at zero points c = rw (holds_none (graph_words work p x) none c, and-false (in_words c)) (and-false (ltb p points && ltb x 4))
  where
    none : (k : ℕ) → get_or (graph_words work p x) k 0 ≡ 0
    none k = go (ltb k 544) refl
      where
        go : (t : Bool) → ltb k 544 ≡ t → get_or (graph_words work p x) k 0 ≡ 0
        go true e = ap (λ (n : ℕ). get_or (take 544 (drop n work)) k 0) (sym at) ∙ zero k (ltb-true k 544 e)
        go false e = no_graph_word work p x k (ltb-false k 544 e)
