-- The start is put at point 0, at one variable after the other.
use Prim.Native.Nat.{ℕ, ◌+◌, ◌-◌, ◌≤◌, ◌<◌, min}
use mathlib.Core.Path.{◌≡◌, refl, sym, ◌∙◌}
use mathlib.Core.List.{List, ◌++◌}
use mathlib.Core.Bool.{Bool, true, false, cond, false≢true}
use native.Mathlib.Omega.{arith}
use lib.ListN.{length, get_or, take, drop, replicate}
use lib.Seq.{length-take-le, get_or-drop}
use Rattle.std.proofs.lemmas.List.{length-replicate, get_or-replicate, get_or_append_left, get_or-append_right}
use lib.Dec.{eqb, ltb}
use borrow.Author.Tests.{lt-ltb, le-ltb, ltb-true, ltb-false}
use Rattle.sets.specs.Sets.{member}
use Rattle.strings.specs.declared.Values.{Values}
use Rattle.strings.specs.Inner.Promises.{holds_value}
use Rattle.pages.specs.Items.{Items, none}
use Rattle.pages.specs.Inner.Gaps.{GapsAre}
use Rattle.pages.proofs.Gathering.{no_gaps}
use Rattle.programs.specs.Program.{template_variable}
use Rattle.summaries.specs.ProposalReading.{variable_of}
use Rattle.summaries.specs.Summaries.{fragment}
use Rattle.summaries.specs.Covering.{start_environment}
use Rattle.summaries.proofs.Laws.{zeros}
use Rattle.graphs.specs.Inner.Graphs.{Keeps}
use Rattle.states.specs.Inner.States.{entries_in}
use Rattle.states.specs.Inner.Promises.{GraphJoined, ValuesJoined}
use Rattle.solver.specs.Inner.Flows.{Starts}
use Rattle.solver.specs.Inner.Work.{HasWords, all_variables, VariableStarts, NamedStarts, Started}
use Rattle.solver.proofs.Worklist.{starts_from, starts_past, starts_on}
use Rattle.solver.proofs.Entering.{graph_said, template_entered, string_entered}
use Rattle.solver.proofs.Flowing.{has_words}
use Rattle.solver.proofs.Bounds.{start_inside}

module _ (before after : List ℕ) (v : ℕ) (low : v < 8) (changed : Bool) where
  pub template_starts : v < 4 → (empty : List ℕ) → ((φ : Items) → GapsAre 0 φ → 0 < 32 → Keeps empty (fragment 0 φ)) → GraphJoined before 0 v empty after changed → VariableStarts v before after
  template_starts l empty K J points some =
      let words : HasWords (template_variable v) start_environment = rw (lt-ltb v 4 l) at (has_words (variable_of v) start_environment 0 (start_inside v low)) in
      rw (lt-ltb v 4 l)
      (template_entered points before 0 some after changed start_environment v empty (graph_said empty (start_environment.template v) (K none no_gaps (omega arith)) words) J).joins

  pub string_starts : 4 ≤ v → (one : Values) → ((s : ℕ) → holds_value one s ≡ eqb s 0) → ValuesJoined before 0 (v - 4) one after changed → VariableStarts v before after
  string_starts l one is J points some = rw (le-ltb v 4 l) (string_entered points before 0 some after changed start_environment (v - 4) one is J).joins

pub named_starts : (names v : ℕ) (before after : List ℕ) → member names v ≡ true → VariableStarts v before after → NamedStarts names v before after
named_starts names v before after e f = record { starts = λ _. f; left = λ n. absurd (false≢true (sym n ∙ e)) }

pub not_named_starts : (names v : ℕ) (before : List ℕ) → member names v ≡ false → NamedStarts names v before before
not_named_starts names v before e = record { starts = λ n. absurd (false≢true (sym e ∙ n)); left = λ _. refl }

pub starting_begins : (names : ℕ) (before : List ℕ) → Started 0 names before before
starting_begins names before π points some N nothing = starts_from π (entries_in points before) nothing

pub starting_goes : (names v : ℕ) (before work after : List ℕ) → v < 8 → Started v names before work → NamedStarts names v work after → Started (v + 1) names before after
starting_goes names v before work after low S N π points some A nothing = go (member names v) refl
  where
    go : (t : Bool) → member names v ≡ t → Starts π (v + 1) (entries_in points after)
    go true e = starts_on π (entries_in points work) v (S π points some A nothing) (entries_in points after) (sym (A v low) ∙ e) low (N.starts e points some)
    go false e = rw (N.left e) (starts_past π (entries_in points work) v (S π points some A nothing) (sym (A v low) ∙ e))

-- At each point that there is, of 32, all variables wait.
pub all_filled : (points n : ℕ) (part : List ℕ) → points ≤ 32 → n ≡ min points 32 → part ≡ replicate (length {A = ℕ} (take n (replicate 32 0))) all_variables
    → (k : ℕ) → get_or (part ++ drop n (replicate 32 0)) k 0 ≡ cond (ltb k points) all_variables 0
all_filled points n part few n_is part_is k =
    let all : n ≡ points = omega arith in
    let long : length {A = ℕ} (take n (replicate 32 0)) ≡ points = length-take-le n (replicate 32 0) (omega arith) ∙ all in
    let filled : part ≡ replicate points all_variables = part_is ∙ rw long refl in
    rw (filled, all) (go (ltb k points) refl)
  where
    go : (t : Bool) → ltb k points ≡ t → get_or (replicate points all_variables ++ drop points (replicate 32 0)) k 0 ≡ cond (ltb k points) all_variables 0
    go true e =
        let low = ltb-true k points e in
        get_or_append_left (replicate points all_variables) (drop points (replicate 32 0)) 0 k (omega (arith, low, length-replicate points all_variables))
        ∙ get_or-replicate points k all_variables 0 low ∙ rw e
    go false e =
        let high = ltb-false k points e in
        get_or-append_right (replicate points all_variables) (drop points (replicate 32 0)) points k 0 (length-replicate points all_variables) high
        ∙ get_or-drop points (replicate 32 0) (k - points) 0 ∙ zeros 32 (points + (k - points)) ∙ rw e
