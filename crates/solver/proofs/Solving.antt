-- The worklist: the sum of the words rises with each sweep, else no variable waits after it; when none waits, the entries are the least ones.
use Prim.Native.Nat.{ℕ, suc, ◌+◌, ◌-◌, ◌*◌, ◌^◌, ◌≤◌, ◌<◌}
use mathlib.Core.Path.{◌≡◌, refl, sym, ◌∙◌}
use mathlib.Core.List.{List, [], ◌∷◌}
use mathlib.Core.Logic.{inl, inr}
use mathlib.Core.Bool.{Bool, true, false, cond, not, false≢true}
use native.Mathlib.Omega.{arith}
use lib.ListN.{length, get_or}
use lib.Dec.{eqb, ltb}
use borrow.Author.Tests.{ne_eqb, eqb-true, eqb-false, lt-ltb, le-ltb, ltb-true, ltb-false}
use Rattle.sets.specs.Inner.Promises.{count_below}
use Rattle.sets.proofs.Counts.{count_more, count_most}
use Rattle.pages.specs.Inner.Gaps.{GapsTable}
use Rattle.programs.specs.Program.{Statement, step, stop, Variable, template_variable, string_variable, statement_at, named}
use Rattle.programs.specs.Inner.Promises.{IsVariable}
use Rattle.summaries.specs.ProposalReading.{variable_of}
use Rattle.summaries.specs.Summaries.{Environment}
use Rattle.jobs.specs.Job.{Script}
use Rattle.jobs.specs.LeastEntries.{Least}
use Rattle.jobs.specs.Inner.ScriptTables.{ScriptTables}
use Rattle.transfers.specs.Inner.Ways.{act_sources}
use Rattle.transfers.proofs.Sources.{source_there}
use Rattle.graphs.specs.Inner.Growth.{sum}
use Rattle.sets.proofs.Booleans.{or_left}
use Rattle.states.specs.Inner.States.{point_words, entries_in}
use Rattle.states.proofs.Entries.{nothing_held, no_string_held}
use Rattle.least_entries.specs.Inner.Order.{Below}
use Rattle.programs.proofs.AtPoints.{past_stops}
use Rattle.solver.specs.Inner.Flows.{Starts, made_from, Settling}
use Rattle.solver.specs.Inner.Work.{ZeroPoints, RisesOr, waits_in, Working, NoneWaits, Visited, all_variables, Started}
use Rattle.solver.proofs.Variables.{among_none, among_all, number_there}
use Rattle.solver.proofs.Worklist.{settling_starts, settled}
use Rattle.solver.proofs.Bounds.{act_fits, act_there, few_there}

-- ---- the measure

sum_narrow : (ns : List ℕ) → ((i : ℕ) → get_or ns i 0 < 2 ^ 64) → sum ns ≤ length ns * 2 ^ 64
unfolding sum
sum_narrow [] h = omega arith
sum_narrow (n ∷ ns) h =
    let a : n < 2 ^ 64 = h 0 in
    let b : sum ns ≤ length ns * 2 ^ 64 = sum_narrow ns (λ i. h (suc i)) in
    omega arith

-- The points at which some variable waits.
abbrev waits_at : List ℕ → ℕ → Bool
waits_at waiting q = not (eqb (get_or waiting q 0) 0)

abbrev pub measure : List ℕ → List ℕ → ℕ
measure work waiting = (length work * 2 ^ 64 - sum work) * 33 + count_below 32 (waits_at waiting)

-- A sweep that begins where some variable waits.
module _ (waiting : List ℕ) (p : ℕ) (low : p < 32) (waits : get_or waiting p 0 ≡ 0 → ⊥) (waiting' : List ℕ) where
  fewer_wait : ((q : ℕ) → q < 32 → get_or waiting' q 0 ≡ 0) → count_below 32 (waits_at waiting') < count_below 32 (waits_at waiting)
  fewer_wait none =
      count_more 32 (waits_at waiting') (waits_at waiting) (λ q l m. absurd (false≢true (rw (none q l) at m))) p low (rw (none p low)) (rw (ne_eqb (get_or waiting p 0) 0 waits))

  pub measure_less : {s gaps places : List ℕ} {names : ℕ} (work after : List ℕ) → length after ≡ length work → ((i : ℕ) → get_or after i 0 < 2 ^ 64)
      → Visited (λ q. q < 32) s gaps places names work waiting after waiting' → measure after waiting' < measure work waiting
  measure_less work after room narrow U = go U.rises
    where
      go : RisesOr work after (NoneWaits (λ q. q < 32) waiting waiting') → measure after waiting' < measure work waiting
      go (inl rises) =
          let a = sum_narrow after narrow in
          let b = count_most 32 (waits_at waiting') in
          rw room (let c : sum after ≤ length work * 2 ^ 64 = rw room at a in omega arith)
      go (inr still) =
          let fewer = fewer_wait (λ q l. still.1 q (inr l)) in
          rw still.0 (omega arith)

-- ---- the invariant

-- Without a point there is no statement, and nothing to cover.
nothing_named : (ts : List Statement) → length ts ≡ 0 → (v : Variable) → named ts v ≡ false
unfolding named
nothing_named [] e v = refl
nothing_named (t ∷ ts) e v = absurd (omega arith)

-- In zeros nothing is held.
nothing_below : (points : ℕ) (work : List ℕ) → ((i : ℕ) → i < points * point_words → get_or work i 0 ≡ 0) → (p : ℕ) (F : Environment) → Below (entries_in points work p) F
nothing_below points work zero p F (template_variable x) = λ c e. absurd (false≢true (sym (nothing_held points work zero p x c) ∙ e))
nothing_below points work zero p F (string_variable y) = λ s e. absurd (false≢true (sym (no_string_held points work zero p y s) ∙ e))

module _ (s gaps : List ℕ) (points : ℕ) (places : List ℕ) (names : ℕ) where
  module _ (before work : List ℕ) (zero : ZeroPoints points before) (S : Started 8 names before work) (waiting : List ℕ)
      (all : points ≤ 32 → (q : ℕ) → get_or waiting q 0 ≡ cond (ltb q points) all_variables 0) where
    module _ (π : Script) (count : ℕ) (starts : List ℕ) (T : ScriptTables π s count starts points places names) (G : GapsTable gaps π.templates) where
      starts_there : (t : Bool) → eqb points 0 ≡ t → Starts π 8 (entries_in points work)
      starts_there true e =
          let none : points ≡ 0 = eqb-true points 0 e in
          record {
            holds = λ v l n. absurd (false≢true (sym (nothing_named π.program (omega (arith, T.points_are)) (variable_of v)) ∙ n));
            below = λ F c p. nothing_below points work (λ i l. absurd (omega arith)) p (F p);
          }
      starts_there false e =
          let some = eqb-false points 0 e in
          S π points (above some) T.names_are (nothing_below points before zero)
        where
          above : (points ≡ 0 → ⊥) → 0 < points
          above n = omega arith

      -- At a point all variables wait, so every variable is made from one that waits.
      all_wait : (p : ℕ) → p < points → (w : Variable) → IsVariable w → waits_in waiting p w ≡ true
      all_wait p l w i = rw (all T.few_points p, lt-ltb p points l) (among_all w i)

      only_stops : (p v : ℕ) → v < 8 → p < points → (t : Statement) → statement_at π.program p ≡ t → made_from (waits_in waiting p) t (variable_of v) ≡ false → t ≡ stop
      only_stops p v low l stop is m = refl
      only_stops p v low l (step a q q') is m =
          let fits = act_fits π s count starts points places names T gaps G p l a q q' is in
          let there = act_there π s count starts points places names T gaps G p l a q q' is in
          let source = source_there (length π.templates) (few_there π s count starts points places names T gaps G) a fits there (variable_of v) (number_there v low) in
          absurd (false≢true (sym m ∙ or_left _ _ (all_wait p l (act_sources a (variable_of v)).0 source)))

      begins : Settling π (entries_in points work) (waits_in waiting)
      begins = settling_starts π (entries_in points work) (starts_there (eqb points 0) refl) (waits_in waiting) (λ p v low m. go p v low m (ltb p points) refl)
        where
          go : (p v : ℕ) → v < 8 → made_from (waits_in waiting p) (statement_at π.program p) (variable_of v) ≡ false → (t : Bool) → ltb p points ≡ t → statement_at π.program p ≡ stop
          go p v low m true e = only_stops p v low (ltb-true p points e) (statement_at π.program p) refl m
          go p v low m false e = past_stops π.program p (let far = ltb-false p points e in omega (arith, T.points_are))

    pub working_begins : Working s gaps points places names work waiting
    working_begins = record {
      settling = begins;
      there = λ π count starts T G q far. all T.few_points q ∙ rw (le-ltb q points far);
    }

  module _ (work waiting : List ℕ) (W : Working s gaps points places names work waiting) where
    pub working_ends : ((q : ℕ) → q < 32 → get_or waiting q 0 ≡ 0) → (π : Script) (count : ℕ) (starts : List ℕ) → ScriptTables π s count starts points places names → GapsTable gaps π.templates → Least π (entries_in points work)
    working_ends done π count starts T G = settled π (entries_in points work) (waits_in waiting) (W.settling π count starts T G) (λ q w. rw (none q (ltb q points) refl) (among_none w))
      where
        none : (q : ℕ) (t : Bool) → ltb q points ≡ t → get_or waiting q 0 ≡ 0
        none q true e = let l = ltb-true q points e in done q (let few = T.few_points in omega arith)
        none q false e = W.there π count starts T G q (ltb-false q points e)
