-- The points of a job that was read, one after the other: what is found at each, and the verdict that follows.
use Prim.Native.Nat.{ℕ, ◌+◌, ◌%◌, ◌≤◌, ◌<◌}
use native.Mathlib.Omega.{arith}
use mathlib.Core.Path.{◌≡◌, refl, sym, ap, subst, ◌∙◌}
use mathlib.Core.List.{List}
use mathlib.Core.Bool.{Bool, true, false}
use mathlib.Core.Option.{some, none}
use Rattle.std.specs.Prelude.{Option, Some, None, Result, Ok, Err}
use lib.ListN.{length, get_or}
use lib.Dec.{eqb, ltb}
use borrow.Author.Tests.{eqb-true, eqb-false, ltb-true, ltb-false}
use Rattle.verdicts.specs.declared.Refusal.{Refusal}
use Rattle.verdicts.specs.declared.Verdict.TheVariants.{Accepted, Refused}
use Rattle.verdicts.specs.Printed.{numbers_of}
use Rattle.vocabularies.specs.declared.Tables as Vocabularies
use Rattle.summaries.specs.Summaries.{Summary, Environment, entries}
use Rattle.summaries.specs.Languages.{closed_summary, graph_shown}
use Rattle.graphs.specs.Inner.Graphs.{Keeps, SameGraph, nothing}
use Rattle.jobs.specs.Job.{Script, Job}
use Rattle.jobs.specs.Inner.ScriptTables.{StatementStands}
use Rattle.programs.specs.Program.{statement_at}
use Rattle.programs.proofs.AtPoints.{past_stops}
use Rattle.jobs.specs.JobVerdict.{ShowHolds, AllCovered, ScriptVerdict, not_root, wrong_element, accepted}
use Rattle.patterns.proofs.JobShows.{nothing_shown}
use Rattle.shows.specs.declared.TemplateTables.{TemplateTables}
use Rattle.shows.specs.declared.Source.{Source}
use Rattle.shows.specs.declared.WrongShow.{WrongShow}
use Rattle.shows.specs.declared.WrongShow.TheVariants.{NotRoot, Element}
use Rattle.shows.specs.Inner.Promises.{ShowFound, PointStands, shown_at, SourceFits, made_from, ShowsAt, HoldsShown, ShowAt, DecidesShow}
use Rattle.checker.specs.Inner.Promises.{fault_at, ReadAt, RightGraph, IsSame}

-- What a show at a point shows.
abbrev closed : Job → ℕ → Source → Summary
closed j p source = closed_summary (made_from j p source)

-- The graph that was found right last, if any was.
pub record RightLast (j : Job) (right : Option (List ℕ)) : Type 0 where
  pub is_right : (graph : List ℕ) → right ≡ Some graph → RightGraph j graph

pub right_at : (j : Job) (graph : List ℕ) → RightGraph j graph → RightLast j (Some graph)
right_at j graph R = record { is_right = λ g e. let q : graph ≡ g = cc in subst (RightGraph j) q R }

-- A point whose statement stands at an offset.
module _ (s heads gaps : List ℕ) (place p : ℕ) (j : Job) (stands : PointStands s heads gaps place p j) (what : Option Source) (tells : ShowsAt s place what) where
  pub shows_nothing : what ≡ None → ShowHolds j.script (entries j.proposal) p
  shows_nothing e = nothing_shown j.script (entries j.proposal) p (subst (ShowsAt s place) e tells heads gaps p j stands)

  module _ (source : Source) (e : what ≡ Some source) (empty : List ℕ) (holds_none : Keeps empty nothing) (graph : List ℕ) (loads : HoldsShown s heads gaps p source empty graph) where
    shown : SourceFits j source × (shown_at j p ≡ some (closed j p source))
    shown = subst (ShowsAt s place) e tells heads gaps p j stands

    keeps : Keeps graph (closed j p source)
    keeps = loads j stands.kept shown.0 holds_none

    -- It shows a graph that was found right.
    pub same_graph : (last : List ℕ) → RightGraph j last → SameGraph last graph → ShowHolds j.script (entries j.proposal) p
    same_graph last right same = right p (closed j p source) shown.1 (λ c w. keeps.same c w ∙ sym (same c w))

    -- It shows the graph that was found right last.
    pub right_again : (right : Option (List ℕ)) → RightLast j right → (b : Bool) → b ≡ true → IsSame right graph b → ShowHolds j.script (entries j.proposal) p
    right_again right R b e h = go right R.is_right (subst (IsSame right graph) e h)
      where
        go : (x : Option (List ℕ)) → ((last : List ℕ) → x ≡ Some last → RightGraph j last) → IsSame x graph true → ShowHolds j.script (entries j.proposal) p
        go None f same = absurd same
        go (Some last) f same = same_graph last (f last refl) same

-- The place of a point, as code looks it up.
place_is : (points p : ℕ) (places : List ℕ) → points ≤ 32 → p < points → get_or places (p % 32) 0 ≡ get_or places p 0
place_is points p places few l = ap (λ (i : ℕ). get_or places i 0) (omega arith)

module _ (s : List ℕ) (rules : Vocabularies.Tables) (templates : TemplateTables) (count : ℕ) (starts : List ℕ) (points : ℕ) (places heads : List ℕ) (j : Job)
    (R : ReadAt s rules templates count starts points places heads j) (p : ℕ) (l : p < points) where
  pub point_stands : PointStands s heads templates.gaps (get_or places (p % 32) 0) p j
  point_stands =
      let few = R.parts.of_script.few_points in
      let low : p < 32 = omega arith in
      let count_is = R.parts.of_script.count_is in
      record {
        kept = record {
          low = low;
          entry = R.parts.entry p low;
          gaps_are = R.tabled.gaps;
          few = subst (λ (n : ℕ). n ≤ 31) count_is R.parts.of_script.few_templates;
        };
        stands = subst (λ (n : ℕ). StatementStands s n (get_or places (p % 32) 0) (statement_at j.script.program p)) count_is
            (rw (place_is points p places few l) (R.parts.of_script.statement p l));
      }

  -- What is decided for the graph of a show.
  module _ (what : Option Source) (tells : ShowsAt s (get_or places (p % 32) 0) what) (source : Source) (e : what ≡ Some source) (empty : List ℕ) (holds_none : Keeps empty nothing)
      (graph : List ℕ) (loads : HoldsShown s heads templates.gaps p source empty graph) (r : Result (Unit {0}) WrongShow) (decides : DecidesShow s rules templates count starts graph r) where
    show_at : (q : ℕ) (G : Summary) → shown_at j q ≡ some G → Keeps graph G → ShowAt s rules templates count starts graph j q
    show_at q G is K = record {
      end = R.end;
      reads = R.reads;
      vocabulary = R.vocabulary;
      located = R.located;
      stand = R.parts.of_script.start;
      few = R.parts.of_script.few_templates;
      tabled = R.tabled;
      shown = G;
      shows = is;
      keeps = K;
    }

    kept : Keeps graph (closed j p source)
    kept = keeps s heads templates.gaps (get_or places (p % 32) 0) p j point_stands what tells source e empty holds_none graph loads

    -- It is found at the point.
    pub shows_graph : ShowFound j.script (entries j.proposal) p r
    shows_graph = decides j p (show_at p (closed j p source) (shown s heads templates.gaps (get_or places (p % 32) 0) p j point_stands what tells source e empty holds_none graph loads).1 kept)

    -- It holds of every point that shows this graph.
    pub right_graph : (u : Unit {0}) → r ≡ Ok u → RightGraph j graph
    right_graph u is q G shows same = subst (ShowFound j.script (entries j.proposal) q) is (decides j q (show_at q G shows (record { room = kept.room; same = same; narrow = kept.narrow })))

-- No statement stands past the last point, so nothing is shown there.
past_nothing : (π : Script) (E : ℕ → Environment) (q : ℕ) → length π.program ≤ q → graph_shown π.templates π.program E q ≡ none
unfolding graph_shown
past_nothing π E q h = rw (past_stops π.program q h)

-- The shows of the points below p hold.
module _ (π : Script) (E : ℕ → Environment) where
  abbrev pub Below : ℕ → Type 0
  Below p = (q : ℕ) → q < p → ShowHolds π E q

  module _ (p : ℕ) (below : Below p) where
    pub shows_go : ShowHolds π E p → Below (p + 1)
    shows_go holds q l = go (eqb q p) refl
      where
        go : (t : Bool) → eqb q p ≡ t → ShowHolds π E q
        go true i = rw (eqb-true q p i) holds
        go false i = let n = eqb-false q p i in below q (omega arith)

    pub shows_fail : (w : WrongShow) → ShowFound π E p (Err w) → (r : Refusal) → r ≡ fault_at p w → AllCovered π E → ScriptVerdict π E (numbers_of (Refused r))
    shows_fail (NotRoot t) f r is covered = rw is (not_root covered below f.at f.lowest)
    shows_fail (Element w) f r is covered = rw is (wrong_element covered below f.no_root f.told f.lowest)

    pub shows_end : length π.program ≤ p → AllCovered π E → ScriptVerdict π E (numbers_of Accepted)
    shows_end l covered = accepted covered (λ q. go q (ltb q p) refl)
      where
        go : (q : ℕ) (t : Bool) → ltb q p ≡ t → ShowHolds π E q
        go q true i = below q (ltb-true q p i)
        go q false i = let h = ltb-false q p i in nothing_shown π E q (past_nothing π E q (omega arith))
