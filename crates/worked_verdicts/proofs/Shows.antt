-- The shows of a job, decided by tables of t rounds: point by point, the lowest first, 11 before 12, 14 and 15.
use Prim.Native.Nat.{ℕ, zero, suc, ◌+◌, ◌≤◌, ◌<◌}
use native.Mathlib.Omega.{arith}
use mathlib.Core.Path.{◌≡◌, refl, subst}
use mathlib.Core.Bool.{Bool, true, false}
use mathlib.Core.Option.{Option, some, none}
use lib.ListN.{length}
use lib.Dec.{ltb}
use borrow.Author.Tests.{ltb-true, ltb-false}
use Rattle.std.specs.Prelude.{None, Some}
use Rattle.verdicts.specs.declared.Numbers.{Numbers}
use Rattle.verdicts.specs.declared.Breach.{Breach}
use Rattle.verdicts.specs.declared.Fault.TheVariants.{NotRoot}
use Rattle.verdicts.specs.Printed.{prints, fault_numbers, element_fault}
use Rattle.pages.specs.RightPages.{FirstBreach}
use Rattle.summaries.specs.Summaries.{Summary, Environment, entries}
use Rattle.summaries.specs.Languages.{graph_shown}
use Rattle.jobs.specs.Job.{Script, Job}
use Rattle.jobs.specs.JobVerdict.{AllCovered, ShowHolds, NotRootAt, WrongIn, ScriptVerdict, not_root, wrong_element, accepted}
use Rattle.programs.proofs.AtPoints.{past_stops}
use Rattle.patterns.specs.Inner.LowestWrong.{MaybeWrong, LowestBreach, nowhere_wrong, found_lowest}
use Rattle.patterns.specs.Inner.Shows.{Tables, ExactTables, Least, lowest_root, lowest_wrong}
use Rattle.patterns.proofs.Lowest.{least_of, least_below, none_of}
use Rattle.patterns.proofs.ReadJobs.{GivenShows}
use Rattle.patterns.proofs.JobShows.{nothing_shown, lowest_not_root, lowest_wrong_element, show_holds}
use Rattle.worked_verdicts.proofs.Counting.{one_more}
use Rattle.worked_verdicts.proofs.Tables.{tables_by, enough_rounds, tables_exact}

-- What is found at a point: all pages are right; a root template with another page; an element that is wrong, by template, offset and
-- breach; or the rounds are too few to tell.
pub data Found : Type 0 where
  right : Found
  other_page : ℕ → Found
  wrong : ℕ → ℕ → Breach → Found
  undecided : Found

abbrev by_lowest : Option ℕ → MaybeWrong → Found
by_lowest (some r) w = other_page r
by_lowest none None = right
by_lowest none (Some w) = wrong w.template w.at w.breach

abbrev only_enough : Bool → Found → Found
only_enough true f = f
only_enough false f = undecided

module _ (t : ℕ) (π : Script) (E : ℕ → Environment) where
  abbrev in_graph : Option Summary → Found
  in_graph none = right
  in_graph (some G) = only_enough (enough_rounds π.templates G t π.vocabulary)
      (by_lowest (lowest_root π.templates G π.vocabulary (tables_by π.templates G t π.vocabulary))
      (lowest_wrong π.templates G π.vocabulary (tables_by π.templates G t π.vocabulary)))

  unfoldable pub show_by : ℕ → Found
  unfolding enough_rounds tables_by lowest_root lowest_wrong graph_shown
  show_by p = in_graph (graph_shown π.templates π.program E p)

-- What it means that this is found.
module _ (π : Script) (E : ℕ → Environment) (p : ℕ) where
  pub record OtherPage (r : ℕ) : Type 0 where
    pub page : NotRootAt π E p r
    pub lowest : (r' : ℕ) → NotRootAt π E p r' → r ≤ r'

  pub record WrongFound (n at : ℕ) (b : Breach) : Type 0 where
    pub no_other : (r : ℕ) → NotRootAt π E p r → ⊥
    pub element : FirstBreach (WrongIn π E p n at) b
    pub lowest : (n' at' : ℕ) (b' : Breach) → WrongIn π E p n' at' b' → at ≤ at'

  abbrev pub FoundAt : Found → Type 0
  FoundAt right = ShowHolds π E p
  FoundAt (other_page r) = OtherPage r
  FoundAt (wrong n at b) = WrongFound n at b
  FoundAt undecided = Unit {0}

module _ (t : ℕ) (π : Script) (E : ℕ → Environment) (read : GivenShows π E) (p : ℕ) where
  module _ (G : Summary) (shows : graph_shown π.templates π.program E p ≡ some G) (T : Tables)
      (exact : ExactTables π.templates G π.vocabulary T) where
    by_wrong : ((r : ℕ) → NotRootAt π E p r → ⊥) → (w : MaybeWrong) → LowestBreach (WrongIn π E p) w → (w ≡ None → ShowHolds π E p) → FoundAt π E p (by_lowest none w)
    by_wrong no_other _ (nowhere_wrong h) holds = holds refl
    by_wrong no_other _ (found_lowest f l) holds = record { no_other = no_other; element = f; lowest = l }

    by_lowest_lem : (o : Option ℕ) → lowest_root π.templates G π.vocabulary T ≡ o → FoundAt π E p (by_lowest o (lowest_wrong π.templates G π.vocabulary T))
    by_lowest_lem (some r) e =
        let l = subst (Least _) e (lowest_not_root π E read p G shows T exact) in
        record { page = least_of l; lowest = least_below l }
    by_lowest_lem none e = by_wrong (none_of (subst (Least _) e (lowest_not_root π E read p G shows T exact))) _
        (lowest_wrong_element π E read p G shows T exact) (λ q. (show_holds π E read p G shows T exact).1 (e, q))

  pub show_by_lem : FoundAt π E p (show_by t π E p)
  unfolding show_by
  show_by_lem = go (graph_shown π.templates π.program E p) refl
    where
      enough_or : (G : Summary) → graph_shown π.templates π.program E p ≡ some G → (b : Bool) → enough_rounds π.templates G t π.vocabulary ≡ b
          → (f : Found) → (ExactTables π.templates G π.vocabulary (tables_by π.templates G t π.vocabulary) → FoundAt π E p f) → FoundAt π E p (only_enough b f)
      enough_or G shows true e f h = h (tables_exact π.templates G t π.vocabulary (read.graphs p G shows) read.script.templates.is_in_range e)
      enough_or G shows false e f h = tt

      go : (o : Option Summary) → graph_shown π.templates π.program E p ≡ o → FoundAt π E p (in_graph t π E o)
      go none e = nothing_shown π E p e
      go (some G) e = enough_or G e _ refl _ (λ exact. by_lowest_lem G e _ exact _ refl)

-- Point by point.
abbrev page_verdict : ℕ → Found → Option Numbers → Option Numbers
page_verdict p right rest = rest
page_verdict p (other_page r) rest = some (fault_numbers (NotRoot p r))
page_verdict p (wrong n at b) rest = some (fault_numbers (element_fault p n at b))
page_verdict p undecided rest = none

module _ (t : ℕ) (π : Script) (E : ℕ → Environment) where
  unfoldable shows_from : ℕ → ℕ → Option Numbers
  unfolding show_by
  shows_from zero p = some (prints 0 0 0 0)
  shows_from (suc k) p = page_verdict p (show_by t π E p) (shows_from k (suc p))

unfoldable pub shows_by : ℕ → Job → Option Numbers
unfolding shows_from
shows_by t j = shows_from t j.script (entries j.proposal) (length j.script.program) 0

module _ (t : ℕ) (π : Script) (E : ℕ → Environment) (read : GivenShows π E) (covered : AllCovered π E) where
  past_shows : (p : ℕ) → length π.program ≤ p → ShowHolds π E p
  unfolding graph_shown
  past_shows p h = nothing_shown π E p (rw (past_stops π.program p h))

  all_shows : (p : ℕ) → length π.program ≤ p → ((q : ℕ) → q < p → ShowHolds π E q) → (q : ℕ) → ShowHolds π E q
  all_shows p h below q = go (ltb q p) refl
    where
      go : (b : Bool) → ltb q p ≡ b → ShowHolds π E q
      go true e = below q (ltb-true q p e)
      go false e = let l = ltb-false q p e in past_shows q (omega arith)

  page_verdict_lem : (p : ℕ) → ((q : ℕ) → q < p → ShowHolds π E q) → (f : Found) → FoundAt π E p f → (rest : Option Numbers)
      → (ShowHolds π E p → (v : Numbers) → rest ≡ some v → ScriptVerdict π E v) → (v : Numbers) → page_verdict p f rest ≡ some v → ScriptVerdict π E v
  page_verdict_lem p below right h rest goes v e = goes h v e
  page_verdict_lem p below (other_page r) h rest goes v e =
      let is : fault_numbers (NotRoot p r) ≡ v = cc in
      subst (ScriptVerdict π E) is (not_root covered below h.page h.lowest)
  page_verdict_lem p below (wrong n at b) h rest goes v e =
      let is : fault_numbers (element_fault p n at b) ≡ v = cc in
      subst (ScriptVerdict π E) is (wrong_element covered below h.no_other h.element h.lowest)
  page_verdict_lem p below undecided h rest goes v e = absurd (let z : ◌≡◌ {A = ℕ} 0 1 = cc in omega arith)

  shows_from_lem : (k p : ℕ) → p + k ≡ length π.program → ((q : ℕ) → q < p → ShowHolds π E q) → (v : Numbers) → shows_from t π E k p ≡ some v → ScriptVerdict π E v
  unfolding shows_from
  shows_from_lem zero p e below v i =
      let is : prints 0 0 0 0 ≡ v = cc in
      subst (ScriptVerdict π E) is (accepted covered (all_shows p (omega arith) below))
  shows_from_lem (suc k) p e below v i = page_verdict_lem p below (show_by t π E p) (show_by_lem t π E read p) (shows_from t π E k (suc p))
      (λ here. shows_from_lem k (suc p) (omega arith) (one_more (ShowHolds π E) p below here)) v i

pub shows_by_lem : (t : ℕ) (j : Job) → GivenShows j.script (entries j.proposal) → AllCovered j.script (entries j.proposal)
    → (v : Numbers) → shows_by t j ≡ some v → ScriptVerdict j.script (entries j.proposal) v
unfolding shows_by
shows_by_lem t j read covered v =
    shows_from_lem t j.script (entries j.proposal) read covered (length j.script.program) 0 (omega arith) (λ q h. absurd (omega arith)) v
