-- What the code leaves in the work area: of its words, and of the entries of all points that they keep.
use Rattle.std.specs.Prelude.{ℕ, ◌-◌, ◌*◌, ◌≤◌, ◌<◌, ◌≡◌, List, ◌⊎◌, Bool, true, false, ◌&&◌, length, get_or, set, ltb}
use Rattle.sets.specs.Sets.{member}
use Rattle.pages.specs.Items.{Items}
use Rattle.pages.specs.Inner.Gaps.{GapsTable}
use Rattle.programs.specs.Program.{Act, Variable, template_variable, string_variable}
use Rattle.programs.specs.ProgramReading.{act_templates_there}
use Rattle.programs.specs.Inner.Promises.{ActFits}
use Rattle.summaries.specs.Proposal.{Claim, root, edge, string, gap_from, attribute_gap_from}
use Rattle.summaries.specs.ProposalReading.{variable_of}
use Rattle.summaries.specs.Summaries.{Environment, transfer}
use Rattle.summaries.specs.Covering.{start_environment}
use Rattle.jobs.specs.Job.{Script}
use Rattle.jobs.specs.JobVerdict.{AllCovered}
use Rattle.jobs.specs.Inner.ScriptTables.{NamesAre, ScriptTables}
use Rattle.graphs.specs.Inner.Growth.{sum, Grows}
use Rattle.states.specs.Inner.States.{point_words, in_words, entries_in}
use Rattle.least_entries.specs.Inner.Order.{Below}
use Rattle.transfers.specs.Inner.Ways.{act_sources, among, meets}
use Rattle.solver.specs.Inner.Flows.{BelowAll, Leads, Joins, Flows, Takes, Starts, Settling}

-- The entries after a step in which a variable gets what an environment holds of it at a point.
pub record Entered (points : ℕ) (before : List ℕ) (p : ℕ) (v : Variable) (G : Environment) (after : List ℕ) (changed : Bool) : Type 0 where
  pub joins : Joins (entries_in points before) (entries_in points after) p v G
  pub same : changed ≡ false → (q : ℕ) → Below (entries_in points after q) (entries_in points before q)

-- What a graph holds has words in a work area, and a string variable may hold any string.
abbrev pub HasWords : Variable → Environment → Type 0
HasWords (template_variable x) G = (c : Claim) → G.template x c ≡ true → in_words c ≡ true
HasWords (string_variable y) G = Unit {0}

-- What is known of an act where its step from a point to a next point is taken.
pub record ActStands (φs : List Items) (gaps : List ℕ) (points p next : ℕ) (a : Act) : Type 0 where
  pub fits : ActFits a
  pub template_there : act_templates_there (length φs) a ≡ true
  pub few : length φs ≤ 31
  pub gaps_are : GapsTable gaps φs
  pub point_low : p < points
  pub next_low : next < points

-- A variable gets at the next point what the act makes of it.
pub record VariableFlows (before gaps : List ℕ) (a : Act) (p next : ℕ) (v : Variable) (after : List ℕ) (changed : Bool) : Type 0 where
  pub entered : (φs : List Items) (points : ℕ) → ActStands φs gaps points p next a → HasWords v (transfer φs a (entries_in points before p))
      → Entered points before next v (transfer φs a (entries_in points before p)) after changed
  pub grows : Grows before after changed

-- Whether a variable is made anew: some statement names it, and the act makes it from a fresh one.
abbrev pub anew : ℕ → ℕ → Act → ℕ → Bool
anew names fresh a v = member names v && meets (among fresh) (act_sources a (variable_of v))

-- No other variable is looked at.
pub record NeededFlows (before gaps : List ℕ) (names fresh : ℕ) (a : Act) (p next v : ℕ) (after : List ℕ) (changed : Bool) : Type 0 where
  pub flows : anew names fresh a v ≡ true → VariableFlows before gaps a p next (variable_of v) after changed
  pub left : anew names fresh a v ≡ false → (after ≡ before) × (changed ≡ false)

-- All that has words and whose origins are templates. What covers a script need not hold more.
abbrev pub inside : Claim → Bool
inside (root n) = true
inside (edge n g m) = ltb n 32 && ltb g 8
inside (string n h s) = ltb n 32 && ltb h 8
inside (gap_from g n) = ltb n 32 && ltb g 8
inside (attribute_gap_from h n) = ltb n 32 && ltb h 8

abbrev pub everything : ℕ → Environment
everything p = record { template = λ x c. inside c; string = λ y s. true }

pub record StepStands (π : Script) (gaps : List ℕ) (names points p next : ℕ) (a : Act) : Type 0 where
  pub act : ActStands π.templates gaps points p next a
  pub names_are : NamesAre π names
  pub leads : Leads π p a next
  pub bounded : AllCovered π everything

-- Either the words have changed, so that their sum is higher, or they are as they were, and this holds.
abbrev pub RisesOr : List ℕ → List ℕ → Type 0 → Type 0
RisesOr before after Still = (sum before < sum after) ⊎ ((after ≡ before) × Still)

-- The step from a point to a next point is taken, at all variables below v; `changed` are those whose entries have changed.
pub record Flowed (v : ℕ) (before gaps : List ℕ) (names fresh : ℕ) (a : Act) (p next : ℕ) (after : List ℕ) (changed : ℕ) : Type 0 where
  pub flows : (π : Script) (points : ℕ) → StepStands π gaps names points p next a → BelowAll π (entries_in points before)
      → Flows π v (entries_in points before) (entries_in points after) p a next (among fresh) (among changed)
  pub rises : RisesOr before after ((k : ℕ) → member changed k ≡ false)

-- The words of 32 points, as many as a script can have.
abbrev pub most_points : ℕ
most_points = 32

abbrev pub HasPoints : List ℕ → Type 0
HasPoints work = most_points * point_words ≤ length work

-- The variables that wait at each point: one set for each.
abbrev pub waits_in : List ℕ → ℕ → Variable → Bool
waits_in waiting p v = among (get_or waiting p 0) v

-- The step from a point to a next point is taken, and what has changed waits there.
pub record StepTaken (before gaps : List ℕ) (names fresh : ℕ) (a : Act) (p next : ℕ) (waiting after waiting' : List ℕ) : Type 0 where
  pub takes : (π : Script) (points : ℕ) → StepStands π gaps names points p next a → BelowAll π (entries_in points before)
      → Takes π (entries_in points before) (entries_in points after) (waits_in waiting) (waits_in waiting') p a next (among fresh)
  pub elsewhere : (q : ℕ) → (q ≡ next → ⊥) → get_or waiting' q 0 ≡ get_or waiting q 0
  pub same_length : length waiting' ≡ length waiting
  pub rises : RisesOr before after (waiting' ≡ waiting)

-- The steps of a point are taken: no variable waits there, unless it has changed by them.
pub record Settles (s before gaps : List ℕ) (names place p : ℕ) (waiting after waiting' : List ℕ) : Type 0 where
  pub settling : (π : Script) (count : ℕ) (starts : List ℕ) (points : ℕ) (places : List ℕ) → ScriptTables π s count starts points places names → GapsTable gaps π.templates
      → p < points → place ≡ get_or places p 0 → Settling π (entries_in points before) (waits_in waiting) → Settling π (entries_in points after) (waits_in waiting')
  pub there : (π : Script) (count : ℕ) (starts : List ℕ) (points : ℕ) (places : List ℕ) → ScriptTables π s count starts points places names → GapsTable gaps π.templates
      → p < points → place ≡ get_or places p 0 → (q : ℕ) → points ≤ q → get_or waiting q 0 ≡ 0 → get_or waiting' q 0 ≡ 0
  pub same_length : length waiting' ≡ length waiting
  pub progress : RisesOr before after (waiting' ≡ set waiting p 0)

-- The entries so far and the variables that wait, of a script with these tables; where it has no point, none waits.
pub record Working (s gaps : List ℕ) (points : ℕ) (places : List ℕ) (names : ℕ) (work waiting : List ℕ) : Type 0 where
  pub settling : (π : Script) (count : ℕ) (starts : List ℕ) → ScriptTables π s count starts points places names → GapsTable gaps π.templates
      → Settling π (entries_in points work) (waits_in waiting)
  pub there : (π : Script) (count : ℕ) (starts : List ℕ) → ScriptTables π s count starts points places names → GapsTable gaps π.templates
      → (q : ℕ) → points ≤ q → get_or waiting q 0 ≡ 0

-- No variable waits then at these points, nor where none waited before.
abbrev pub NoneWaits : (ℕ → Type 0) → List ℕ → List ℕ → Type 0
NoneWaits Point waiting waiting' = (q : ℕ) → (get_or waiting q 0 ≡ 0) ⊎ Point q → get_or waiting' q 0 ≡ 0

-- Points are visited: the steps of those at which some variable waits are taken.
pub record Visited (Point : ℕ → Type 0) (s gaps places : List ℕ) (names : ℕ) (before waiting after waiting' : List ℕ) : Type 0 where
  pub working : (points : ℕ) → Working s gaps points places names before waiting → Working s gaps points places names after waiting'
  pub same_length : length waiting' ≡ length waiting
  pub rises : RisesOr before after (NoneWaits Point waiting waiting')

-- The point that a sweep upwards or downwards visits at a turn, and so the turn at which it visits a point.
abbrev pub turned : Bool → ℕ → ℕ
turned true k = k
turned false k = most_points - 1 - k

-- All variables, as `40` numbers them.
abbrev pub all_variables : ℕ
all_variables = 255

-- By the answer: no variable waits at any point; or some does at one.
abbrev pub NoneWaiting : List ℕ → Bool → Type 0
NoneWaiting waiting true = (q : ℕ) → q < most_points → get_or waiting q 0 ≡ 0
NoneWaiting waiting false = (p : ℕ) × ((p < most_points) × (get_or waiting p 0 ≡ 0 → ⊥))

-- A variable gets its start at point 0.
abbrev pub VariableStarts : ℕ → List ℕ → List ℕ → Type 0
VariableStarts v before after = (points : ℕ) → 0 < points → Joins (entries_in points before) (entries_in points after) 0 (variable_of v) start_environment

-- A variable that no statement names is left.
pub record NamedStarts (names v : ℕ) (before after : List ℕ) : Type 0 where
  pub starts : member names v ≡ true → VariableStarts v before after
  pub left : member names v ≡ false → after ≡ before

-- The start is put at the variables below v that some statement names.
abbrev pub Started : ℕ → ℕ → List ℕ → List ℕ → Type 0
Started v names before after =
    (π : Script) (points : ℕ) → 0 < points → NamesAre π names → ((p : ℕ) (F : Environment) → Below (entries_in points before p) F) → Starts π v (entries_in points after)

-- Nothing is held at any of these points.
abbrev pub ZeroPoints : ℕ → List ℕ → Type 0
ZeroPoints points work = (i : ℕ) → i < points * point_words → get_or work i 0 ≡ 0
