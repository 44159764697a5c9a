-- What the decision of a show promises (document 01, "Verdicts", 11 and 12; document 02, F-6).
use Rattle.std.specs.Prelude.{ℕ, ◌≤◌, ◌<◌, ◌≡◌, List, [], Bool, true, ◌&&◌, ◌||◌, length, get_or, Some, None, Result, Ok, Err}
use Rattle.std.specs.Prelude as Prelude
use Rattle.std.proofs.Math.Option.{Option, some, none}
use Rattle.sets.specs.Sets.{member}
use Rattle.verdicts.specs.declared.Breach.{Breach}
use Rattle.commands.specs.Reading.{whole}
use Rattle.vocabularies.specs.declared.Tables.{Tables}
use Rattle.vocabularies.specs.Vocabulary.{declared}
use Rattle.vocabularies.specs.Inner.Promises.{Describes}
use Rattle.pages.specs.Items.{Items}
use Rattle.pages.specs.RightPages.{FirstBreach}
use Rattle.pages.specs.Inner.Gaps.{StartsAt, GapsTable}
use Rattle.pages.specs.Inner.Promises.{Located}
use Rattle.programs.specs.Program.{statement_at, template_at}
use Rattle.summaries.specs.Summaries.{Summary, Environment, fragment, plug_summary, entries}
use Rattle.summaries.specs.Languages.{closed_summary, graph_shown}
use Rattle.jobs.specs.Job.{Script, Job, job}
use Rattle.jobs.specs.JobVerdict.{ShowHolds, NotRootAt, WrongIn}
use Rattle.graphs.specs.Inner.Graphs.{Keeps, nothing}
use Rattle.jobs.specs.Inner.ScriptTables.{StatementStands}
use Rattle.covering.specs.Inner.Tables.{EntriesAt}
use Rattle.reach.specs.Inner.Promises.{OutlinesTo}
use Rattle.occurrences.specs.Inner.Occurrences.{Occurrences}
use Rattle.pattern_sets.specs.Inner.PatternSets.{holds}
use Rattle.patterns.specs.Inner.Morphisms.{empty, other, root_morphism}
use Rattle.patterns.specs.Inner.Shows.{Least, ExactTables}
use Rattle.patterns.specs.Inner.Shows as Decided
use Rattle.patterns.specs.Inner.LowestWrong.{MaybeWrong, LowestBreach}
use Rattle.languages.specs.Inner.Tables.{SetsAre}
use Rattle.shows.specs.declared.TemplateTables.{TemplateTables}
use Rattle.shows.specs.declared.Source.{Source}
use Rattle.shows.specs.declared.Source.TheVariants.{Variable, Framed}
use Rattle.shows.specs.declared.WrongShow.{WrongShow}
use Rattle.shows.specs.declared.WrongShow.TheVariants.{NotRoot, Element}

module _ (π : Script) (E : ℕ → Environment) (p : ℕ) where
  -- 11: the lowest root template with a page that is not exactly the root element.
  pub record FoundNotRoot (t : ℕ) : Type 0 where
    pub at : NotRootAt π E p t
    pub lowest : (t' : ℕ) → NotRootAt π E p t' → t ≤ t'

  -- 12, 14 or 15: there is no such root, and this is the lowest element that is wrong in some page, with the breach that is told.
  pub record FoundWrong (t at : ℕ) (b : Breach) : Type 0 where
    pub no_root : (t' : ℕ) → NotRootAt π E p t' → ⊥
    pub told : FirstBreach (WrongIn π E p t at) b
    pub lowest : (t' at' : ℕ) (b' : Breach) → WrongIn π E p t' at' b' → at ≤ at'

  -- What is found at a point.
  abbrev pub ShowWrong : WrongShow → Type 0
  ShowWrong (NotRoot t) = FoundNotRoot t
  ShowWrong (Element w) = FoundWrong w.template w.at w.breach

  abbrev pub ShowFound : Result (Unit {0}) WrongShow → Type 0
  ShowFound (Ok u) = ShowHolds π E p
  ShowFound (Err w) = ShowWrong w

-- What is known at a point of a job: where its entries stand, and the gaps of all templates.
pub record PointKept (s heads gaps : List ℕ) (p : ℕ) (j : Job) : Type 0 where
  pub low : p < 32
  pub entry : EntriesAt s heads j.proposal p
  pub gaps_are : GapsTable gaps j.script.templates
  pub few : length j.script.templates ≤ 31

-- What is known of a point whose statement stands at an offset.
pub record PointStands (s heads gaps : List ℕ) (place p : ℕ) (j : Job) : Type 0 where
  pub kept : PointKept s heads gaps p j
  pub stands : StatementStands s (length j.script.templates) place (statement_at j.script.program p)

abbrev pub shown_at : Job → ℕ → Option Summary
shown_at j p = graph_shown j.script.templates j.script.program (entries j.proposal) p

-- What the page of a show is made from, at a point; its variable and its frame are there.
abbrev pub made_from : Job → ℕ → Source → Summary
made_from j p (Variable x) = (entries j.proposal p).template x
made_from j p (Framed x t g) = plug_summary g (fragment t (template_at j.script.templates t)) ((entries j.proposal p).template x)

abbrev pub SourceFits : Job → Source → Type 0
SourceFits j (Variable x) = x < 4
SourceFits j (Framed x t g) = (x < 4) × (t ≤ length j.script.templates)

-- What the points with the statement at an offset show.
abbrev pub ShowsAt : List ℕ → ℕ → Prelude.Option Source → Type 0
ShowsAt s place None = (heads gaps : List ℕ) (p : ℕ) (j : Job) → PointStands s heads gaps place p j → shown_at j p ≡ none
ShowsAt s place (Some source) = (heads gaps : List ℕ) (p : ℕ) (j : Job) → PointStands s heads gaps place p j → SourceFits j source × (shown_at j p ≡ some (closed_summary (made_from j p source)))

-- A graph that held nothing holds the entry of a variable at a point; what a page is made from; and what its show shows.
abbrev pub HoldsEntry : List ℕ → List ℕ → ℕ → ℕ → List ℕ → List ℕ → Type 0
HoldsEntry s heads p x before after =
    (j : Job) → p < 32 → x < 4 → EntriesAt s heads j.proposal p → Keeps before nothing → Keeps after ((entries j.proposal p).template x)

abbrev pub HoldsSource : List ℕ → List ℕ → List ℕ → ℕ → Source → List ℕ → List ℕ → Type 0
HoldsSource s heads gaps p source before after = (j : Job) → PointKept s heads gaps p j → SourceFits j source → Keeps before nothing → Keeps after (made_from j p source)

abbrev pub HoldsShown : List ℕ → List ℕ → List ℕ → ℕ → Source → List ℕ → List ℕ → Type 0
HoldsShown s heads gaps p source before after =
    (j : Job) → PointKept s heads gaps p j → SourceFits j source → Keeps before nothing → Keeps after (closed_summary (made_from j p source))

-- What is worked out of the templates of a job, once for all its shows: the gaps of each, at any depth, its outline, and the templates
-- in which each element stands.
pub record TablesOf (φs : List Items) (count : ℕ) (t : TemplateTables) : Type 0 where
  pub gaps : GapsTable t.gaps φs
  pub outlines : OutlinesTo φs count t.contents t.outer
  pub occurrences : Occurrences φs t.standing

abbrev pub TabledBy : List ℕ → List ℕ → List ℕ → ℕ → TemplateTables → Type 0
TabledBy s gaps starts count r = (φs : List Items) → GapsTable gaps φs → StartsAt s φs starts → count ≡ length φs → count ≤ 31 → TablesOf φs count r

-- What is known where a show is decided: the job was read from these bytes, its vocabulary and templates stand where the tables say,
-- and the graph keeps what the point shows.
pub record ShowAt (s : List ℕ) (rules : Tables) (templates : TemplateTables) (count : ℕ) (starts graph : List ℕ) (j : Job) (p : ℕ) : Type 0 where
  pub end : ℕ
  pub reads : job s ≡ whole j end
  pub vocabulary : Describes s j.script.vocabulary rules
  pub located : Located (declared j.script.vocabulary.rules) s j.script.templates count starts
  pub stand : StartsAt s j.script.templates starts
  pub few : count ≤ 31
  pub tabled : TablesOf j.script.templates count templates
  pub shown : Summary
  pub shows : shown_at j p ≡ some shown
  pub keeps : Keeps graph shown

abbrev pub DecidesShow : List ℕ → Tables → TemplateTables → ℕ → List ℕ → List ℕ → Result (Unit {0}) WrongShow → Type 0
DecidesShow s rules templates count starts graph r = (j : Job) (p : ℕ) → ShowAt s rules templates count starts graph j p → ShowFound j.script (entries j.proposal) p r

-- The steps on the way. Whether a template is a root, and some page of it is empty or other than the root alone.
abbrev pub is_other : ℕ → List ℕ → ℕ → Bool
is_other roots classes n = member roots n && (holds classes empty || holds classes other)

-- The lowest of the templates up to `count` that is such.
abbrev pub other_root : Prelude.Option ℕ → Option ℕ
other_root None = none
other_root (Some t) = some t

abbrev pub LowestRoot : ℕ → List (List ℕ) → ℕ → Prelude.Option ℕ → Type 0
LowestRoot roots classes count r = Least (λ n. (n ≤ count) × (is_other roots (get_or classes n []) n ≡ true)) (other_root r)

-- The lowest element that is wrong in some page, where the classes of the pages of each template are given.
abbrev pub WrongElements : List ℕ → Tables → TemplateTables → ℕ → List ℕ → List ℕ → List (List ℕ) → MaybeWrong → Type 0
WrongElements s rules templates count starts graph classes r = (j : Job) (p : ℕ) (A : ShowAt s rules templates count starts graph j p)
    (T : Decided.Tables) → ExactTables j.script.templates A.shown j.script.vocabulary T → SetsAre j.script.templates (root_morphism j.script.vocabulary.root) T.classes classes
    → LowestBreach (WrongIn j.script (entries j.proposal) p) r
