-- The lowest wrong element, from what is worked out of a graph whose exact tables are given.
use Prim.Native.Nat.{ℕ, ◌≤◌}
use mathlib.Core.Path.{◌≡◌, sym, ◌∙◌}
use mathlib.Core.List.{List}
use lib.ListN.{length}
use Rattle.sets.specs.Sets.{member}
use Rattle.vocabularies.specs.declared.Tables.{Tables}
use Rattle.summaries.specs.Summaries.{entries}
use Rattle.jobs.specs.Job.{Job}
use Rattle.jobs.specs.JobVerdict.{WrongIn}
use Rattle.judging.specs.Inner.Judgement.{or_first}
use Rattle.patterns.specs.Inner.Morphisms.{root_morphism}
use Rattle.patterns.specs.Inner.Given.{Bounded}
use Rattle.patterns.specs.Inner.Exactness.{YieldsExact}
use Rattle.patterns.specs.Inner.Shows.{ExactTables, tested}
use Rattle.patterns.specs.Inner.Shows as Decided
use Rattle.patterns.specs.Inner.LowestWrong.{MaybeWrong, lower_wrong, Test, LowestWrong, LowestBreach, Passing}
use Rattle.patterns.proofs.LowestOf.{lowest_iff, lowest_either, lowest_same}
use Rattle.patterns.proofs.ReadVocabularies.{Bytes}
use Rattle.patterns.proofs.ReadJobs.{GivenShows, job_given}
use Rattle.patterns.proofs.JobShows.{Found, lowest_told}
use Rattle.languages.specs.Inner.Tables.{SetsAre}
use Rattle.reach.specs.Inner.PlainlyWrong.{plainly_wrong, wrong_by_clause}
use Rattle.reach.specs.Inner.Promises.{GraphKept, TellsYielding, TellsReached, TellsContents}
use Rattle.reach.specs.Inner.Walking.{RulesKept, ContentsKept, TellsPlainlyWrong}
use Rattle.reach.proofs.Splitting.{breach_split}
use Rattle.elements.specs.Inner.Rules.{RulesStand, SearchesRules}
use Rattle.shows.specs.declared.TemplateTables.{TemplateTables}
use Rattle.shows.specs.Inner.Promises.{ShowAt}

module _ (s : List ℕ) (vocabulary : Tables) (templates : TemplateTables) (count : ℕ) (starts graph : List ℕ) (j : Job) (p : ℕ)
    (A : ShowAt s vocabulary templates count starts graph j p) (bytes : Bytes s) where
  pub given : GivenShows j.script (entries j.proposal)
  given = job_given s bytes j A.end A.reads

  pub bounded : Bounded j.script.templates A.shown
  bounded = given.graphs p A.shown A.shows

  graph_kept : GraphKept j.script.templates A.shown graph count
  graph_kept = record { keeps = A.keeps; bounded = bounded; counts = A.located.counted; few = A.few }

  rules_kept : RulesKept j.script.vocabulary vocabulary.rules
  rules_kept = record { allows = λ e r q. (A.vocabulary.rule e r q).allows; holds = λ e r q. (A.vocabulary.rule e r q).holds }

  rules_stand : RulesStand s j.script.vocabulary vocabulary.declared vocabulary.rules
  rules_stand = record { declares = A.vocabulary.declares; stands = λ e r q. (A.vocabulary.rule e r q).stands }

  module _ (T : Decided.Tables) (exact : ExactTables j.script.templates A.shown j.script.vocabulary T) (classes : List (List ℕ))
      (sets : SetsAre j.script.templates (root_morphism j.script.vocabulary.root) T.classes classes)
      (yields : ℕ) (tells_yields : TellsYielding classes count yields)
      (reached : ℕ) (tells_reached : TellsReached graph templates.gaps count yields reached)
      (within : List ℕ) (tells_contents : TellsContents graph templates.contents templates.outer count yields within)
      (plain : MaybeWrong) (tells_plain : TellsPlainlyWrong s vocabulary.rules starts count graph within reached plain)
      (by_clause : MaybeWrong) (searches : SearchesRules s vocabulary.declared vocabulary.rules templates.standing graph starts count reached by_clause) where
    yielding : YieldsExact j.script.templates A.shown (member yields)
    yielding = tells_yields j.script.templates A.shown j.script.vocabulary.root T.classes A.located.counted A.few sets exact.classes

    is_reached : (n : ℕ) → n ≤ length j.script.templates → member reached n ≡ T.reached n
    is_reached = tells_reached j.script.templates A.shown graph_kept A.tabled.gaps yielding T.reached exact.reached

    contents_kept : ContentsKept j.script.templates T.contents within
    contents_kept n c l h = tells_contents j.script.templates A.shown graph_kept A.tabled.outlines yielding T.contents exact.contents n c l

    -- By attributes or contents, or else by a clause.
    test : ℕ → Test
    test n = tested j.script.templates A.shown j.script.vocabulary T n

    passing : LowestWrong (Passing j.script.templates reached test) (lower_wrong plain by_clause)
    unfolding test
    passing = lowest_same j.script.templates reached
        (λ n e mark δ φ. or_first (plainly_wrong j.script.templates A.shown T.contents j.script.vocabulary n e δ φ) (wrong_by_clause j.script.templates A.shown T.clauses j.script.vocabulary n e δ φ)) test
        (λ n e mark δ φ. sym (breach_split j.script.templates A.shown T.clauses T.contents j.script.vocabulary n e δ φ)) (lower_wrong plain by_clause)
        (lowest_either j.script.templates reached (λ n e mark δ φ. plainly_wrong j.script.templates A.shown T.contents j.script.vocabulary n e δ φ)
        (λ n e mark δ φ. wrong_by_clause j.script.templates A.shown T.clauses j.script.vocabulary n e δ φ) plain by_clause
        (tells_plain j.script.templates A.shown T.contents j.script.vocabulary graph_kept rules_kept A.located contents_kept)
        (searches j.script.templates A.shown j.script.vocabulary T.clauses (record { graph = graph_kept; stand = A.stand }) rules_stand A.tabled.occurrences exact.clauses))

    found : LowestWrong (Found j.script (entries j.proposal) given p A.shown A.shows T exact) (lower_wrong plain by_clause)
    unfolding test
    found = lowest_iff (λ n at b. (
      λ (l, r, s). record { there = l; is_reached = sym (is_reached n l) ∙ r; element = s },
      λ f. (f.there, is_reached n f.there ∙ f.is_reached, f.element),
    )) passing

    pub elements_are : (w : MaybeWrong) → w ≡ lower_wrong plain by_clause → LowestBreach (WrongIn j.script (entries j.proposal) p) w
    elements_are w is = rw is (lowest_told j.script (entries j.proposal) given p A.shown A.shows T exact found)
