-- What is found at the show of a graph, 11 before a wrong element.
use Prim.Native.Nat.{ℕ, ◌≤◌}
use native.Mathlib.Omega.{arith}
use mathlib.Core.Path.{◌≡◌, subst}
use mathlib.Core.List.{List, []}
use Rattle.std.specs.Prelude.{Some, None, Ok, Err}
use Rattle.std.specs.Prelude as Prelude
use lib.ListN.{get_or}
use Rattle.sets.specs.Sets.{member}
use Rattle.vocabularies.specs.declared.Tables.{Tables}
use Rattle.summaries.specs.Proposal.{root}
use Rattle.summaries.specs.Summaries.{entries}
use Rattle.jobs.specs.Job.{Job}
use Rattle.graphs.specs.Inner.Graphs.{holds}
use Rattle.patterns.specs.Inner.LowestWrong.{MaybeWrong}
use Rattle.patterns.specs.declared.Wrong.{Wrong}
use Rattle.patterns.specs.Inner.Morphisms.{empty, other, root_morphism}
use Rattle.patterns.specs.Inner.Shows.{ExactTables, not_root}
use Rattle.patterns.specs.Inner.Shows as Decided
use Rattle.patterns.proofs.ReadVocabularies.{Bytes}
use Rattle.patterns.proofs.Settling.{worked_out}
use Rattle.schemes.specs.declared.Scheme.{Scheme}
use Rattle.schemes.specs.Inner.Schemes.{StandsFor}
use Rattle.languages.specs.Inner.Tables.{SetsAre, of_root, Lent}
use Rattle.languages.specs.Inner.Promises.{Settles}
use Rattle.languages.proofs.Settling.{settled_exact}
use Rattle.shows.specs.declared.TemplateTables.{TemplateTables}
use Rattle.shows.specs.declared.WrongShow.TheVariants.{NotRoot, Element}
use Rattle.shows.specs.Inner.Promises.{ShowFound, ShowAt, is_other, LowestRoot, WrongElements}
use Rattle.shows.proofs.Deciding.{told_of, found_other, no_other, found_wrong}
use Rattle.shows.proofs.Elements.{given, bounded}

module _ (s : List ℕ) (rules : Tables) (templates : TemplateTables) (count : ℕ) (starts graph : List ℕ) (j : Job) (p : ℕ)
    (A : ShowAt s rules templates count starts graph j p) (bytes : Bytes s) where
  -- Exact tables of the graph.
  tables : (T : Decided.Tables) × ExactTables j.script.templates A.shown j.script.vocabulary T
  tables = worked_out j.script.templates A.shown (bounded s rules templates count starts graph j p A bytes)
      (given s rules templates count starts graph j p A bytes).script.templates.is_in_range j.script.vocabulary

  module _ (r : Scheme) (reads : StandsFor r (root_morphism rules.root)) (made : ℕ) (classes : List (List ℕ))
      (settles : Settles r s graph starts count made classes) (roots : ℕ) (roots_are : (n : ℕ) → member roots n ≡ holds graph (root n))
      (other_root_lem : Prelude.Option ℕ) (found : LowestRoot roots classes count other_root_lem) where
    lent : Lent r graph j.script.templates A.shown (root_morphism j.script.vocabulary.root)
    lent = record {
      used = of_root j.script.vocabulary.root;
      reads = subst (λ (e : ℕ). StandsFor r (root_morphism e)) A.vocabulary.names_root reads;
      bounded = bounded s rules templates count starts graph j p A bytes;
      keeps = A.keeps;
    }

    sets : SetsAre j.script.templates (root_morphism j.script.vocabulary.root) tables.0.classes classes
    sets =
        let few = A.few in
        let counts = A.located.counted in
        settled_exact lent made classes
        (settles j.script.templates A.shown (root_morphism j.script.vocabulary.root) (record { lent = lent; few = omega arith; stand = A.stand }) counts)
        tables.0.classes tables.1.classes

    same_root : (n : ℕ) → n ≤ count → is_other roots (get_or classes n []) n ≡ not_root A.shown tables.0.classes n
    same_root n l =
        let counts = A.located.counted in
        let row = sets n (omega arith) in
        rw (roots_are n, A.keeps.same (root n) tt, row.inside empty (omega arith), row.inside other (omega arith))

    pub root_found : (t : ℕ) → other_root_lem ≡ Some t → ShowFound j.script (entries j.proposal) p (Err (NotRoot t))
    root_found =
        found_other j.script (entries j.proposal) (given s rules templates count starts graph j p A bytes) p A.shown A.shows tables.0 tables.1 count A.located.counted
        roots classes other_root_lem found same_root

    module _ (z : other_root_lem ≡ None) (w : MaybeWrong) (wrong : WrongElements s rules templates count starts graph classes w) where
      told : ShowFound j.script (entries j.proposal) p (told_of w)
      told =
          found_wrong j.script (entries j.proposal) (given s rules templates count starts graph j p A bytes) p A.shown A.shows tables.0 tables.1 count A.located.counted
          (no_other j.script (entries j.proposal) (given s rules templates count starts graph j p A bytes) p A.shown A.shows tables.0 tables.1 count A.located.counted
          roots classes other_root_lem found same_root z)
          (wrong j p A tables.0 tables.1 sets)

      pub element_found : (v : Wrong) → w ≡ Some v → ShowFound j.script (entries j.proposal) p (Err (Element v))
      element_found v is = subst (λ (x : MaybeWrong). ShowFound j.script (entries j.proposal) p (told_of x)) is told

      pub nothing_found : w ≡ None → ShowFound j.script (entries j.proposal) p (Ok tt)
      nothing_found is = subst (λ (x : MaybeWrong). ShowFound j.script (entries j.proposal) p (told_of x)) is told
