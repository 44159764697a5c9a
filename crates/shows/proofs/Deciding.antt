-- What is found in the tables of a show is what the verdict of its job asks there.
use Prim.Native.Nat.{ℕ, suc, ◌≤◌, ◌<◌}
use native.Mathlib.Omega.{arith}
use mathlib.Core.Path.{◌≡◌, refl, sym, ap, subst, ◌∙◌}
use mathlib.Core.List.{List, []}
use mathlib.Core.Bool.{true}
use mathlib.Core.Option.{some, none}
use Rattle.std.specs.Prelude.{Some, None, Result, Ok, Err}
use Rattle.std.specs.Prelude as Prelude
use lib.ListN.{length, get_or}
use Rattle.summaries.specs.Summaries.{Summary, Environment}
use Rattle.summaries.specs.Languages.{graph_shown}
use Rattle.jobs.specs.Job.{Script}
use Rattle.jobs.specs.JobVerdict.{NotRootAt, WrongIn}
use Rattle.patterns.specs.Inner.Shows.{Least, Tables, ExactTables, not_root, lowest_root}
use Rattle.patterns.specs.Inner.LowestWrong.{MaybeWrong, LowestBreach, nowhere_wrong, found_lowest}
use Rattle.patterns.proofs.Lowest.{least_iff, least_of, least_below, none_of, least_unique, least_test, least_over}
use Rattle.patterns.proofs.ReadJobs.{GivenShows}
use Rattle.patterns.proofs.JobShows.{lowest_not_root, holds_unless}
use Rattle.shows.specs.declared.WrongShow.{WrongShow}
use Rattle.shows.specs.declared.WrongShow.TheVariants.{NotRoot, Element}
use Rattle.shows.specs.Inner.Promises.{ShowFound, is_other, other_root, LowestRoot}

-- What a lowest wrong element, or none, tells of the show.
abbrev pub told_of : MaybeWrong → Result (Unit {0}) WrongShow
told_of None = Ok tt
told_of (Some w) = Err (Element w)

module _ (π : Script) (E : ℕ → Environment) (read : GivenShows π E) (p : ℕ) (G : Summary) (shows : graph_shown π.templates π.program E p ≡ some G) (T : Tables)
    (exact : ExactTables π.templates G π.vocabulary T) (count : ℕ) (count_is : count ≡ length π.templates) where
  -- ---- 11

  module _ (roots : ℕ) (classes : List (List ℕ)) (r : Prelude.Option ℕ) (found : LowestRoot roots classes count r)
      (same : (n : ℕ) → n ≤ count → is_other roots (get_or classes n []) n ≡ not_root G T.classes n) where
    abbrev Other : ℕ → Type 0
    Other n = (n ≤ count) × (not_root G T.classes n ≡ true)

    code_least : Least Other (other_root r)
    code_least = least_iff (λ n. (λ (l, e). (l, sym (same n l) ∙ e), λ (l, e). (l, same n l ∙ e))) found

    root_is : other_root r ≡ lowest_root π.templates G π.vocabulary T
    unfolding lowest_root
    root_is = least_unique code_least (least_iff (λ n. (to n, back n))
        (least_over (suc (length π.templates)) (λ i n. (i ≡ n) × (not_root G T.classes i ≡ true)) _ (λ i h. least_test (not_root G T.classes i) i)))
      where
        to : (n : ℕ) → (i : ℕ) × (i < suc (length π.templates)) × ((i ≡ n) × (not_root G T.classes i ≡ true)) → Other n
        to n (i, h, (e, t)) = (omega arith, subst (λ (k : ℕ). not_root G T.classes k ≡ true) e t)

        back : (n : ℕ) → Other n → (i : ℕ) × (i < suc (length π.templates)) × ((i ≡ n) × (not_root G T.classes i ≡ true))
        back n (l, e) = (n, omega arith, (refl, e))

    pub found_other : (t : ℕ) → r ≡ Some t → ShowFound π E p (Err (NotRoot t))
    found_other t e =
        let l = subst (Least (NotRootAt π E p)) (sym root_is ∙ ap other_root e) (lowest_not_root π E read p G shows T exact) in
        record { at = least_of l; lowest = least_below l }

    pub no_other : r ≡ None → lowest_root π.templates G π.vocabulary T ≡ none
    no_other e = sym root_is ∙ ap other_root e

  -- ---- 12, 14 and 15

  module _ (no_root : lowest_root π.templates G π.vocabulary T ≡ none) where
    pub found_wrong : {w : MaybeWrong} → LowestBreach (WrongIn π E p) w → ShowFound π E p (told_of w)
    found_wrong (nowhere_wrong h) = holds_unless π E read p G shows T exact no_root h
    found_wrong (found_lowest f h) =
        let n = subst (Least (NotRootAt π E p)) no_root (lowest_not_root π E read p G shows T exact) in
        record { no_root = none_of n; told = f; lowest = h }
