-- The three tables of a clause's facts, filled together.
use Rattle.std.specs.Prelude.{min}
use Prim.Native.Nat.{ℕ, ◌+◌, ◌<◌, ◌≤◌}
use mathlib.Core.Path.{◌≡◌, refl}
use mathlib.Core.List.{List}
use mathlib.Core.Bool.{true, false}
use lib.ListN.{set, replicate}
use Rattle.vocabularies.specs.declared.Facts.{Facts}
use Rattle.vocabularies.specs.Inner.Promises.{meaning_of, kept_at}
use Rattle.schemes.specs.declared.Scheme.TheVariants as Schemes
use Rattle.schemes.specs.Inner.Schemes.{content_of, no_content, pair_place}
use Rattle.schemes.specs.Inner.Promises.{PlacesPair, KeepsFacts}
use Rattle.schemes.proofs.Placing.{Filling, filling_none, filling_more, filled_all}

module _ (t : Facts) where
  pub record Tabled (i : ℕ) (contents befores afters : List ℕ) : Type 0 where
    pub of_contents : Filling t (λ fs. content_of) no_content i contents
    pub of_befores : Filling t (pair_place true) 8 i befores
    pub of_afters : Filling t (pair_place false) 8 i afters

  pub tabled_none : Tabled 0 (replicate 8 no_content) (replicate 8 8) (replicate 8 8)
  tabled_none = record {
    of_contents = filling_none t (λ fs. content_of) no_content;
    of_befores = filling_none t (pair_place true) 8;
    of_afters = filling_none t (pair_place false) 8;
  }

  module _ (i : ℕ) (contents befores afters : List ℕ) (tabled : Tabled i contents befores afters) where
    pub tabled_more : i < 8 → i < t.count → (content before after : ℕ) → content ≡ content_of (meaning_of (kept_at t i))
        → PlacesPair true t (meaning_of (kept_at t i)) before → PlacesPair false t (meaning_of (kept_at t i)) after
        → Tabled (i + 1) (set contents i content) (set befores i before) (set afters i after)
    tabled_more b here content before after is first second = record {
      of_contents = filling_more t (λ fs. content_of) no_content i contents _ content tabled.of_contents b here refl (λ fs h few. is);
      of_befores = filling_more t (pair_place true) 8 i befores _ before tabled.of_befores b here refl first;
      of_afters = filling_more t (pair_place false) 8 i afters _ after tabled.of_afters b here refl second;
    }

    pub tabled_all : min t.count 8 ≤ i → KeepsFacts t (Schemes.Facts (record { contents = contents; befores = befores; afters = afters }))
    tabled_all end fs h few distinct = record {
      places = record { contents = contents; befores = befores; afters = afters };
      of_clause = refl;
      few = few;
      kept = record {
        few = few;
        distinct = distinct;
        contents = filled_all t (λ fs. content_of) no_content i contents end tabled.of_contents fs h few;
        befores = filled_all t (pair_place true) 8 i befores end tabled.of_befores fs h few;
        afters = filled_all t (pair_place false) 8 i afters end tabled.of_afters fs h few;
      };
    }
