-- The table of elements and the outlines, template by template.
use Prim.Native.Nat.{ℕ, zero, suc, ◌+◌, ◌≤◌, ◌<◌}
use mathlib.Core.Path.{◌≡◌, sym}
use mathlib.Core.List.{List}
use mathlib.Core.Bool.{and-false}
use mathlib.Core.Logic.{◌⊎◌, ⊎_elim}
use native.Mathlib.Decide.{ℕ_discrete}
use native.Mathlib.Omega.{arith}
use lib.ListN.{length, get_or, set, replicate}
use lib.Dec.{ltb}
use Rattle.sets.specs.Sets.{member}
use Rattle.sets.proofs.Laws.{member_zero}
use Rattle.vocabularies.specs.Vocabulary.{is_in}
use Rattle.pages.specs.Items.{Items}
use Rattle.pages.specs.RightPages.{word}
use Rattle.programs.specs.Program.{template_at}
use Rattle.pages.specs.Inner.Gaps.{has_gap, StartsAt}
use Rattle.reach.specs.Inner.Outlines.{gap_among}
use Rattle.reach.proofs.Filling.{Filled, filled_zeros, filled_more}
use Rattle.reach.proofs.Templates.{template_none}
use Rattle.occurrences.specs.declared.Outer.{Outer}
use Rattle.occurrences.specs.Inner.Occurrences.{AllElements, AllTold, Keeps}
use Rattle.occurrences.specs.Inner.Promises.{TellsItems, TellsTemplates}
use Rattle.occurrences.proofs.Elements.{still_told}

module _ (φs : List Items) where
  abbrev ContentsAt : ℕ → ℕ → Type 0
  ContentsAt t w = (c : ℕ) → member w c ≡ is_in c (word (template_at φs t))

  abbrev GapsAt : ℕ → ℕ → Type 0
  GapsAt t w = (g : ℕ) → gap_among (template_at φs t) g ≡ has_gap w g

  contents_none : (t : ℕ) → t < 1 → ContentsAt t 0
  unfolding word is_in
  contents_none zero h c = rw (template_none φs) (member_zero c)
  contents_none (suc t) h c = absurd (omega arith)

  gaps_none : (t : ℕ) → t < 1 → GapsAt t 0
  unfolding gap_among
  gaps_none zero h g = rw (template_none φs, member_zero g) (sym (and-false (ltb g 8)))
  gaps_none (suc t) h g = absurd (omega arith)

-- What is told of the templates below a number.
pub record Telling (φs : List Items) (t : ℕ) (contents gaps table : List ℕ) : Type 0 where
  pub contents_are : Filled (ContentsAt φs) 32 t contents
  pub gaps_are : Filled (GapsAt φs) 32 t gaps
  pub told : (n : ℕ) → n < t → n ≤ length φs → AllTold table n (template_at φs n)

pub record TellingTo (s starts : List ℕ) (count t : ℕ) (contents gaps table : List ℕ) : Type 0 where
  pub begun : 1 ≤ t
  pub wide : length table ≡ 64
  pub telling : (φs : List Items) → StartsAt s φs starts → count ≡ length φs → Telling φs t contents gaps table

module _ (s starts : List ℕ) (count : ℕ) where
  pub telling_none : (table : List ℕ) → length table ≡ 64 → TellingTo s starts count 1 (replicate 32 0) (replicate 32 0) table
  unfolding AllElements
  telling_none table wide = record {
    begun = omega arith;
    wide = wide;
    telling = λ φs S c. record {
      contents_are = filled_zeros (ContentsAt φs) 32 1 (contents_none φs);
      gaps_are = filled_zeros (GapsAt φs) 32 1 (gaps_none φs);
      told = λ n l h. let z : n ≡ 0 = omega arith in rw (z, template_none φs) tt;
    };
  }

  module _ (t : ℕ) (contents gaps table : List ℕ) (T : TellingTo s starts count t contents gaps table) where
    pub telling_more : t < 32 → t ≤ count → (r : Outer) (larger : List ℕ) → length larger ≡ 64 → Keeps table larger → TellsItems s (get_or starts t 0) t r larger
        → TellingTo s starts count (t + 1) (set contents t r.contents) (set gaps t r.gaps) larger
    telling_more low there r larger wide keeps tells = record {
      begun = omega arith;
      wide = wide;
      telling = λ φs S c.
          let stand = S t T.begun (omega arith) in
          let here = tells stand.ruled stand.fuel 0 stand.end (template_at φs t) stand.reads in
          let before = T.telling φs S c in
          record {
            contents_are = filled_more (ContentsAt φs) 32 t contents before.contents_are r.contents low here.outline.contents;
            gaps_are = filled_more (GapsAt φs) 32 t gaps before.gaps_are r.gaps low here.outline.gaps;
            told = λ n l h. go φs n here.tells l (λ q. before.told n q h) (ℕ_discrete n t);
          };
    }
      where
        go : (φs : List Items) (n : ℕ) → AllTold larger t (template_at φs t) → n < t + 1 → (n < t → AllTold table n (template_at φs n)) → Dec (n ≡ t)
            → AllTold larger n (template_at φs n)
        go φs n here l before (yes q) = rw q here
        go φs n here l before (no q) = still_told table larger keeps n (template_at φs n) (before (omega arith))

    pub telling_all : (count < t) ⊎ (32 ≤ t) → TellsTemplates s starts count (record { contents = contents; gaps = gaps }) table
    telling_all end φs S c few =
        let all = T.telling φs S c in
        record {
          outlines = λ i l low. record { contents = all.contents_are.below i (past end i l); gaps = all.gaps_are.below i (past end i l) };
          occurrences = λ n h. all.told n (past end n (omega arith)) h;
        }
      where
        past : (count < t) ⊎ (32 ≤ t) → (i : ℕ) → i ≤ count → i < t
        past end i l = ⊎_elim (λ e. omega arith) (λ e. omega arith) end
