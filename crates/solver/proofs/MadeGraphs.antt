-- What is made of a variable, by the way in which it is made.
use Prim.Native.Nat.{ℕ, ◌%◌, ◌<◌}
use mathlib.Core.Path.{◌≡◌}
use mathlib.Core.List.{List}
use mathlib.Core.Bool.{true}
use native.Mathlib.Omega.{arith}
use lib.ListN.{length, get_or}
use lib.Dec.{eqb}
use Rattle.strings.specs.Strings.{strings}
use Rattle.strings.specs.declared.Values.{Values}
use Rattle.strings.specs.Inner.Promises.{holds_value}
use Rattle.pages.specs.Items.{Items}
use Rattle.pages.specs.Inner.Gaps.{GapsAre, GapsTable}
use Rattle.programs.specs.Program.{template_at}
use Rattle.summaries.specs.Summaries.{fragment, plug_summary, plug_string_summary}
use Rattle.transfers.specs.declared.Made.{Made}
use Rattle.transfers.specs.declared.Made.TheVariants.{Value, Template, Plugged, Filled}
use Rattle.transfers.specs.declared.MadeString.{MadeString}
use Rattle.transfers.specs.declared.MadeString.TheVariants as MadeStrings
use Rattle.transfers.specs.Inner.Ways.{summary_made, strings_made, MadeFits, StringMadeFits, MadeThere}
use Rattle.graphs.specs.Inner.Graphs.{Keeps}
use Rattle.states.specs.Inner.States.{entries_in}
use Rattle.states.specs.Inner.Promises.{GraphTaken, ValuesTaken}

module _ (work gaps : List ℕ) (p : ℕ) (way : Made) (r : List ℕ) where
  abbrev Makes : Type 0
  Makes = (φs : List Items) (points : ℕ) → p < points → GapsTable gaps φs → MadeFits way → MadeThere (length φs) way → Keeps r (summary_made φs (entries_in points work p) way)

  pub value_made : (x : ℕ) → way ≡ Value x → GraphTaken work p (x % 4) r → Makes
  value_made x e T φs points l G f t =
      let low : x < 4 = rw e at f in
      let q : x % 4 ≡ x = omega arith in
      rw e (rw q at (T.keeps points l))

  pub template_made : (t : ℕ) → way ≡ Template t → ((φ : Items) → GapsAre (get_or gaps (t % 32) 0) φ → t < 32 → Keeps r (fragment t φ)) → Makes
  template_made t e K φs points l G f there =
      let low : t < 32 = rw e at f in
      let q : t % 32 ≡ t = omega arith in
      rw e (K (template_at φs t) (rw q (G t (rw e at there))) low)

  pub plugged_made : (x g y : ℕ) → way ≡ Plugged x g y
      → ((points : ℕ) → p < points → Keeps r (plug_summary g ((entries_in points work p).template (x % 4)) ((entries_in points work p).template (y % 4)))) → Makes
  plugged_made x g y e K φs points l G f there =
      let low : (x < 4) × (g < 8) × (y < 4) = rw e at f in
      let a : x < 4 = low.0 in
      let b : y < 4 = low.2 in
      let q : x % 4 ≡ x = omega arith in
      let q' : y % 4 ≡ y = omega arith in
      rw e (rw (q, q') at (K points l))

  pub filled_made : (x h y : ℕ) → way ≡ Filled x h y
      → ((points : ℕ) → p < points → Keeps r (plug_string_summary h ((entries_in points work p).template (x % 4)) ((entries_in points work p).string (y % 4)))) → Makes
  filled_made x h y e K φs points l G f there =
      let low : (x < 4) × (h < 8) × (y < 4) = rw e at f in
      let a : x < 4 = low.0 in
      let b : y < 4 = low.2 in
      let q : x % 4 ≡ x = omega arith in
      let q' : y % 4 ≡ y = omega arith in
      rw e (rw (q, q') at (K points l))

module _ (work : List ℕ) (p : ℕ) (way : MadeString) (r : Values) where
  abbrev MakesStrings : Type 0
  MakesStrings = (points : ℕ) → p < points → StringMadeFits way → (t : ℕ) → holds_value r t ≡ strings_made (entries_in points work p) way t

  pub string_value_made : (y : ℕ) → way ≡ MadeStrings.Value y → ValuesTaken work p (y % 4) r → MakesStrings
  string_value_made y e T points l f t =
      let low : y < 4 = rw e at f in
      let q : y % 4 ≡ y = omega arith in
      rw e (rw q at (T.keeps points l t))

  pub one_made : (s : ℕ) → way ≡ MadeStrings.One s → ((t : ℕ) → holds_value r t ≡ eqb t (s % 64)) → MakesStrings
  one_made s e K points l f t =
      let low : s < strings = rw e at f in
      let q : s % 64 ≡ s = omega arith in
      rw e (rw q at (K t))

  pub any_made : way ≡ MadeStrings.Any → ((t : ℕ) → holds_value r t ≡ true) → MakesStrings
  any_made e K points l f t = rw e (K t)
