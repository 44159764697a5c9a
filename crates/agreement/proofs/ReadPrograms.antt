-- The statements of a program that was read name templates that are there, and next points that are there.
use Prim.Native.Nat.{ℕ, zero, suc, ◌+◌}
use mathlib.Core.Path.{◌≡◌, refl, ap, ◌∙◌}
use mathlib.Core.List.{List, [], ◌∷◌, map}
use mathlib.Core.Bool.{true}
use mathlib.Core.Option.{Option, some, none}
use lib.ListN.{length, length-map}
use lib.Dec.{eqb, ltb}
use Rattle.commands.specs.Reading.{whole}
use Rattle.programs.specs.Program.{Statement, statement_at}
use Rattle.programs.specs.ProgramReading.{Placed, statement_read, templates_there, points_there, most_points, statement_context, statements, strayed, unless_strayed, program}
use Rattle.programs.specs.Unframed.{PointsThere}
use Rattle.programs.proofs.AtPoints.{points_there_lem}
use Rattle.agreement.proofs.Readings.{Gives, gives, refuses, runs_out, gives_when, gives_then, gives_command}

abbrev pub TemplatesThere : ℕ → List Statement → Type 0
TemplatesThere count ts = (p : ℕ) → templates_there count (statement_at ts p) ≡ true

pub record AllThere (count : ℕ) (ts : List Statement) : Type 0 where
  pub templates : TemplatesThere count ts
  pub points : PointsThere ts

abbrev bare : List Placed → List Statement
bare ts = map (λ t. t.statement) ts

none_there : (count : ℕ) → TemplatesThere count []
unfolding statement_at
none_there count p = refl

more_there : (count : ℕ) (t : Statement) (ts : List Statement) → templates_there count t ≡ true → TemplatesThere count ts → TemplatesThere count (t ∷ ts)
unfolding statement_at
more_there count t ts e n zero = e
more_there count t ts e n (suc p) = n p

module _ (count : ℕ) (s : List ℕ) where
  statements_there : (f before at : ℕ) → Gives (Unit {0}) (λ ts end. TemplatesThere count (bare ts)) (statements f count s before at)
  unfolding statements
  statements_there zero before at = runs_out tt
  statements_there (suc f) before at = gives_command (statement_context before) s at λ code next _. gives_when (eqb code 0x3F)
      (λ _ _. gives (none_there count))
      (λ _ _. gives_when (templates_there count (statement_read s at code))
      (λ _ e. gives_when (ltb before most_points)
      (λ _ _. gives_then (statements_there f (before + 1) next) λ ts end n. gives (more_there count (statement_read s at code) (bare ts) e n))
      (λ _ _. refuses))
      (λ _ _. refuses))

  pub program_there : (f at : ℕ) → Gives (Unit {0}) (λ ts end. AllThere count ts) (program f count s at)
  unfolding program
  program_there f at = gives_then (statements_there f 0 at) λ ts end n. unless (strayed (length ts) ts) ts refl end n
    where
      unless : (o : Option ℕ) (ts : List Placed) → strayed (length ts) ts ≡ o → (end : ℕ) → TemplatesThere count (bare ts)
          → Gives (Unit {0}) (λ us end'. AllThere count us) (unless_strayed o (whole (bare ts) end))
      unless none ts e end n = gives (record {
        templates = n;
        points = λ p. ap (λ (l : ℕ). points_there l (statement_at (bare ts) p)) (length-map ts (λ t. t.statement)) ∙ points_there_lem (length ts) ts e p;
      })
      unless (some at') ts e end n = refuses
