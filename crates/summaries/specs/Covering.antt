-- Covering (document 01, "Covering, and the language of a show"), at one variable: the entry at point 0 covers the start, that of a next
-- point covers the step to it, if some statement names the variable. The entries of all points are given; a proposal is one way to give
-- them (`entries`); those of the smallest proposal (document 02, F-1) are another.
use Rattle.std.specs.Prelude.{ℕ, ◌≡◌, List, true, eqb}
use Rattle.commands.specs.Commands.{empty_string}
use Rattle.pages.specs.Items.{Items}
use Rattle.programs.specs.Program.{Act, Statement, Variable, template_variable, string_variable, named}
use Rattle.summaries.specs.Summaries.{Environment, Within, fragment, transfer}

-- One variable's entry lies within another environment's.
abbrev pub WithinAt : Variable → Environment → Environment → Type 0
WithinAt (template_variable x) E F = Within (E.template x) (F.template x)
WithinAt (string_variable y) E F = Within (E.string y) (F.string y)

-- At the start each template variable is the empty template 0, each string variable string 0.
abbrev pub start_environment : Environment
start_environment = record { template = λ x. fragment 0 Items.none; string = λ y s. eqb s empty_string }

module _ (φs : List Items) (program : List Statement) (E : ℕ → Environment) where
  abbrev pub StartCovered : Variable → Type 0
  StartCovered v = named program v ≡ true → WithinAt v start_environment (E 0)

  -- The step from a point over an act to a next point.
  abbrev pub StepCovered : ℕ → Act → ℕ → Variable → Type 0
  StepCovered p a next v = named program v ≡ true → WithinAt v (transfer φs a (E p)) (E next)
