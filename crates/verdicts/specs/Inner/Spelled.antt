-- A verdict as a line spells it: its four numbers, with single spaces between them.
use Rattle.std.specs.Prelude.{ℕ, List, ◌∷◌, ◌++◌, decimal}
use Rattle.verdicts.specs.declared.Numbers.{Numbers}

abbrev pub spelled : Numbers → List ℕ
spelled v = decimal v.n ++ 32 ∷ decimal v.a ++ 32 ∷ decimal v.b ++ 32 ∷ decimal v.c
