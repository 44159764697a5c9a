use native.Mathlib.Omega.{arith}
use Rattle.std.proofs.Common.{rules}
use Prim.Native.Nat.{◌≤◌}
use Rattle.vocabularies.specs.VocabularyReading.{formula_nesting}
use Rattle.vocabularies.proofs.Parts.{command_falls}
use Rattle.vocabularies.proofs.Formulas.{formula_refused, formula_deep_two, formula_deep_one, formula_first, formula_two, formula_one, formula_low, formula_high, formula_falls}
use Rattle.vocabularies.proofs.+read_formula.Goals as goal

pub returns-in_default : goal.returns-in_default
returns-in_default t c = search formula_refused

pub returns-then-depth-ge-FORMULA_NESTING : goal.returns-then-depth-ge-FORMULA_NESTING
returns-then-depth-ge-FORMULA_NESTING t c =
    let deep : formula_nesting ≤ c.args.depth = omega arith in
    search formula_deep_one

pub read_formula-requires : goal.read_formula-requires
read_formula-requires t c = (search command_falls, tt)

pub returns-then-depth-ge-FORMULA_NESTING-2 : goal.returns-then-depth-ge-FORMULA_NESTING-2
returns-then-depth-ge-FORMULA_NESTING-2 t c =
    let deep : formula_nesting ≤ c.args.depth = omega arith in
    search formula_deep_two

pub read_formula-requires-in-16 : goal.read_formula-requires-in-16
read_formula-requires-in-16 t c = (search command_falls, tt)

pub returns-in_err-middle-in-16 : goal.returns-in_err-middle-in-16
returns-in_err-middle-in-16 t c = search (rules, formula_first, c.in_err-middle-in-16.ensures)

pub read_formula-requires-in-16-2 : goal.read_formula-requires-in-16-2
read_formula-requires-in-16-2 t c = (search (formula_falls, c.in_ok-middle-in-16.ensures), tt)

pub returns-else-depth-ge-FORMULA_NESTING : goal.returns-else-depth-ge-FORMULA_NESTING
returns-else-depth-ge-FORMULA_NESTING t c = search formula_one

pub returns-in_ok-middle-in-16 : goal.returns-in_ok-middle-in-16
returns-in_ok-middle-in-16 t c = search (formula_two, c.in_ok-middle-in-16.ensures)

pub returns-in_default-code : goal.returns-in_default-code
returns-in_default-code t c = search formula_low

pub returns-in_default-code-2 : goal.returns-in_default-code-2
returns-in_default-code-2 t c = search formula_high
