-- The statement that stands at an offset, taken apart.
use Prim.Native.Nat.{ℕ, ◌+◌, ◌<◌}
use mathlib.Core.Path.{◌≡◌, refl, sym, ap, ◌∙◌}
use mathlib.Core.List.{List}
use mathlib.Core.Bool.{true}
use mathlib.Core.Option.{some}
use Rattle.commands.specs.Commands.{gap, string, variable, byte, operands_of, all_in_range}
use Rattle.programs.specs.declared.Statement.{Statement}
use Rattle.programs.specs.ProgramReading.{statement_of}
use Rattle.programs.specs.Inner.Promises.{as_statement, statement_here, StatementFits}
use Rattle.programs.proofs.Ranges.{nth, variable_low, gap_low_lem, string_low}
use Rattle.programs.proofs.Statements.{read_cases}

-- Each command by its first byte, with the operands that were read.
module _ (s : List ℕ) (at code k : ℕ) (code_is : code ≡ byte s at) (key : code ≡ k) where
  abbrev o : ℕ → ℕ
  o i = byte s (at + i)

  pub decodes : (t : Statement) → as_statement t ≡ statement_of k o → as_statement t ≡ statement_here s at
  decodes t e = e ∙ ap (λ (n : ℕ). statement_of n o) (sym key ∙ code_is)

-- Its operands are in range where those of its command are.
module _ (s : List ℕ) (at : ℕ) (ranges : all_in_range (operands_of (byte s at)) s (at + 1) ≡ true) where
  module _ (k j : ℕ) (key : byte s at ≡ k) where
    low : nth (operands_of k) j ≡ some variable → byte s (at + (j + 1)) < 4
    low e = variable_low s at (byte s at) k j (j + 1) _ ranges key refl refl e

    low_gap : nth (operands_of k) j ≡ some gap → byte s (at + (j + 1)) < 8
    low_gap e = gap_low_lem s at (byte s at) k j (j + 1) _ ranges key refl refl e

    low_string : nth (operands_of k) j ≡ some string → byte s (at + (j + 1)) < 64
    low_string e = string_low s at (byte s at) k j (j + 1) _ ranges key refl refl e

  pub statement_fits : StatementFits (statement_here s at)
  unfolding operands_of nth
  statement_fits = read_cases StatementFits (byte s at) (λ i. byte s (at + i))
      (λ e. (low 0x30 0 e refl, low 0x30 1 e refl))
      (λ e. low 0x31 0 e refl)
      (λ e. (low 0x32 0 e refl, low 0x32 1 e refl))
      (λ e. (low 0x33 0 e refl, low_string 0x33 1 e refl))
      (λ e. low 0x34 0 e refl)
      (λ e. (low 0x35 0 e refl, low 0x35 1 e refl, low_gap 0x35 2 e refl, low 0x35 3 e refl))
      (λ e. (low 0x36 0 e refl, low 0x36 1 e refl, low_gap 0x36 2 e refl, low 0x36 3 e refl))
      (λ e. low 0x37 0 e refl)
      (λ e. (low 0x39 0 e refl, low_gap 0x39 2 e refl))
      tt
