-- What is read at a point, from the tests that lead to it.
use Prim.Native.Nat.{ℕ, ◌≤◌, ◌<◌}
use mathlib.Core.Path.{◌≡◌, sym, ap, ◌∙◌}
use mathlib.Core.List.{List}
use mathlib.Core.Bool.{Bool, true, false, not}
use borrow.Author.Tests.{eq-eqb, ne_eqb, lt-ltb, le-ltb, not-true, not-false}
use Rattle.verdicts.specs.declared.Form.{Form}
use Rattle.verdicts.specs.declared.Form.TheVariants.{TooMany, Missing}
use Rattle.commands.specs.declared.Context.{Context}
use Rattle.commands.specs.declared.Position.{Position}
use Rattle.commands.specs.declared.Decoded.{Decoded}
use Rattle.commands.specs.declared.Decoded.TheVariants.{Moved, Refused}
use Rattle.commands.specs.Commands.{command}
use Rattle.commands.proofs.Laws.{moved}
use Rattle.programs.specs.declared.Statement.{Statement}
use Rattle.programs.specs.ProgramReading.{statement_read, templates_there, most_points, statement_context}
use Rattle.programs.specs.Inner.Promises.{as_statement, statement_here, tested_here, tested_statement}

module _ (count : ℕ) (s : List ℕ) (before at : ℕ) (x : Context) (d : Decoded) (x-is : x ≡ statement_context before) (d_is : d ≡ command x s at) where
  told : tested_here count s before at d ≡ tested_statement count s before at
  told = rw (d_is, x-is)

  pub here_refused : (form : Form) (n : ℕ) → d ≡ Refused form n → d ≡ tested_statement count s before at
  here_refused form n e = (e ∙ sym (ap (tested_here count s before at) e)) ∙ told

  module _ (code : ℕ) (next : Position) (e : d ≡ Moved code next) where
    goes : tested_here count s before at (Moved code next) ≡ tested_statement count s before at
    goes = sym (ap (tested_here count s before at) e) ∙ told

    pub here_ends : code ≡ 0x3F → Moved code next ≡ tested_statement count s before at
    here_ends h = sym (rw (eq-eqb code 0x3F h)) ∙ goes

    module _ (on : code ≡ 0x3F → ⊥) (t : Statement) (t_is : as_statement t ≡ statement_here s at) (b : Bool) (b_is : b ≡ templates_there count (as_statement t)) where
      told_there : templates_there count (statement_read s at code) ≡ b
      told_there = rw ((moved x s at code next (sym d_is ∙ e)).first, ← t_is) (sym b_is)

      pub here_missing : not b ≡ true → Refused Missing at ≡ tested_statement count s before at
      here_missing h =
          let f : templates_there count (statement_read s at code) ≡ false = told_there ∙ not-true b h in
          sym (rw (ne_eqb code 0x3F on, f)) ∙ goes

      module _ (h : not b ≡ false) where
        there : templates_there count (statement_read s at code) ≡ true
        there = told_there ∙ not-false b h

        pub here_too_many : most_points ≤ before → Refused TooMany at ≡ tested_statement count s before at
        here_too_many l = sym (rw (ne_eqb code 0x3F on, there, le-ltb before most_points l)) ∙ goes

        pub here_moves : before < most_points → Moved code next ≡ tested_statement count s before at
        here_moves l = sym (rw (ne_eqb code 0x3F on, there, lt-ltb before most_points l)) ∙ goes
