-- Reading a program (document 01, "A job, command by command", Program; document 02, F-3). Next points are tested at `3F`, when their
-- number is known.
use Rattle.std.specs.Prelude.{ℕ, zero, suc, ◌+◌, List, [], ◌∷◌, map, Bool, true, cond, ◌&&◌, length, leb, ltb, eqb}
use Rattle.std.proofs.Math.Option.{Option, some, none}
use Rattle.verdicts.specs.declared.Form.TheVariants.{TooMany, Missing}
use Rattle.commands.specs.declared.Context.{Context}
use Rattle.commands.specs.declared.Context.TheVariants.{FirstStatement, Statements}
use Rattle.commands.specs.Commands.{byte}
use Rattle.commands.specs.Reading.{Read, whole, refused, unfinished, and_then, on_command, when}
use Rattle.programs.specs.Program.{Act, copy_template, set_template, copy_string, set_string, any_string, plug, plug_string, show, show_framed, Statement, step, stop}

-- A statement where it stands.
pub record Placed : Type 0 where
  pub at : ℕ
  pub statement : Statement

-- The statement of a command whose operands are o 1, o 2 and so on.
abbrev pub statement_of : ℕ → (ℕ → ℕ) → Statement
statement_of code o =
    cond (eqb code 0x30) (step (copy_template (o 1) (o 2)) (o 3) (o 4))
    (cond (eqb code 0x31) (step (set_template (o 1) (o 2)) (o 3) (o 4))
    (cond (eqb code 0x32) (step (copy_string (o 1) (o 2)) (o 3) (o 4))
    (cond (eqb code 0x33) (step (set_string (o 1) (o 2)) (o 3) (o 4))
    (cond (eqb code 0x34) (step (any_string (o 1)) (o 2) (o 3))
    (cond (eqb code 0x35) (step (plug (o 1) (o 2) (o 3) (o 4)) (o 5) (o 6))
    (cond (eqb code 0x36) (step (plug_string (o 1) (o 2) (o 3) (o 4)) (o 5) (o 6))
    (cond (eqb code 0x37) (step (show (o 1)) (o 2) (o 3))
    (cond (eqb code 0x39) (step (show_framed (o 1) (o 2) (o 3)) (o 4) (o 5))
    stop))))))))

abbrev pub statement_read : List ℕ → ℕ → ℕ → Statement
statement_read s at code = statement_of code (λ i. byte s (at + i))

-- Whether the templates that a statement names are there; `count` are, besides template 0.
abbrev pub act_templates_there : ℕ → Act → Bool
act_templates_there count (copy_template x x') = true
act_templates_there count (set_template x t) = leb t count
act_templates_there count (copy_string y y') = true
act_templates_there count (set_string y t) = true
act_templates_there count (any_string y) = true
act_templates_there count (plug x x' g x'') = true
act_templates_there count (plug_string x x' h y) = true
act_templates_there count (show x) = true
act_templates_there count (show_framed x t g) = leb t count

abbrev pub templates_there : ℕ → Statement → Bool
templates_there count (step a p q) = act_templates_there count a
templates_there count stop = true

abbrev pub most_points : ℕ
most_points = 32

-- A program has one statement at least.
abbrev pub statement_context : ℕ → Context
statement_context before = cond (eqb before 0) FirstStatement Statements

-- The statements from an offset on, after `before` others, up to `3F`.
unfoldable pub statements : ℕ → ℕ → List ℕ → ℕ → ℕ → Read (List Placed)
statements zero count s before at = unfinished
statements (suc f) count s before at = on_command (statement_context before) s at λ code next. when (eqb code 0x3F)
    (λ _. whole [] next)
    (λ _. when (templates_there count (statement_read s at code))
    (λ _. when (ltb before most_points)
    (λ _. and_then (statements f count s (before + 1) next) λ ts end.
    whole (record { at = at; statement = statement_read s at code } ∷ ts) end)
    (λ _. refused TooMany at))
    (λ _. refused Missing at))

abbrev pub points_there : ℕ → Statement → Bool
points_there points (step a p q) = ltb p points && ltb q points
points_there points stop = true

-- The earliest statement with a next point that is not there.
unfoldable pub strayed : ℕ → List Placed → Option ℕ
strayed points [] = none
strayed points (t ∷ ts) = cond (points_there points t.statement) (strayed points ts) (some t.at)

abbrev pub unless_strayed : Option ℕ → Read (List Statement) → Read (List Statement)
unless_strayed none r = r
unless_strayed (some at) r = refused Missing at

-- The program from an offset on, of a job with `count` templates.
unfoldable pub program : ℕ → ℕ → List ℕ → ℕ → Read (List Statement)
unfolding statements strayed
program f count s at = and_then (statements f count s 0 at) λ ts end.
    unless_strayed (strayed (length ts) ts) (whole (map (λ t. t.statement) ts) end)
