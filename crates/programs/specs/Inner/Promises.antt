-- What the code that reads programs promises, in terms of the definitions that read them.
use Rattle.std.specs.Prelude.{ℕ, ◌+◌, ◌≤◌, ◌<◌, ◌≡◌, List, map, Bool, true, false, cond, ◌||◌, length, get_or, eqb, ltb, Result}
use Rattle.std.proofs.Math.Seq.{slice}
use Rattle.verdicts.specs.declared.Form.TheVariants.{TooMany, Missing}
use Rattle.sets.specs.Sets.{member}
use Rattle.commands.specs.declared.Position.{Position}
use Rattle.commands.specs.declared.ReadError.{ReadError}
use Rattle.commands.specs.declared.Decoded.{Decoded}
use Rattle.commands.specs.declared.Decoded.TheVariants.{Moved, Refused}
use Rattle.commands.specs.Commands as Commands
use Rattle.commands.specs.Commands.{byte, operands_of, operand_bytes, all_in_range, command}
use Rattle.commands.specs.Inner.Parts.{AgreesWith, Enough}
use Rattle.programs.specs.declared.Points.{Points}
use Rattle.programs.specs.declared.Act as Acts
use Rattle.programs.specs.declared.Act.TheVariants.{CopyTemplate, SetTemplate, CopyString, SetString, AnyString, Plug, PlugString, Show, ShowFramed}
use Rattle.programs.specs.declared.Statement as Statements
use Rattle.programs.specs.declared.Statement.TheVariants.{Step, Stop}
use Rattle.programs.specs.Program.{Act, copy_template, set_template, copy_string, set_string, any_string, plug, plug_string, show, show_framed, Statement, step, stop, Variable, template_variable, string_variable, statement_at, named}
use Rattle.programs.specs.ProgramReading.{Placed, statement_read, templates_there, most_points, statement_context, points_there, statements, program}

-- A statement as the code takes it apart.
abbrev pub as_act : Acts.Act → Act
as_act (CopyTemplate x x') = copy_template x x'
as_act (SetTemplate x t) = set_template x t
as_act (CopyString y y') = copy_string y y'
as_act (SetString y s) = set_string y s
as_act (AnyString y) = any_string y
as_act (Plug x x' g x'') = plug x x' g x''
as_act (PlugString x x' h y) = plug_string x x' h y
as_act (Show x) = show x
as_act (ShowFramed x t g) = show_framed x t g

abbrev pub as_statement : Statements.Statement → Statement
as_statement (Step a p q) = step (as_act a) p q
as_statement Stop = stop

-- The statement that stands at an offset.
abbrev pub statement_here : List ℕ → ℕ → Statement
statement_here s at = statement_read s at (byte s at)

-- The ranges of its operands: variables below 4, gaps below 8, strings among the named ones.
abbrev pub ActFits : Act → Type 0
ActFits (copy_template x x') = (x < 4) × (x' < 4)
ActFits (set_template x t) = x < 4
ActFits (copy_string y y') = (y < 4) × (y' < 4)
ActFits (set_string y s) = (y < 4) × (s < Commands.strings)
ActFits (any_string y) = y < 4
ActFits (plug x x' g x'') = (x < 4) × (x' < 4) × (g < 8) × (x'' < 4)
ActFits (plug_string x x' h y) = (x < 4) × (x' < 4) × (h < 8) × (y < 4)
ActFits (show x) = x < 4
ActFits (show_framed x t g) = (x < 4) × (g < 8)

abbrev pub StatementFits : Statement → Type 0
StatementFits (step a p q) = ActFits a
StatementFits stop = Unit {0}

-- A variable's number in a set, and which variables there are.
abbrev pub number_of : Variable → ℕ
number_of (template_variable x) = x
number_of (string_variable y) = 4 + y

abbrev pub IsVariable : Variable → Type 0
IsVariable (template_variable x) = x < 4
IsVariable (string_variable y) = y < 4

-- The set has just the variables that are named.
pub record Names (names : Variable → Bool) (set : ℕ) : Type 0 where
  pub holds : (v : Variable) → IsVariable v → member set (number_of v) ≡ names v

-- What is known of the bytes where a statement stands, of a job with `count` templates.
pub record Stands (s : List ℕ) (count at : ℕ) : Type 0 where
  pub inside : at + operand_bytes (byte s at) < length s
  pub ranges : all_in_range (operands_of (byte s at)) s (at + 1) ≡ true
  pub template_there : templates_there count (statement_read s at (byte s at)) ≡ true

-- What is kept of a program: where the statement of each point stands, and which variables some statement names.
pub record Tabled (s : List ℕ) (count : ℕ) (r : Points) (ts : List Statement) : Type 0 where
  pub points : r.count ≡ length ts
  pub most : r.count ≤ most_points
  pub statement : (i : ℕ) → i < r.count → statement_read s (get_or r.places i 0) (byte s (get_or r.places i 0)) ≡ statement_at ts i
  pub stands : (i : ℕ) → i < r.count → Stands s count (get_or r.places i 0)
  pub points_there_lem : (i : ℕ) → i < r.count → points_there r.count (statement_at ts i) ≡ true
  pub names : Names (named ts) r.named

-- At every fuel that is enough.
abbrev pub ProgramReads : List ℕ → ℕ → ℕ → Result (Points × Position) ReadError → Type 0
ProgramReads s count at r = (f : ℕ) → Enough s at f → AgreesWith (λ ts points. Tabled s count points ts) (program f count s at) r

-- The steps on the way. The command of a statement with what is tested on it alone, in document 01's order: 8 before 6.
abbrev pub tested_here : ℕ → List ℕ → ℕ → ℕ → Decoded → Decoded
tested_here count s before at (Moved code next) =
    cond (eqb code 0x3F)
    (Moved code next)
    (cond (templates_there count (statement_read s at code))
    (cond (ltb before most_points) (Moved code next) (Refused TooMany at))
    (Refused Missing at))
tested_here count s before at (Refused form n) = Refused form n

abbrev pub tested_statement : ℕ → List ℕ → ℕ → ℕ → Decoded
tested_statement count s before at = tested_here count s before at (command (statement_context before) s at)

abbrev pub is_template : ℕ → Variable → Bool
is_template x (template_variable k) = eqb k x
is_template x (string_variable k) = false

abbrev pub is_string : ℕ → Variable → Bool
is_string y (template_variable k) = false
is_string y (string_variable k) = eqb k y

-- The second set has what the first has, and the variable that is meant.
pub record Adds (is : Variable → Bool) (set r : ℕ) : Type 0 where
  pub holds : (v : Variable) → IsVariable v → member r (number_of v) ≡ (is v || member set (number_of v))

-- The statement that stands at an offset.
abbrev pub placed_at : List ℕ → ℕ → Placed
placed_at s at = record { at = at; statement = statement_here s at }

abbrev pub placed : List ℕ → List ℕ → List Placed
placed s places = map (placed_at s) places

-- The statements from point `before` on stand at the places that are kept; `now` are the variables that were named before.
pub record Kept (s : List ℕ) (count before now : ℕ) (r : Points) (ts : List Placed) : Type 0 where
  pub least : before ≤ r.count
  pub most : r.count ≤ most_points
  pub wide : length r.places ≡ most_points
  pub are : ts ≡ placed s (slice before r.count r.places)
  pub stands : (i : ℕ) → before ≤ i → i < r.count → Stands s count (get_or r.places i 0)
  pub names : Names (λ v. member now (number_of v) || named (map (λ t. t.statement) ts) v) r.named

abbrev pub StatementsRead : List ℕ → ℕ → ℕ → ℕ → ℕ → Result (Points × Position) ReadError → Type 0
StatementsRead s count before now at r =
    (f : ℕ) → Enough s at f → AgreesWith (λ ts points. Kept s count before now points ts) (statements f count s before at) r
