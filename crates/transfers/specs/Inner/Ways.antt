-- The ways in which an act makes the values of variables, and what each way gives. The laws say that the transfer functions of the acts
-- are these.
use Rattle.std.specs.Prelude.{ℕ, ◌+◌, ◌≤◌, ◌<◌, List, Bool, true, cond, ◌&&◌, ◌||◌, eqb, ltb}
use Rattle.sets.specs.Sets.{member}
use Rattle.commands.specs.Commands.{strings}
use Rattle.pages.specs.Items.{Items}
use Rattle.programs.specs.Program.{Act, copy_template, set_template, copy_string, set_string, any_string, plug, plug_string, show, show_framed, template_at, Variable, template_variable, string_variable}
use Rattle.summaries.specs.Summaries.{Summary, Strings, Environment, fragment, plug_summary, plug_string_summary}
use Rattle.transfers.specs.declared.Made.{Made}
use Rattle.transfers.specs.declared.Made.TheVariants.{Value, Template, Plugged, Filled}
use Rattle.transfers.specs.declared.MadeString.{MadeString}
use Rattle.transfers.specs.declared.MadeString.TheVariants.{One, Any}
use Rattle.transfers.specs.declared.MadeString.TheVariants as Strings

abbrev pub if_set : ℕ → ℕ → Made → Made
if_set x y new = cond (eqb x y) new (Value x)

abbrev pub made_by : Act → ℕ → Made
made_by (copy_template y z) x = if_set x y (Value z)
made_by (set_template y t) x = if_set x y (Template t)
made_by (copy_string y z) x = Value x
made_by (set_string y s) x = Value x
made_by (any_string y) x = Value x
made_by (plug y z g w) x = if_set x y (Plugged z g w)
made_by (plug_string y z h w) x = if_set x y (Filled z h w)
made_by (show y) x = Value x
made_by (show_framed y t g) x = Value x

abbrev pub if_string_set : ℕ → ℕ → MadeString → MadeString
if_string_set y x new = cond (eqb y x) new (Strings.Value y)

abbrev pub string_made_by : Act → ℕ → MadeString
string_made_by (copy_template x z) y = Strings.Value y
string_made_by (set_template x t) y = Strings.Value y
string_made_by (copy_string x z) y = if_string_set y x (Strings.Value z)
string_made_by (set_string x s) y = if_string_set y x (One s)
string_made_by (any_string x) y = if_string_set y x Any
string_made_by (plug x z g w) y = Strings.Value y
string_made_by (plug_string x z h w) y = Strings.Value y
string_made_by (show x) y = Strings.Value y
string_made_by (show_framed x t g) y = Strings.Value y

-- The summary that each way gives.
abbrev pub summary_made : List Items → Environment → Made → Summary
summary_made φs E (Value x) = E.template x
summary_made φs E (Template t) = fragment t (template_at φs t)
summary_made φs E (Plugged x g y) = plug_summary g (E.template x) (E.template y)
summary_made φs E (Filled x h y) = plug_string_summary h (E.template x) (E.string y)

abbrev pub strings_made : Environment → MadeString → Strings
strings_made E (Strings.Value y) = E.string y
strings_made E (One s) = λ t. eqb t s
strings_made E Any = λ t. true

-- The ranges of their numbers: variables below 4, gaps below 8, templates below 32, strings among the named ones.
abbrev pub MadeFits : Made → Type 0
MadeFits (Value x) = x < 4
MadeFits (Template t) = t < 32
MadeFits (Plugged x g y) = (x < 4) × (g < 8) × (y < 4)
MadeFits (Filled x h y) = (x < 4) × (h < 8) × (y < 4)

abbrev pub StringMadeFits : MadeString → Type 0
StringMadeFits (Strings.Value y) = y < 4
StringMadeFits (One s) = s < strings
StringMadeFits Any = Unit {0}

-- A template that is loaded is one of this many, or the empty one.
abbrev pub MadeThere : ℕ → Made → Type 0
MadeThere count (Value x) = Unit {0}
MadeThere count (Template t) = t ≤ count
MadeThere count (Plugged x g y) = Unit {0}
MadeThere count (Filled x h y) = Unit {0}

-- The variables that a value is made from: two, or one twice. A value that is made from none counts as made from the variable itself.
abbrev pub sources : ℕ → Made → Variable × Variable
sources x (Value z) = (template_variable z, template_variable z)
sources x (Template t) = (template_variable x, template_variable x)
sources x (Plugged z g y) = (template_variable z, template_variable y)
sources x (Filled z h y) = (template_variable z, string_variable y)

abbrev pub string_sources : ℕ → MadeString → Variable × Variable
string_sources y (Strings.Value z) = (string_variable z, string_variable z)
string_sources y (One s) = (string_variable y, string_variable y)
string_sources y Any = (string_variable y, string_variable y)

abbrev pub act_sources : Act → Variable → Variable × Variable
act_sources a (template_variable x) = sources x (made_by a x)
act_sources a (string_variable y) = string_sources y (string_made_by a y)

-- Whether a variable is in a set of variables, as `40` numbers them.
abbrev pub among : ℕ → Variable → Bool
among set (template_variable x) = ltb x 4 && member set x
among set (string_variable y) = ltb y 4 && member set (4 + y)

-- Whether one of two variables passes a test.
abbrev pub meets : (Variable → Bool) → Variable × Variable → Bool
meets test vs = test vs.0 || test vs.1
