-- Programs as trees (document 01, "A job, command by command", Program, and document 02, F-3; source 000, section 2, "Programs"). The
-- statement of point i is the i-th of the list, from 0. Variables x and y are 0 to 3, templates are numbered from 1, template 0 is empty.
use Rattle.std.specs.Prelude.{ℕ, zero, suc, List, [], ◌∷◌, Bool, false, ◌||◌, eqb}
unfoldable pub use Rattle.pages.specs.Items.{template_at}

pub data Act : Type 0 where
  copy_template : ℕ → ℕ → Act
  set_template : ℕ → ℕ → Act
  copy_string : ℕ → ℕ → Act
  set_string : ℕ → ℕ → Act
  any_string : ℕ → Act
  plug : ℕ → ℕ → ℕ → ℕ → Act
  plug_string : ℕ → ℕ → ℕ → ℕ → Act
  show : ℕ → Act
  -- `39 x t g`: a show of template t, the frame, with x in place of all its gaps g.
  show_framed : ℕ → ℕ → ℕ → Act

-- A statement with its two next points, or `38`.
pub data Statement : Type 0 where
  step : Act → ℕ → ℕ → Statement
  stop : Statement

unfoldable pub statement_at : List Statement → ℕ → Statement
statement_at [] p = stop
statement_at (t ∷ ts) zero = t
statement_at (t ∷ ts) (suc p) = statement_at ts p

-- A variable: template variable 0 to 3, or string variable 0 to 3. `40` numbers them 0 to 7 in this order.
pub data Variable : Type 0 where
  template_variable : ℕ → Variable
  string_variable : ℕ → Variable

-- Whether a statement names a variable, in any operand.
abbrev pub act_names_template : Act → ℕ → Bool
act_names_template (copy_template x x') v = eqb v x || eqb v x'
act_names_template (set_template x t) v = eqb v x
act_names_template (copy_string y y') v = false
act_names_template (set_string y s) v = false
act_names_template (any_string y) v = false
act_names_template (plug x x' g x'') v = eqb v x || eqb v x' || eqb v x''
act_names_template (plug_string x x' h y) v = eqb v x || eqb v x'
act_names_template (show x) v = eqb v x
act_names_template (show_framed x t g) v = eqb v x

abbrev pub act_names_string : Act → ℕ → Bool
act_names_string (copy_template x x') v = false
act_names_string (set_template x t) v = false
act_names_string (copy_string y y') v = eqb v y || eqb v y'
act_names_string (set_string y s) v = eqb v y
act_names_string (any_string y) v = eqb v y
act_names_string (plug x x' g x'') v = false
act_names_string (plug_string x x' h y) v = eqb v y
act_names_string (show x) v = false
act_names_string (show_framed x t g) v = false

abbrev pub act_names : Act → Variable → Bool
act_names a (template_variable x) = act_names_template a x
act_names a (string_variable y) = act_names_string a y

abbrev pub statement_names : Statement → Variable → Bool
statement_names (step a p q) v = act_names a v
statement_names stop v = false

unfoldable pub named : List Statement → Variable → Bool
named [] v = false
named (t ∷ ts) v = statement_names t v || named ts v
