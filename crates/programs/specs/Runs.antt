-- Runs of a program (document 01, "A run"; document 02, F-3 and F-5). A run knows the templates and the statements of a job and a list of
-- choices, and no proposal. Values are lists of items with gaps still open; strings are all numbers, of which 0 to 63 are the named ones.
use Rattle.std.specs.Prelude.{ℕ, Bool, cond, eqb}
use mathlib.Core.List.{List, [], ◌∷◌, ◌++◌}
use Rattle.std.proofs.Math.Option.{Option, some}
use Rattle.commands.specs.Commands.{empty_string}
use Rattle.pages.specs.Items.{Value, string, open_gap, Attribute, Item, text, blank, gap, element, Items, none, more, one, ◌⋈◌}
use Rattle.programs.specs.Program.{Act, copy_template, set_template, copy_string, set_string, any_string, plug, plug_string, show, show_framed, Statement, step, stop, statement_at, template_at}

abbrev pub filled_value : (ℕ → Option Value) → Value → Option Value
filled_value fill (string s) = some (string s)
filled_value fill (open_gap h) = fill h

-- An attribute with what fills it, before others; where nothing does, the attribute is left out.
abbrev pub filled_before : ℕ → Option Value → List Attribute → List Attribute
filled_before a Option.none δ = δ
filled_before a (some v) δ = record { name = a; value = v } ∷ δ

unfoldable pub filled : (ℕ → Option Value) → List Attribute → List Attribute
filled fill [] = []
filled fill (a ∷ δ) = filled_before a.name (filled_value fill a.value) (filled fill δ)

-- Items with `put g` in place of each gap g and `fill h` in place of each attribute gap h, at any depth; an attribute whose gap gets
-- nothing is left out.
unfoldable mutual
  unfolding filled ◌⋈◌

  pub replaced : (ℕ → Items) → (ℕ → Option Value) → Items → Items
  replaced put fill none = none
  replaced put fill (more i φ) = replaced_item put fill i ⋈ replaced put fill φ

  pub replaced_item : (ℕ → Items) → (ℕ → Option Value) → Item → Items
  replaced_item put fill text = one text
  replaced_item put fill blank = one blank
  replaced_item put fill (gap g) = put g
  replaced_item put fill (element e mark δ φ) = one (element e mark (filled fill δ) (replaced put fill φ))

abbrev pub stay : ℕ → Items
stay g = one (gap g)

abbrev pub stay_open : ℕ → Option Value
stay_open h = some (open_gap h)

-- A value with the items of `new` in place of each gap g; gaps inside those items stay open.
unfoldable pub plugged : ℕ → Items → Items → Items
unfolding replaced
plugged g new φ = replaced (λ k. cond (eqb k g) new (stay k)) stay_open φ

-- A value with string s at each attribute gap h.
unfoldable pub plugged_string : ℕ → ℕ → Items → Items
unfolding replaced
plugged_string h s φ = replaced stay (λ k. cond (eqb k h) (some (string s)) (stay_open k)) φ

-- What an attribute gap that is still open takes at a show, in a run and in the language alike: no string, and so its attribute is left
-- out (document 02, F-5, in place of document 01's string 0; source 002, section 3, "the entire attribute is removed").
abbrev pub closing : Option ℕ
closing = Option.none

abbrev pub string_of : Option ℕ → Option Value
string_of Option.none = Option.none
string_of (some s) = some (string s)

-- A page as a show closes it: nothing in each gap still open, and no attribute whose gap is still open.
unfoldable pub closed : Items → Items
unfolding replaced
closed φ = replaced (λ g. none) (λ h. string_of closing) φ

-- A choice: the first or the second next point, and a string, which `34` alone uses.
pub record Choice : Type 0 where
  pub second : Bool
  pub string : ℕ

-- The point, the values of all variables, of which a program that reads names 0 to 3 alone, and the pages shown.
pub record State : Type 0 where
  pub point : ℕ
  pub template : ℕ → Items
  pub string : ℕ → ℕ
  pub pages : List Items

-- Point 0, every template variable empty, every string variable string 0, no page.
abbrev pub start : State
start = record { point = 0; template = λ x. none; string = λ y. empty_string; pages = [] }

abbrev pub update : {A : Type 0} → ℕ → A → (ℕ → A) → ℕ → A
update v new old k = cond (eqb k v) new (old k)

module _ (templates : List Items) where
  -- What a statement does to the template variables.
  abbrev pub act_templates : Act → (ℕ → Items) → (ℕ → ℕ) → ℕ → Items
  act_templates (copy_template x x') X Y = update x (X x') X
  act_templates (set_template x t) X Y = update x (template_at templates t) X
  act_templates (copy_string y y') X Y = X
  act_templates (set_string y s) X Y = X
  act_templates (any_string y) X Y = X
  act_templates (plug x x' g x'') X Y = update x (plugged g (X x'') (X x')) X
  act_templates (plug_string x x' h y) X Y = update x (plugged_string h (Y y) (X x')) X
  act_templates (show x) X Y = X
  act_templates (show_framed x t g) X Y = X

-- What a statement does to the string variables; `s` is the choice's string.
abbrev pub act_strings : Act → ℕ → (ℕ → ℕ) → ℕ → ℕ
act_strings (copy_template x x') s Y = Y
act_strings (set_template x t) s Y = Y
act_strings (copy_string y y') s Y = update y (Y y') Y
act_strings (set_string y t) s Y = update y t Y
act_strings (any_string y) s Y = update y s Y
act_strings (plug x x' g x'') s Y = Y
act_strings (plug_string x x' h y) s Y = Y
act_strings (show x) s Y = Y
act_strings (show_framed x t g) s Y = Y

module _ (templates : List Items) where
  -- The pages that a statement shows: one at a show, none elsewhere. In a frame it is the frame's template with the variable's items in
  -- place of each gap g.
  abbrev pub act_pages : Act → (ℕ → Items) → List Items
  act_pages (copy_template x x') X = []
  act_pages (set_template x t) X = []
  act_pages (copy_string y y') X = []
  act_pages (set_string y t) X = []
  act_pages (any_string y) X = []
  act_pages (plug x x' g x'') X = []
  act_pages (plug_string x x' h y) X = []
  act_pages (show x) X = closed (X x) ∷ []
  act_pages (show_framed x t g) X = closed (plugged g (X x) (template_at templates t)) ∷ []

  abbrev pub after : Statement → Choice → State → State
  after (step a p q) c σ = record {
    point = cond c.second q p;
    template = act_templates templates a σ.template σ.string;
    string = act_strings a c.string σ.string;
    pages = σ.pages ++ act_pages a σ.template;
  }
  after stop c σ = σ

module _ (templates : List Items) (program : List Statement) where
  -- One choice does the point's statement on what the step before left.
  unfoldable pub stepped : Choice → State → State
  stepped c σ = after templates (statement_at program σ.point) c σ

  unfoldable pub run_from : State → List Choice → State
  unfolding stepped
  run_from σ [] = σ
  run_from σ (c ∷ cs) = run_from (stepped c σ) cs

  -- The pages shown over a list of choices, in order.
  unfoldable pub shown : List Choice → List Items
  unfolding run_from
  shown cs = (run_from start cs).pages
