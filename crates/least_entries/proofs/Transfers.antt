-- What the transfer functions keep: a relation of summaries, and one of sets of strings, that plugs keep and that what a statement sets
-- has to itself.
use Prim.Native.Nat.{ℕ}
use mathlib.Core.List.{List}
use mathlib.Core.Bool.{Bool, true, false, cond}
use lib.Dec.{eqb}
use Rattle.pages.specs.Items.{Items}
use Rattle.programs.specs.Program.{Act, copy_template, set_template, copy_string, set_string, any_string, plug, plug_string, show, show_framed, template_at}
use Rattle.programs.specs.Runs.{update}
use Rattle.summaries.specs.Summaries.{Summary, Strings, Environment, fragment, plug_summary, plug_string_summary, transfer_template, transfer_string}

update_related : {A B : Type 0} (R : A → B → Type 0) (v : ℕ) (a : A) (b : B) (f : ℕ → A) (g : ℕ → B) → R a b → ((k : ℕ) → R (f k) (g k))
    → (k : ℕ) → R (update v a f k) (update v b g k)
update_related R v a b f g r rs k = by_test (eqb k v)
  where
    by_test : (t : Bool) → R (cond t a (f k)) (cond t b (g k))
    by_test true = r
    by_test false = rs k

module _ (R : Summary → Summary → Type 0) (Q : Strings → Strings → Type 0) where
  -- What a statement sets, to itself.
  abbrev pub SetRelated : List Items → Act → Type 0
  SetRelated φs (copy_template x x') = Unit {0}
  SetRelated φs (set_template x t) = R (fragment t (template_at φs t)) (fragment t (template_at φs t))
  SetRelated φs (copy_string y y') = Unit {0}
  SetRelated φs (set_string y s) = Q (λ t. eqb t s) (λ t. eqb t s)
  SetRelated φs (any_string y) = Q (λ t. true) (λ t. true)
  SetRelated φs (plug x x' g x'') = Unit {0}
  SetRelated φs (plug_string x x' h y) = Unit {0}
  SetRelated φs (show x) = Unit {0}
  SetRelated φs (show_framed x t g) = Unit {0}

  pub record PlugsKeep : Type 0 where
    pub plugs : (g : ℕ) (S S' T T' : Summary) → R S S' → R T T' → R (plug_summary g S T) (plug_summary g S' T')
    pub fills : (h : ℕ) (S S' : Summary) (Y Y' : Strings) → R S S' → Q Y Y' → R (plug_string_summary h S Y) (plug_string_summary h S' Y')

  pub record Related (E F : Environment) : Type 0 where
    pub template : (x : ℕ) → R (E.template x) (F.template x)
    pub string : (y : ℕ) → Q (E.string y) (F.string y)

  module _ (φs : List Items) (keep : PlugsKeep) (E F : Environment) (r : Related E F) where
    pub template_related : (a : Act) → SetRelated φs a → (x : ℕ) → R (transfer_template φs a E x) (transfer_template φs a F x)
    template_related (copy_template x x') s = update_related R x _ _ _ _ (r.template x') r.template
    template_related (set_template x t) s = update_related R x _ _ _ _ s r.template
    template_related (copy_string y y') s = r.template
    template_related (set_string y t) s = r.template
    template_related (any_string y) s = r.template
    template_related (plug x x' g x'') s = update_related R x _ _ _ _ (keep.plugs g _ _ _ _ (r.template x') (r.template x'')) r.template
    template_related (plug_string x x' h y) s = update_related R x _ _ _ _ (keep.fills h _ _ _ _ (r.template x') (r.string y)) r.template
    template_related (show x) s = r.template
    template_related (show_framed x t g) s = r.template

    pub string_related : (a : Act) → SetRelated φs a → (y : ℕ) → Q (transfer_string a E y) (transfer_string a F y)
    string_related (copy_template x x') s = r.string
    string_related (set_template x t) s = r.string
    string_related (copy_string y y') s = update_related Q y _ _ _ _ (r.string y') r.string
    string_related (set_string y t) s = update_related Q y _ _ _ _ s r.string
    string_related (any_string y) s = update_related Q y _ _ _ _ s r.string
    string_related (plug x x' g x'') s = r.string
    string_related (plug_string x x' h y) s = r.string
    string_related (show x) s = r.string
    string_related (show_framed x t g) s = r.string
