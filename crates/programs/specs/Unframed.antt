-- A program with a framed show replaced (document 02, F-3): a template load, a plug and a show, by way of a template variable of their own,
-- stand in its place; and what the laws about it say.
use Rattle.std.specs.Prelude.{ℕ, ◌+◌, ◌≡◌, Bool, true, false, ◌≢◌, eqb, length, set}
use mathlib.Core.List.{List, [], ◌∷◌, ◌++◌}
use Rattle.std.proofs.Math.Bool.{cond}
use Rattle.pages.specs.Items.{Items}
use Rattle.programs.specs.Program.{copy_template, set_template, copy_string, set_string, any_string, plug, plug_string, show, show_framed, Statement, step, stop, statement_at}
use Rattle.programs.specs.ProgramReading.{points_there}
use Rattle.programs.specs.Runs.{Choice, State, stepped, shown}

-- A program whose point n has the framed show `39 x t g p q`, with load, plug and show by way of z in its place: the load stands at n,
-- the plug and the show at two new points behind the last one. z may be any number and the new points may pass 32: the result runs,
-- whether or not a job could have it.
unfoldable pub unframed : List Statement → (n x t g p q z : ℕ) → List Statement
unframed program n x t g p q z =
    set program n (step (set_template z t) (length program) (length program))
    ++ step (plug z z g x) (length program + 1) (length program + 1) ∷ step (show z) p q ∷ []

module _ (templates : List Items) (program : List Statement) (n : ℕ) where
  -- The choices of a run, with each that it makes at point n made three times.
  unfoldable pub tripled : State → List Choice → List Choice
  unfolding stepped
  tripled σ [] = []
  tripled σ (c ∷ cs) = cond (eqb σ.point n) (c ∷ c ∷ c ∷ []) (c ∷ []) ++ tripled (stepped templates program c σ) cs

-- Two states of runs that agree in all but, at most, the value of template variable z.
pub record SameBut (z : ℕ) (σ σ' : State) : Type 0 where
  pub point : σ.point ≡ σ'.point
  pub template : (x : ℕ) → z ≢ x → σ.template x ≡ σ'.template x
  pub string : σ.string ≡ σ'.string
  pub pages : σ.pages ≡ σ'.pages

-- Some run of the program shows exactly these pages, in this order.
abbrev pub Shows : List Items → List Statement → List Items → Type 0
Shows φs program pages = (cs : List Choice) × (shown φs program cs ≡ pages)

-- The next points of all statements are there.
abbrev pub PointsThere : List Statement → Type 0
PointsThere program = (i : ℕ) → points_there (length program) (statement_at program i) ≡ true

-- Whether a statement is a framed show.
abbrev pub is_framed : Statement → Bool
is_framed (step (copy_template x x') p q) = false
is_framed (step (set_template x t) p q) = false
is_framed (step (copy_string y y') p q) = false
is_framed (step (set_string y s) p q) = false
is_framed (step (any_string y) p q) = false
is_framed (step (plug x x' g x'') p q) = false
is_framed (step (plug_string x x' h y) p q) = false
is_framed (step (show x) p q) = false
is_framed (step (show_framed x t g) p q) = true
is_framed stop = false
