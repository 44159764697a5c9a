-- Framed shows taken out one after the other (document 02, F-3), each by way of a template variable that no statement names.
use Prim.Native.Nat.{ℕ, zero, suc, ◌+◌, ◌≤◌}
use mathlib.Core.Path.{◌≡◌, refl, ap, ◌∙◌}
use mathlib.Core.List.{List, [], ◌∷◌}
use mathlib.Core.Bool.{false}
use mathlib.Core.Logic.Iff
use mathlib.Core.Logic.{◌↔◌, ◌⊎◌, inl, inr}
use native.Mathlib.Omega.{arith}
use native.Mathlib.Decide.{ℕ_discrete}
use borrow.Author.Tests.{ne_eqb}
use lib.ListN.{length}
use Rattle.sets.proofs.Booleans.{neither}
use Rattle.pages.specs.Items.{Items}
use Rattle.programs.specs.Program.{Act, copy_template, set_template, copy_string, set_string, any_string, plug, plug_string, show, show_framed, Statement, step, stop, template_variable, act_names_template, named, statement_at}
use Rattle.programs.specs.Unframed.{unframed, Shows, PointsThere, is_framed}
use Rattle.programs.proofs.AtPoints.{past_stops}
use Rattle.programs.proofs.Frames.{each, unframed_there, framed_runs}

-- A number above the template variables that an act names.
abbrev above : Act → ℕ
above (copy_template x x') = x + x' + 1
above (set_template x t) = x + 1
above (copy_string y y') = 0
above (set_string y s) = 0
above (any_string y) = 0
above (plug x x' g x'') = x + x' + x'' + 1
above (plug_string x x' h y) = x + x' + 1
above (show x) = x + 1
above (show_framed x t g) = x + 1

above_unnamed : (a : Act) (v : ℕ) → above a ≤ v → act_names_template a v ≡ false
above_unnamed (copy_template x x') v l = neither _ _ (ne_eqb v x (λ e. omega arith)) (ne_eqb v x' (λ e. omega arith))
above_unnamed (set_template x t) v l = ne_eqb v x (λ e. omega arith)
above_unnamed (copy_string y y') v l = refl
above_unnamed (set_string y s) v l = refl
above_unnamed (any_string y) v l = refl
above_unnamed (plug x x' g x'') v l =
    neither _ _ (neither _ _ (ne_eqb v x (λ e. omega arith)) (ne_eqb v x' (λ e. omega arith))) (ne_eqb v x'' (λ e. omega arith))
above_unnamed (plug_string x x' h y) v l = neither _ _ (ne_eqb v x (λ e. omega arith)) (ne_eqb v x' (λ e. omega arith))
above_unnamed (show x) v l = ne_eqb v x (λ e. omega arith)
above_unnamed (show_framed x t g) v l = ne_eqb v x (λ e. omega arith)

unnamed_from : (ts : List Statement) → (z : ℕ) × ((v : ℕ) → z ≤ v → named ts (template_variable v) ≡ false)
unfolding named
unnamed_from [] = (0, λ v l. refl)
unnamed_from (step a p q ∷ ts) =
    let (z, o) = unnamed_from ts in (above a + z, λ v l. neither _ _ (above_unnamed a v (omega arith)) (o v (omega arith)))
unnamed_from (stop ∷ ts) = unnamed_from ts

-- A statement that is a framed show.
record Frame (s : Statement) : Type 0 where
  x : ℕ
  t : ℕ
  g : ℕ
  p : ℕ
  q : ℕ
  is : s ≡ step (show_framed x t g) p q

frame : (s : Statement) → (is_framed s ≡ false) ⊎ Frame s
frame (step (copy_template x x') p q) = inl refl
frame (step (set_template x t) p q) = inl refl
frame (step (copy_string y y') p q) = inl refl
frame (step (set_string y s) p q) = inl refl
frame (step (any_string y) p q) = inl refl
frame (step (plug x x' g x'') p q) = inl refl
frame (step (plug_string x x' h y) p q) = inl refl
frame (step (show x) p q) = inl refl
frame (step (show_framed x t g) p q) = inr (record { x = x; t = t; g = g; p = p; q = q; is = refl })
frame stop = inl refl

abbrev FramelessFrom : ℕ → List Statement → Type 0
FramelessFrom n ts = (i : ℕ) → n ≤ i → is_framed (statement_at ts i) ≡ false

from_next : (program : List Statement) (n : ℕ) → FramelessFrom (suc n) program → is_framed (statement_at program n) ≡ false → FramelessFrom n program
from_next program n h e i l = elim (ℕ_discrete i n) [
  | yes is ↦ ap (λ (k : ℕ). is_framed (statement_at program k)) is ∙ e
  | no o ↦ h i (omega arith)
]

-- Those before point n, where none is from n on.
take_out : (n : ℕ) (program : List Statement) → PointsThere program → FramelessFrom n program
    → (ts : List Statement) × PointsThere ts × FramelessFrom 0 ts × ((φs pages : List Items) → Shows φs program pages ↔ Shows φs ts pages)
take_out zero program there h = (program, there, h, λ φs pages. Iff.rfl)
take_out (suc n) program there h = elim (frame (statement_at program n)) [
  | inl e ↦ take_out n program there (from_next program n h e)
  | inr f ↦
      let (z, o) = unnamed_from program in
      let (ts, there', h', same) = take_out n (unframed program n f.x f.t f.g f.p f.q z)
      (unframed_there program n f.x f.t f.g f.p f.q z f.is there)
      (each program n f.x f.t f.g f.p f.q z f.is (λ i s. n ≤ i → is_framed s ≡ false)
      (λ i l. refl) (λ i l. refl) (λ i l. refl) (λ i d l. h i (omega arith))) in
      (ts, there', h', λ φs pages. Iff.trans (framed_runs program n f.x f.t f.g f.p f.q z φs f.is (o z (omega arith)) there pages) (same φs pages))
]

-- For every program there is one without framed shows whose runs show the same lists of pages, with any templates.
pub frameless : (program : List Statement) → PointsThere program
    → (ts : List Statement) × PointsThere ts × ((i : ℕ) → is_framed (statement_at ts i) ≡ false)
    × ((φs pages : List Items) → Shows φs program pages ↔ Shows φs ts pages)
frameless program there =
    let (ts, there', h, same) = take_out (length program) program there (λ i l. ap is_framed (past_stops program i l)) in
    (ts, there', λ i. h i (omega arith), same)
