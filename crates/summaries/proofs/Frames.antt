-- The language of a framed show (document 02, F-3) is that of the show behind a template load and a plug that could stand in its place.
use Prim.Native.Nat.{ℕ, ◌+◌}
use mathlib.Core.Path.{◌≡◌, sym, ap, ◌∙◌}
use mathlib.Core.List.{List}
use mathlib.Core.Option.{some}
use mathlib.Core.Logic.{◌↔◌, ◌≢◌}
use lib.ListN.{length}
use Rattle.pages.specs.Items.{Items}
use Rattle.programs.specs.Program.{set_template, plug, show, show_framed, Statement, step, statement_at, template_at}
use Rattle.programs.specs.Unframed.{unframed}
use Rattle.programs.proofs.Frames.{plugged_own, at_show}
use Rattle.summaries.specs.Summaries.{Environment, fragment, plug_summary, transfer}
use Rattle.summaries.specs.Languages.{summary_shown, closed_if_shown, statement_graph, graph_shown, LanguageAt}

pub framed_summary : (φs : List Items) (x t g z : ℕ) (E : Environment) → z ≢ x
    → summary_shown φs (show_framed x t g) E ≡ summary_shown φs (show z) (transfer φs (plug z z g x) (transfer φs (set_template z t) E))
framed_summary φs x t g z E o = ap some (sym (plugged_own (plug_summary g) (fragment t (template_at φs t)) E.template z x o))

-- E' has at the two new points just what load and plug make of E n.
module _ (φs : List Items) (program : List Statement) (n x t g p q z : ℕ) (framed : statement_at program n ≡ step (show_framed x t g) p q) (other : z ≢ x)
    (E E' : ℕ → Environment) (load : E' (length program) ≡ transfer φs (set_template z t) (E n))
    (plugs : E' (length program + 1) ≡ transfer φs (plug z z g x) (E' (length program))) where
  same_graph : graph_shown φs program E n ≡ graph_shown φs (unframed program n x t g p q z) E' (length program + 1)
  unfolding graph_shown
  same_graph = ap (λ (s : Statement). statement_graph φs s (E n)) framed
      ∙ ap closed_if_shown (framed_summary φs x t g z (E n) other)
      ∙ sym (ap (λ (s : Statement). statement_graph φs s (E' (length program + 1))) (at_show program n x t g p q z)
      ∙ ap (λ (F : Environment). closed_if_shown (summary_shown φs (show z) F)) (plugs ∙ ap (transfer φs (plug z z g x)) load))

  pub framed_language : (page : Items) → LanguageAt φs program E n page ↔ LanguageAt φs (unframed program n x t g p q z) E' (length program + 1) page
  framed_language page = (λ (G, s, l). (G, sym same_graph ∙ s, l), λ (G, s, l). (G, same_graph ∙ s, l))
