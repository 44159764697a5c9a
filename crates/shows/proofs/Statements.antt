-- What the statement of a point shows.
use Prim.Native.Nat.{ℕ, ◌+◌, ◌*◌, ◌%◌, ◌<◌}
use native.Mathlib.Omega.{arith}
use mathlib.Core.Path.{◌≡◌, refl, sym, ap, subst, ◌∙◌}
use mathlib.Core.List.{List}
use mathlib.Core.Bool.{true, ◌||◌}
use mathlib.Core.Option.{none}
use Rattle.std.specs.Prelude.{Some, None}
use lib.ListN.{length, get_or}
use lib.Dec.{leb}
use borrow.Author.Tests.{leb-true}
use Rattle.pages.specs.Items.{Items}
use Rattle.pages.specs.Inner.Gaps.{GapsAre}
use Rattle.programs.specs.declared.Act as Acts
use Rattle.programs.specs.declared.Act.TheVariants.{CopyTemplate, SetTemplate, CopyString, SetString, AnyString, Plug, PlugString, Show, ShowFramed}
use Rattle.programs.specs.declared.Statement as Declared
use Rattle.programs.specs.declared.Statement.TheVariants.{Step, Stop}
use Rattle.programs.specs.Program.{Statement, template_at}
use Rattle.programs.specs.ProgramReading.{templates_there}
use Rattle.programs.specs.Inner.Promises.{as_act, as_statement, statement_here, StatementFits}
use Rattle.programs.proofs.Decoding.{statement_fits}
use Rattle.summaries.specs.Summaries.{Summary, fragment, plug_summary, entries}
use Rattle.summaries.specs.Languages.{closed_summary, summary_shown, statement_graph, graph_shown}
use Rattle.jobs.specs.Job.{Job}
use Rattle.graphs.specs.Inner.Graphs.{Keeps, nothing}
use Rattle.entries.specs.Inner.Entries.{Loads}
use Rattle.entries.proofs.Loading.{kept_entry}
use Rattle.covering.proofs.Steps.{template_listed}
use Rattle.shows.specs.declared.Source.{Source}
use Rattle.shows.specs.declared.Source.TheVariants.{Variable, Framed}
use Rattle.shows.specs.Inner.Promises.{PointStands, shown_at, ShowsAt, HoldsEntry, HoldsSource, HoldsShown}

module _ (s : List ℕ) (place : ℕ) (t : Declared.Statement) (is : as_statement t ≡ statement_here s place) where
  shown_by : (heads gaps : List ℕ) (p : ℕ) (j : Job) → PointStands s heads gaps place p j → shown_at j p ≡ statement_graph j.script.templates (as_statement t) (entries j.proposal p)
  unfolding graph_shown
  shown_by heads gaps p j P = ap (λ (u : Statement). statement_graph j.script.templates u (entries j.proposal p)) (sym (is ∙ P.stands.is))

  pub stop_shows_nothing : t ≡ Stop → ShowsAt s place None
  stop_shows_nothing e heads gaps p j P = shown_by heads gaps p j P ∙ rw e

  module _ (act : Acts.Act) (first second : ℕ) (e : t ≡ Step act first second) where
    -- An act other than `37` and `39`.
    pub other_shows_nothing : ((x : ℕ) → act ≡ Show x → ⊥) → ((x k g : ℕ) → act ≡ ShowFramed x k g → ⊥) → ShowsAt s place None
    other_shows_nothing no_show no_frame heads gaps p j P = shown_by heads gaps p j P ∙ rw (e, shows_none act refl)
      where
        shows_none : (a : Acts.Act) → act ≡ a → summary_shown j.script.templates (as_act a) (entries j.proposal p) ≡ none
        shows_none (CopyTemplate x y) f = refl
        shows_none (SetTemplate x k) f = refl
        shows_none (CopyString x y) f = refl
        shows_none (SetString x t) f = refl
        shows_none (AnyString x) f = refl
        shows_none (Plug x y g z) f = refl
        shows_none (PlugString x y h z) f = refl
        shows_none (Show x) f = absurd (no_show x f)
        shows_none (ShowFramed x k g) f = absurd (no_frame x k g f)

    module _ (heads gaps : List ℕ) (p : ℕ) (j : Job) (P : PointStands s heads gaps place p j) where
      fits : StatementFits (as_statement t)
      fits = subst StatementFits (sym is) (statement_fits s place P.stands.ranges)

      there : templates_there (length j.script.templates) (as_statement t) ≡ true
      there = subst (λ (u : Statement). templates_there (length j.script.templates) u ≡ true) (sym (is ∙ P.stands.is)) P.stands.template_there

    pub act_shows : (x : ℕ) → act ≡ Show x → ShowsAt s place (Some (Variable x))
    act_shows x f heads gaps p j P =
        let low : x < 4 = rw (e, f) at (fits heads gaps p j P) in
        (low, shown_by heads gaps p j P ∙ rw (e, f))

    pub act_shows_framed : (x k g : ℕ) → act ≡ ShowFramed x k g → ShowsAt s place (Some (Framed x k g))
    act_shows_framed x k g f heads gaps p j P =
        let low : (x < 4) × (g < 8) = rw (e, f) at (fits heads gaps p j P) in
        let found : leb k (length j.script.templates) ≡ true = rw (e, f) at (there heads gaps p j P) in
        ((low.0, leb-true k (length j.script.templates) found), shown_by heads gaps p j P ∙ rw (e, f))

-- The entry of the variable.
pub entry_loaded : (s heads : List ℕ) (p x from : ℕ) → (p < 32 → x < 4 → from ≡ get_or heads (p * 8 + x) 0)
    → (before after : List ℕ) → Loads s from before after → HoldsEntry s heads p x before after
unfolding entries
entry_loaded s heads p x from from_is before after loads j low f stand K =
    kept_entry s from before after K loads _ (template_listed s heads j.proposal p low stand x from f from_is)

module _ (s heads gaps : List ℕ) (p : ℕ) where
  -- The frame's template is loaded, and the entry of the variable plugged in.
  pub framed : (x t g : ℕ) (before fresh value frame after : List ℕ) → Keeps fresh nothing → HoldsEntry s heads p x fresh value
      → ((φ : Items) (R : Summary) → GapsAre (get_or gaps (t % 32) 0) φ → t < 32 → Keeps before R → Keeps frame (λ c. R c || fragment t φ c))
      → ((S T : Summary) → Keeps frame S → Keeps value T → Keeps after (plug_summary g S T)) → HoldsSource s heads gaps p (Framed x t g) before after
  framed x t g before fresh value frame after blank loads loads_frame plugs j P f K =
      let few = P.few in
      let low : t < 32 = omega (arith, f.1) in
      let w : t % 32 ≡ t = omega arith in
      plugs _ _ (loads_frame (template_at j.script.templates t) nothing (rw w (P.gaps_are t f.1)) low K) (loads j P.low f.0 P.entry blank)

  module _ (source : Source) (before after : List ℕ) where
    -- What the page is made from, closed.
    pub closed_source : (made : List ℕ) → HoldsSource s heads gaps p source before made → ((R : Summary) → Keeps made R → Keeps after (closed_summary R)) → HoldsShown s heads gaps p source before after
    closed_source made holds closes j P f K = closes _ (holds j P f K)
