-- J1's run over four choices shows its one page, and that page is of the language of its show.
use mathlib.Core.Path.{◌≡◌, refl}
use mathlib.Core.List.{[], ◌∷◌}
use mathlib.Core.Option.{some}
use Rattle.pages.specs.Items.{Items, text, element, one, ◌⋈◌}
use Rattle.programs.specs.Program.{statement_at, template_at}
use Rattle.programs.specs.Runs.{shown, closed, plugged}
use Rattle.summaries.specs.Summaries.{Summary, same_code, held, under, entries}
use Rattle.summaries.specs.Languages.{Language, closed_summary, graph_shown, nothing, item_then, text_stays, gap_filled, element_keeps, no_attribute}
use Rattle.worked_examples.proofs.ReadingJ1.{j1_job}
use Rattle.worked_examples.proofs.Runs.{first}

abbrev pub page : Items
page = one (element 1 20 [] (one (element 2 27 [] (one text))))

pub shows : shown j1_job.script.templates j1_job.script.program (first ∷ first ∷ first ∷ first ∷ []) ≡ page ∷ []
unfolding shown statement_at template_at closed plugged
shows = refl

-- The closed graph of the show at point 3.
abbrev graph : Summary
graph = closed_summary ((entries j1_job.proposal 3).template 0)

graph_shown_lem : graph_shown j1_job.script.templates j1_job.script.program (entries j1_job.proposal) 3 ≡ some graph
unfolding graph_shown statement_at
graph_shown_lem = refl

pub stands : Language j1_job.script.templates graph page
unfolding template_at entries held under same_code ◌⋈◌
stands = (
  1,
  (
    refl,
    item_then (element_keeps no_attribute
        (item_then (gap_filled 2 refl (item_then (element_keeps no_attribute (item_then text_stays nothing refl)) nothing refl)) nothing refl))
        nothing refl,
  ),
)
