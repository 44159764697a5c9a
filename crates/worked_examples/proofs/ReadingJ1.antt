-- J1 reads as the trees one expects, by computation. Its variants, read or refused, stand in the table of `worked_verdicts`.
use Prim.Native.Nat.{ℕ}
use mathlib.Core.Path.{◌≡◌, refl}
use mathlib.Core.List.{List, [], ◌∷◌, map}
use Rattle.commands.specs.Commands.{command}
use Rattle.commands.specs.Reading.{whole}
use Rattle.vocabularies.specs.Vocabulary.{Rule, content, order, rule_of}
use Rattle.vocabularies.specs.Facts.{with_facts}
use Rattle.pages.specs.Items.{Items, text, gap, element, one}
use Rattle.programs.specs.Program.{template_variable, step, stop, set_template, plug, show}
use Rattle.summaries.specs.Proposal.{Claim, root, edge, gap_from, claim, Head}
use Rattle.jobs.specs.Job.{Job, job}
use Rattle.worked_examples.specs.J1.{j1}

abbrev page_rules : List Rule
page_rules =
    record { element = 1; attributes = 0 ∷ []; contents = 2 ∷ []; clauses = order 2 2 ∷ content 2 ∷ [] }
    ∷ record { element = 2; attributes = []; contents = 0 ∷ []; clauses = [] }
    ∷ []

abbrev pub frame : Items
frame = one (element 1 20 [] (one (gap 0)))

abbrev pub body : Items
body = one (element 2 27 [] (one text))

abbrev pub head : ℕ → ℕ → List Claim → Head
head p x cs = record { point = p; variable = template_variable x; holdings = map claim cs }

abbrev pub j1_job : Job
j1_job = record {
  script = record {
    vocabulary = record { rules = page_rules; root = 1 };
    templates = frame ∷ body ∷ [];
    program =
        step (set_template 0 1) 1 1
        ∷ step (set_template 1 2) 2 2
        ∷ step (plug 0 0 0 1) 3 3
        ∷ step (show 0) 4 4
        ∷ stop
        ∷ [];
  };
  proposal =
      head 0 0 (root 0 ∷ [])
      ∷ head 0 1 (root 0 ∷ [])
      ∷ head 1 0 (root 1 ∷ gap_from 0 1 ∷ [])
      ∷ head 1 1 (root 0 ∷ [])
      ∷ head 2 0 (root 1 ∷ gap_from 0 1 ∷ [])
      ∷ head 2 1 (root 2 ∷ [])
      ∷ head 3 0 (root 1 ∷ edge 1 0 2 ∷ [])
      ∷ head 3 1 (root 2 ∷ [])
      ∷ head 4 0 (root 1 ∷ edge 1 0 2 ∷ [])
      ∷ head 4 1 (root 2 ∷ [])
      ∷ [];
}

pub reads : job j1 ≡ whole j1_job 121
unfolding job command rule_of with_facts
reads = refl
