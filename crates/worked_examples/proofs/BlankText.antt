-- Blank text by computation and by short derivations (document 02, F-2): "A new item `29`, blank text, is allowed where `21` is and counts
-- as no content anywhere: not in the allowed contents, not in a clause, not beside the root." Pages with it are judged in `JudgingJ1`.
use Prim.Native.Nat.{ℕ}
use native.Mathlib.Omega.{arith}
use mathlib.Core.Path.{◌≡◌, refl, sym, subst}
use mathlib.Core.List.Memᴰ
use mathlib.Core.List.{List, [], ◌∷◌}
use mathlib.Core.Logic.{⊎_elim}
use mathlib.Core.Bool.{true, false≢true}
use Rattle.commands.specs.Commands.{command}
use Rattle.commands.specs.Reading.{whole, enough}
use Rattle.vocabularies.specs.Vocabulary.{neg, content, Rule, Vocabulary, rule_of}
use Rattle.pages.specs.Items.{string, text, blank, gap, element, Items, none, more, one, ◌⋈◌, without_blank}
use Rattle.pages.specs.ItemReading.{templates}
use Rattle.pages.specs.RightPages.{word, Meets, ElementRight, RootAlone}
use Rattle.programs.specs.Program.{statement_at, template_at}
use Rattle.programs.specs.Runs.{plugged, closed, shown}
use Rattle.summaries.specs.Proposal.{root, edge, gap_from, claim}
use Rattle.summaries.specs.Summaries.{Summary, same_code, says_claim, held}
use Rattle.summaries.specs.Languages.{closed_summary, ItemDerives, no_attribute, fixed, nothing, item_then, text_stays, blank_stays, gap_filled, element_keeps, Language}
use Rattle.agreement.proofs.Roots.{root_alone_iff}
use Rattle.worked_examples.proofs.ReadingJ1.{j1_job}
use Rattle.worked_examples.proofs.Runs.{attribute, first}

-- Template 1: blank text first and last, right after the attributes of element 1, and among its texts and gaps. Template 2 has nothing else.
abbrev bytes : List ℕ
bytes =
    0x20 ∷ 0x29 ∷ 0x22 ∷ 0x00 ∷ 0x23 ∷ 0x01 ∷ 0x24 ∷ 0x00 ∷ 0x07
    ∷ 0x29 ∷ 0x21 ∷ 0x22 ∷ 0x00 ∷ 0x29 ∷ 0x22 ∷ 0x01 ∷ 0x21 ∷ 0x26 ∷ 0x29 ∷ 0x27
    ∷ 0x20 ∷ 0x29 ∷ 0x27
    ∷ 0x2F
    ∷ []

abbrev around : Items → Items → Items
around φ contents = more blank (φ ⋈ more (element 1 4 (attribute 0 (string 7) ∷ []) contents) (one blank))

abbrev indented : List Items
indented = around (one (gap 0)) (more blank (more text (more (gap 0) (more blank (more (gap 1) (one text)))))) ∷ one blank ∷ []

-- Each `29` is an item of its own, where it stands.
pub reads : templates (enough bytes) (λ e. true) bytes 0 0 ≡ whole indented 24
unfolding templates command ◌⋈◌
reads = refl

-- The page that J1's program shows of these templates: template 2 in both gaps 0, nothing in gap 1.
abbrev contents : Items
contents = more blank (more text (more blank (more blank (one text))))

abbrev page : Items
page = around (one blank) contents

-- A plug and a show keep blank text, in its order.
pub shows : shown indented j1_job.script.program (first ∷ first ∷ first ∷ first ∷ []) ≡ page ∷ []
unfolding shown statement_at template_at plugged closed ◌⋈◌
shows = refl

-- Root 1; template 2 in gap 0; gap 1 open. Closed.
abbrev graph : Summary
graph = closed_summary (held says_claim (claim (root 1) ∷ claim (edge 1 0 2) ∷ claim (gap_from 1 1) ∷ []))

-- Blank text derives itself, and nothing else: it is not left out.
pub stays_alone : {φ : Items} → ItemDerives indented graph 1 blank φ → φ ≡ one blank
stays_alone blank_stays = refl

blank_taken : ItemDerives indented graph 1 (gap 0) (one blank)
unfolding template_at held same_code ◌⋈◌
blank_taken = gap_filled 2 refl (item_then blank_stays nothing refl)

nothing_taken : ItemDerives indented graph 1 (gap 1) none
unfolding template_at held same_code
nothing_taken = gap_filled 0 refl nothing

pub page_derived : Language indented graph page
unfolding template_at held same_code ◌⋈◌
page_derived =
    let texts = item_then blank_stays (item_then nothing_taken (item_then text_stays nothing refl) refl) refl in
    let inside = item_then blank_stays (item_then text_stays (item_then blank_taken texts refl) refl) refl in
    (1, (refl, item_then blank_stays (item_then blank_taken (item_then (element_keeps (fixed no_attribute) inside) (item_then blank_stays nothing refl) refl) refl) refl))

-- Element 1, the root, may hold nothing, and must not hold text.
abbrev empty_rule : Rule
empty_rule = record { element = 1; attributes = []; contents = []; clauses = neg (content 0) ∷ [] }

abbrev vocabulary : Vocabulary
vocabulary = record { rules = empty_rule ∷ []; root = 1 }

-- "Not beside the root": neither what stood there in template 1 counts nor what came of the gap.
pub page_alone : RootAlone vocabulary page
unfolding without_blank ◌⋈◌
page_alone = (4, attribute 0 (string 7) ∷ [], more text (one text), refl)

-- Blank text is not taken for a root, no more than nothing is; and it does not make one root of two.
pub blank_not_alone : RootAlone vocabulary (more blank (one blank)) → ⊥
unfolding without_blank
blank_not_alone r = false≢true ((root_alone_iff vocabulary (more blank (one blank))).1 r)

pub empty_not_alone : RootAlone vocabulary none → ⊥
unfolding without_blank
empty_not_alone r = false≢true ((root_alone_iff vocabulary none).1 r)

pub two_not_alone : RootAlone vocabulary (page ⋈ page) → ⊥
unfolding without_blank ◌⋈◌
two_not_alone r = false≢true ((root_alone_iff vocabulary (page ⋈ page)).1 r)

-- The texts of element 1 are two contents, neither one nor five; blank text alone is none.
pub words : (word contents ≡ 0 ∷ 0 ∷ []) × (word (one blank) ≡ [])
unfolding word
words = (refl, refl)

-- "Not in the allowed contents, not in a clause": around template 2, plugged into it, an element that must be empty is right.
pub still_empty : ElementRight vocabulary 1 [] (plugged 0 (template_at indented 2) (one (gap 0)))
unfolding Meets word rule_of template_at plugged
still_empty = record {
  rule = empty_rule;
  declares = refl;
  attributes = λ a i. absurd (Memᴰ.not-nil i);
  contents = λ c i. absurd (Memᴰ.not-nil i);
  clauses = λ ψ i. ⊎_elim
      (λ q. subst (λ ψ. Meets [] (one blank) ψ) (sym q) (λ there. omega (arith, there.1)))
      (λ j. absurd (Memᴰ.not-nil j))
      (Memᴰ.cases_cons i);
}
