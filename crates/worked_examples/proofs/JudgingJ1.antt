-- Pages judged under J1's vocabulary, by computation: the page that J1 shows, one wrong in each way, and pages with blank text.
use Prim.Native.Nat.{ℕ}
use mathlib.Core.Path.{◌≡◌, refl, subst}
use mathlib.Core.List.{List, [], ◌∷◌}
use Rattle.sets.specs.Sets.{member}
use Rattle.verdicts.specs.declared.Numbers.{Numbers}
use Rattle.verdicts.specs.Printed.{prints, numbers_of}
use Rattle.commands.specs.Commands.{command}
use Rattle.vocabularies.specs.Vocabulary.{rule_of}
use Rattle.vocabularies.specs.Facts.{with_facts}
use Rattle.pages.specs.Items.{without_blank}
use Rattle.pages.specs.PageVerdict.{PageVerdict}
use Rattle.judging.specs.Inner.Judgement.{page_verdict}
use Rattle.agreement.proofs.Verdicts.{page_verdict_is}
use Rattle.worked_examples.specs.J1.{vocabulary_part}

record Judged : Type 0 where
  page : List ℕ
  numbers : Numbers

abbrev pages : List Judged
pages =
    record { page = 0x23 ∷ 0x01 ∷ 0x23 ∷ 0x02 ∷ 0x21 ∷ 0x26 ∷ 0x26 ∷ 0x27 ∷ []; numbers = prints 0 0 0 0 }
    ∷ record { page = 0x23 ∷ 0x01 ∷ 0x26 ∷ 0x27 ∷ []; numbers = prints 15 0 1 0 }
    ∷ record { page = 0x23 ∷ 0x01 ∷ 0x23 ∷ 0x02 ∷ 0x26 ∷ 0x23 ∷ 0x02 ∷ 0x26 ∷ 0x26 ∷ 0x27 ∷ []; numbers = prints 15 0 0 0 }
    -- An attribute that is not allowed is told, though the same clause fails as without it.
    ∷ record { page = 0x23 ∷ 0x01 ∷ 0x24 ∷ 0x01 ∷ 0x05 ∷ 0x26 ∷ 0x27 ∷ []; numbers = prints 12 0 0 0 }
    ∷ record { page = 0x23 ∷ 0x01 ∷ 0x23 ∷ 0x02 ∷ 0x23 ∷ 0x02 ∷ 0x26 ∷ 0x26 ∷ 0x26 ∷ 0x27 ∷ []; numbers = prints 14 0 0 2 }
    ∷ record { page = 0x23 ∷ 0x02 ∷ 0x26 ∷ 0x27 ∷ []; numbers = prints 11 0 0 0 }
    ∷ record { page = 0x27 ∷ 0x27 ∷ []; numbers = prints 3 1 1 0 }
    ∷ record { page = 0x23 ∷ 0x03 ∷ 0x26 ∷ 0x27 ∷ []; numbers = prints 8 0 1 0 }
    -- `29` beside the root on either side and in element 1, which may hold no text; in element 2, which may, it only reads.
    ∷ record { page = 0x29 ∷ 0x23 ∷ 0x01 ∷ 0x29 ∷ 0x23 ∷ 0x02 ∷ 0x29 ∷ 0x26 ∷ 0x29 ∷ 0x26 ∷ 0x29 ∷ 0x27 ∷ []; numbers = prints 0 0 0 0 }
    -- It does not stand for the element 2 that element 1 must hold; the place is that of the `23` after it.
    ∷ record { page = 0x29 ∷ 0x23 ∷ 0x01 ∷ 0x29 ∷ 0x26 ∷ 0x27 ∷ []; numbers = prints 15 0 1 1 }
    -- "A readable page of blank text alone gets 11", as an empty page does; so does text beside the root, with `29` between.
    ∷ record { page = 0x29 ∷ 0x29 ∷ 0x27 ∷ []; numbers = prints 11 0 0 0 }
    ∷ record { page = 0x27 ∷ []; numbers = prints 11 0 0 0 }
    ∷ record { page = 0x23 ∷ 0x01 ∷ 0x26 ∷ 0x29 ∷ 0x21 ∷ 0x27 ∷ []; numbers = prints 11 0 0 0 }
    -- Not readable: `24` after `29`.
    ∷ record { page = 0x23 ∷ 0x01 ∷ 0x24 ∷ 0x00 ∷ 0x05 ∷ 0x29 ∷ 0x24 ∷ 0x01 ∷ 0x05 ∷ 0x26 ∷ 0x27 ∷ []; numbers = prints 3 6 1 0 }
    ∷ []

-- What the judgement computes is the page's verdict.
computed : {v p : List ℕ} {n : Numbers} → numbers_of (page_verdict v p) ≡ n → PageVerdict v p n
computed {v} {p} e = subst (PageVerdict v p) e (page_verdict_is v p)

abbrev AllJudged : List Judged → Type 0
AllJudged [] = Unit {0}
AllJudged (j ∷ js) = PageVerdict vocabulary_part j.page j.numbers × AllJudged js

pub verdicts : AllJudged pages
unfolding page_verdict command rule_of with_facts member without_blank
verdicts = (computed refl, (computed refl, (computed refl, (computed refl, (computed refl, (computed refl, (computed refl, (computed refl, (computed refl, (computed refl, (computed refl, (computed refl, (computed refl, (computed refl, tt))))))))))))))
