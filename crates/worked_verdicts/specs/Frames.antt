-- Jobs with shows in a frame (document 02, F-3), in a table like that of the marked cases. Vocabulary and, but where a row says otherwise,
-- templates are J1's: template 1 is element 1 around gap 0, its `23` at 20; template 2 is element 2 around a text.
use Rattle.std.specs.Prelude.{ℕ, List, [], ◌∷◌, ◌++◌}
use Rattle.verdicts.specs.Printed.{prints}
use Rattle.worked_examples.specs.J1.{templates_part}
use Rattle.worked_examples.specs.FramedJob.{framed_job}
use Rattle.worked_verdicts.specs.Table.{Row, exchanged, variant}

-- J1's templates with other items in the first, and in the second.
abbrev with_first : List ℕ → List ℕ
with_first items = exchanged (0x23 ∷ 0x01 ∷ 0x22 ∷ 0x00 ∷ 0x26 ∷ []) items templates_part

abbrev with_second : List ℕ → List ℕ
with_second items = exchanged (0x23 ∷ 0x02 ∷ 0x21 ∷ 0x26 ∷ []) items templates_part

-- x1 is template 2, then it is shown in place of gap g of template t; `held` is what the proposal has of x1 at points 1 and 2.
abbrev shown_in : List ℕ → ℕ → ℕ → List ℕ → List ℕ
shown_in templates t g held =
    variant templates (0x31 ∷ 0x01 ∷ 0x02 ∷ 0x01 ∷ 0x01 ∷ 0x39 ∷ 0x01 ∷ t ∷ g ∷ 0x02 ∷ 0x02 ∷ 0x38 ∷ 0x3F ∷ [])
    ((0x40 ∷ 0x00 ∷ 0x01 ∷ 0x41 ∷ 0x00 ∷ 0x40 ∷ 0x01 ∷ 0x01 ∷ held) ++ (0x40 ∷ 0x02 ∷ 0x01 ∷ held) ++ (0x4F ∷ []))

-- `38` at point 0; point 1, which no run reaches, shows x0 in place of gap 0 of template 1, and the proposal has `held` of x0 there.
abbrev unreached : List ℕ → List ℕ → List ℕ
unreached templates held =
    variant templates (0x38 ∷ 0x39 ∷ 0x00 ∷ 0x01 ∷ 0x00 ∷ 0x01 ∷ 0x01 ∷ 0x3F ∷ [])
    ((0x40 ∷ 0x00 ∷ 0x00 ∷ 0x41 ∷ 0x00 ∷ 0x40 ∷ 0x01 ∷ 0x00 ∷ held) ++ (0x4F ∷ []))

abbrev pub framed_table : List Row
framed_table =
    -- J1 with its plug and its show made one `39`.
    record { bytes = framed_job; numbers = prints 0 0 0 0 }
    -- Without `41 02` of x1 behind the `39`: covering is as for a show.
    ∷ record { bytes = exchanged (0x40 ∷ 0x03 ∷ 0x01 ∷ 0x41 ∷ 0x02 ∷ []) (0x40 ∷ 0x03 ∷ 0x01 ∷ []) framed_job; numbers = prints 10 2 3 1 }
    -- x1 takes gap 0 of the frame; its gap 1 stays empty.
    ∷ record {
      bytes = shown_in (with_first (0x23 ∷ 0x01 ∷ 0x22 ∷ 0x00 ∷ 0x22 ∷ 0x01 ∷ 0x26 ∷ [])) 1 0 (0x41 ∷ 0x02 ∷ []);
      numbers = prints 0 0 0 0;
    }
    -- The frame has no gap 1: it is shown alone, its gap 0 empty.
    ∷ record { bytes = shown_in templates_part 1 1 (0x41 ∷ 0x02 ∷ []); numbers = prints 15 1 1 20 }
    -- x1 is gap 0 alone, which the show closes after the plug: element 1 is empty.
    ∷ record { bytes = shown_in (with_second (0x22 ∷ 0x00 ∷ [])) 1 0 (0x41 ∷ 0x02 ∷ 0x45 ∷ 0x00 ∷ 0x02 ∷ []); numbers = prints 15 1 1 20 }
    -- x1 is gap 1 alone, which the show closes too.
    ∷ record { bytes = shown_in (with_second (0x22 ∷ 0x01 ∷ [])) 1 0 (0x41 ∷ 0x02 ∷ 0x45 ∷ 0x01 ∷ 0x02 ∷ []); numbers = prints 15 1 1 20 }
    -- x1 is an element 2 around another, and an element 2 may hold text alone: 14 names template 2, and the offset of the outer `23`.
    ∷ record { bytes = shown_in (with_second (0x23 ∷ 0x02 ∷ 0x23 ∷ 0x02 ∷ 0x26 ∷ 0x26 ∷ [])) 1 0 (0x41 ∷ 0x02 ∷ []); numbers = prints 14 1 2 27 }
    -- 11 names the frame, and not x1's template: the frame is gap 0 alone, and the page is element 2.
    ∷ record { bytes = shown_in (with_first (0x22 ∷ 0x00 ∷ [])) 1 0 (0x41 ∷ 0x02 ∷ []); numbers = prints 11 1 1 0 }
    -- Template 0 as the frame: the page is empty.
    ∷ record { bytes = shown_in templates_part 0 0 (0x41 ∷ 0x02 ∷ []); numbers = prints 11 1 0 0 }
    -- x0 has no root, and template 1 has gap 0: no page comes.
    ∷ record { bytes = unreached templates_part []; numbers = prints 0 0 0 0 }
    -- The same, but x0's graph has template 1 as an origin of gap 0; or an edge from that gap to template 0.
    ∷ record { bytes = unreached templates_part (0x45 ∷ 0x00 ∷ 0x01 ∷ []); numbers = prints 15 1 1 20 }
    ∷ record { bytes = unreached templates_part (0x42 ∷ 0x01 ∷ 0x00 ∷ 0x00 ∷ []); numbers = prints 15 1 1 20 }
    -- The frame lacks gap 0, and alone would be right; but the graphs join, and x0's has an edge from gap 1 of template 1 to template 2.
    ∷ record {
      bytes = unreached (with_first (0x23 ∷ 0x01 ∷ 0x23 ∷ 0x02 ∷ 0x21 ∷ 0x26 ∷ 0x22 ∷ 0x01 ∷ 0x26 ∷ [])) (0x41 ∷ 0x02 ∷ 0x42 ∷ 0x01 ∷ 0x01 ∷ 0x02 ∷ []);
      numbers = prints 15 1 0 20;
    }
    ∷ []
