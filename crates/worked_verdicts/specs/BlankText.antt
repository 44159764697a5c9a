-- Jobs with blank text (document 02, F-2), in a table like that of the marked cases: J1 with other templates, in the last row with another
-- program too.
use Rattle.std.specs.Prelude.{List, [], ◌∷◌}
use Rattle.verdicts.specs.Printed.{prints}
use Rattle.worked_examples.specs.J1.{templates_part, program_part, proposal_part}
use Rattle.worked_verdicts.specs.Table.{Row, exchanged, variant}

abbrev pub blank_table : List Row
blank_table =
    -- Blank text beside the root, in element 1, which may hold no text, and in and around element 2, which is plugged in: accepted as J1 is.
    record {
      bytes = variant (
          0x20 ∷ 0x29 ∷ 0x23 ∷ 0x01 ∷ 0x29 ∷ 0x29 ∷ 0x22 ∷ 0x00 ∷ 0x29 ∷ 0x26 ∷ 0x29 ∷ 0x27
          ∷ 0x20 ∷ 0x29 ∷ 0x23 ∷ 0x02 ∷ 0x21 ∷ 0x29 ∷ 0x26 ∷ 0x29 ∷ 0x27 ∷ 0x2F ∷ []) program_part proposal_part;
      numbers = prints 0 0 0 0;
    }
    -- The doubled gap with `29` before element 1 and between the gaps: the offset of its `23` moves from 20 to 21, and nothing else.
    ∷ record {
      bytes = variant (exchanged (0x23 ∷ 0x01 ∷ 0x22 ∷ 0x00 ∷ []) (0x29 ∷ 0x23 ∷ 0x01 ∷ 0x22 ∷ 0x00 ∷ 0x29 ∷ 0x22 ∷ 0x00 ∷ []) templates_part) program_part proposal_part;
      numbers = prints 15 3 0 21;
    }
    -- Template 2 of blank text alone, where element 1 must hold an element 2.
    ∷ record {
      bytes = variant (exchanged (0x23 ∷ 0x02 ∷ 0x21 ∷ 0x26 ∷ []) (0x29 ∷ []) templates_part) program_part proposal_part;
      numbers = prints 15 3 1 20;
    }
    -- The same shown by itself: a page of blank text alone.
    ∷ record {
      bytes = variant (exchanged (0x23 ∷ 0x02 ∷ 0x21 ∷ 0x26 ∷ []) (0x29 ∷ []) templates_part) (exchanged (0x37 ∷ 0x00 ∷ []) (0x37 ∷ 0x01 ∷ []) program_part) proposal_part;
      numbers = prints 11 3 2 0;
    }
    ∷ []
