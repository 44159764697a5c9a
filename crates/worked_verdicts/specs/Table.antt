-- The marked cases of document 01, "Job J1 and its variants", as a table: the bytes of a job, and the four numbers that document 01
-- prints for it, two of them as document 02, F-6, changes them. A variant is J1 cut, with a byte more, or with some bytes of its parts
-- exchanged. One theorem, `rows_hold` in proofs/, is for all rows.
use Rattle.std.specs.Prelude.{ℕ, List, [], ◌∷◌, ◌++◌, Bool, true, false, cond, ◌&&◌, length, take, drop, eqb}
use Rattle.verdicts.specs.declared.Numbers.{Numbers}
use Rattle.verdicts.specs.Printed.{prints}
use Rattle.verdicts.specs.TheVerdict.{TheVerdict}
use Rattle.jobs.specs.JobVerdict.{JobVerdict}
use Rattle.worked_examples.specs.J1.{vocabulary_part, templates_part, program_part, proposal_part, j1}

pub record Row : Type 0 where
  pub bytes : List ℕ
  pub numbers : Numbers

-- What a row claims: these bytes get these numbers, and no others.
abbrev pub RowHolds : Row → Type 0
RowHolds r = TheVerdict (JobVerdict r.bytes) r.numbers

abbrev pub begins_with : List ℕ → List ℕ → Bool
begins_with [] s = true
begins_with (a ∷ old) [] = false
begins_with (a ∷ old) (b ∷ s) = eqb a b && begins_with old s

-- Bytes with new ones in place of the first `old` that stands in them.
abbrev pub exchanged : List ℕ → List ℕ → List ℕ → List ℕ
exchanged old new [] = []
exchanged old new (a ∷ s) = cond (begins_with old (a ∷ s)) (new ++ drop (length old) (a ∷ s)) (a ∷ exchanged old new s)

-- A proposal with new items under the head of variable 0 at a point, where `old` ones stand.
abbrev pub with_items : ℕ → List ℕ → List ℕ → List ℕ → List ℕ
with_items p old new = exchanged (0x40 ∷ p ∷ 0x00 ∷ old) (0x40 ∷ p ∷ 0x00 ∷ new)

-- What J1's proposal has of variable 0 at points 3 and 4; and the proposal with new items there.
abbrev pub shown_items : List ℕ
shown_items = 0x41 ∷ 0x01 ∷ 0x42 ∷ 0x01 ∷ 0x00 ∷ 0x02 ∷ []

abbrev pub with_shown : List ℕ → List ℕ
with_shown new = with_items 3 shown_items new (with_items 4 shown_items new proposal_part)

-- J1's templates and a third one.
abbrev pub three_templates : List ℕ
three_templates = exchanged (0x2F ∷ []) (0x20 ∷ 0x22 ∷ 0x01 ∷ 0x27 ∷ 0x2F ∷ []) templates_part

-- J1 with these templates, this program and this proposal.
abbrev pub variant : List ℕ → List ℕ → List ℕ → List ℕ
variant templates program proposal = vocabulary_part ++ templates ++ program ++ proposal

abbrev pub table : List Row
table =
    -- J1 prints `0 0 0 0`.
    record { bytes = j1; numbers = prints 0 0 0 0 }
    -- Empty job: 2 0 0 0.
    ∷ record { bytes = []; numbers = prints 2 0 0 0 }
    -- J1 without `4F`: 2 120 0 0.
    ∷ record { bytes = take 120 j1; numbers = prints 2 120 0 0 }
    -- A byte more, here `00`: 3 121 0 0.
    ∷ record { bytes = j1 ++ (0x00 ∷ []); numbers = prints 3 121 0 0 }
    -- Without `41 00` under `40 00 00`: 9 0 0 0.
    ∷ record {
      bytes = variant templates_part program_part (with_items 0 (0x41 ∷ 0x00 ∷ []) [] proposal_part);
      numbers = prints 9 0 0 0;
    }
    -- Without `45 00 01` at point 2: 10 1 2 0.
    ∷ record {
      bytes = variant templates_part program_part (with_items 2 (0x41 ∷ 0x01 ∷ 0x45 ∷ 0x00 ∷ 0x01 ∷ []) (0x41 ∷ 0x01 ∷ []) proposal_part);
      numbers = prints 10 1 2 0;
    }
    -- Without the edge at point 3: 10 2 3 0.
    ∷ record {
      bytes = variant templates_part program_part (with_items 3 shown_items (0x41 ∷ 0x01 ∷ []) proposal_part);
      numbers = prints 10 2 3 0;
    }
    -- Point 2 made `30 00 00 03 03`, `45 00 01` added to variable 0 at points 3 and 4: 15 3 1 20 (document 02), since the gap may stay empty.
    ∷ record {
      bytes = variant templates_part
          (exchanged (0x35 ∷ 0x00 ∷ 0x00 ∷ 0x00 ∷ 0x01 ∷ 0x03 ∷ 0x03 ∷ []) (0x30 ∷ 0x00 ∷ 0x00 ∷ 0x03 ∷ 0x03 ∷ []) program_part)
          (with_shown (0x41 ∷ 0x01 ∷ 0x42 ∷ 0x01 ∷ 0x00 ∷ 0x02 ∷ 0x45 ∷ 0x00 ∷ 0x01 ∷ []));
      numbers = prints 15 3 1 20;
    }
    -- Template 1 with `22 00` twice: 15 3 0 20 (document 02).
    ∷ record {
      bytes = variant (exchanged (0x22 ∷ 0x00 ∷ []) (0x22 ∷ 0x00 ∷ 0x22 ∷ 0x00 ∷ []) templates_part) program_part proposal_part;
      numbers = prints 15 3 0 20;
    }
    -- Show of variable 1: 11 3 2 0.
    ∷ record {
      bytes = variant templates_part (exchanged (0x37 ∷ 0x00 ∷ []) (0x37 ∷ 0x01 ∷ []) program_part) proposal_part;
      numbers = prints 11 3 2 0;
    }
    -- A third template `20 22 01 27` and `41 03` added to variable 0 at points 3 and 4: accepted, no page comes of it.
    ∷ record {
      bytes = variant three_templates program_part (with_shown (0x41 ∷ 0x01 ∷ 0x41 ∷ 0x03 ∷ 0x42 ∷ 0x01 ∷ 0x00 ∷ 0x02 ∷ []));
      numbers = prints 0 0 0 0;
    }
    -- With `45 01 03` there too: 11 3 3 0.
    ∷ record {
      bytes = variant three_templates program_part (with_shown (0x41 ∷ 0x01 ∷ 0x41 ∷ 0x03 ∷ 0x42 ∷ 0x01 ∷ 0x00 ∷ 0x02 ∷ 0x45 ∷ 0x01 ∷ 0x03 ∷ []));
      numbers = prints 11 3 3 0;
    }
    ∷ []
