-- Jobs about what a wrong element breaks (document 02, F-6), in a table like that of the marked cases. But where a row says otherwise the
-- vocabulary is J1's: element 1, the root, may have attribute 0 and hold elements 2; clause 0 refuses two of them, clause 1 asks for one;
-- element 2 may hold text.
use Rattle.std.specs.Prelude.{ℕ, List, [], ◌∷◌, ◌++◌}
use Rattle.verdicts.specs.Printed.{prints}
use Rattle.worked_examples.specs.J1.{vocabulary_part}
use Rattle.worked_verdicts.specs.Table.{Row, exchanged}

-- `38` at point 0; point 1, which no run reaches, shows x0, and the proposal has `held` of x0 there.
abbrev shown : List ℕ → List ℕ → List ℕ → List ℕ
shown vocabulary templates held =
    vocabulary ++ templates
    ++ (0x2F ∷ 0x38 ∷ 0x37 ∷ 0x00 ∷ 0x01 ∷ 0x01 ∷ 0x3F ∷ 0x40 ∷ 0x00 ∷ 0x00 ∷ 0x41 ∷ 0x00 ∷ 0x40 ∷ 0x01 ∷ 0x00 ∷ held) ++ (0x4F ∷ [])

abbrev template : List ℕ → List ℕ
template items = (0x20 ∷ items) ++ (0x27 ∷ [])

-- Template 1 is element 1 around gap 0; or the same with attribute 1, which is not allowed, on attribute gap 0.
abbrev plain : List ℕ
plain = template (0x23 ∷ 0x01 ∷ 0x22 ∷ 0x00 ∷ 0x26 ∷ [])

abbrev gapped : List ℕ
gapped = template (0x23 ∷ 0x01 ∷ 0x25 ∷ 0x01 ∷ 0x00 ∷ 0x22 ∷ 0x00 ∷ 0x26 ∷ [])

-- Element 2 with nothing in it.
abbrev two : List ℕ
two = 0x23 ∷ 0x02 ∷ 0x26 ∷ []

-- J1's vocabulary, but element 2 has a clause 0, `12 13`, which always fails.
abbrev two_fails : List ℕ
two_fails = exchanged (0x03 ∷ 0x00 ∷ []) (0x03 ∷ 0x00 ∷ 0x04 ∷ 0x12 ∷ 0x13 ∷ []) vocabulary_part

-- Template 1 is the root, and gap 0 takes template 2; or it may stay empty as well.
abbrev filled : List ℕ
filled = 0x41 ∷ 0x01 ∷ 0x42 ∷ 0x01 ∷ 0x00 ∷ 0x02 ∷ []

abbrev filled_or_not : List ℕ
filled_or_not = filled ++ (0x45 ∷ 0x00 ∷ 0x01 ∷ [])

abbrev pub breach_table : List Row
breach_table =
    -- Clause 0 made `14 01`: it fails where attribute 1 is absent, and with string 5 the attribute is carried. 12 comes first.
    record {
      bytes = shown (exchanged (0x16 ∷ 0x02 ∷ 0x02 ∷ []) (0x14 ∷ 0x01 ∷ []) vocabulary_part) (gapped ++ template two)
          (filled ++ (0x43 ∷ 0x01 ∷ 0x00 ∷ 0x05 ∷ 0x46 ∷ 0x00 ∷ 0x01 ∷ []));
      numbers = prints 12 1 1 19;
    }
    -- Beside an element 2 the gap takes another, and clause 0 fails; or it takes text, which is not allowed. 14 comes first.
    ∷ record {
      bytes = shown vocabulary_part (template (0x23 ∷ 0x01 ∷ 0x23 ∷ 0x02 ∷ 0x26 ∷ 0x22 ∷ 0x00 ∷ 0x26 ∷ []) ++ template two ++ template (0x21 ∷ []))
          (filled ++ (0x42 ∷ 0x01 ∷ 0x00 ∷ 0x03 ∷ []));
      numbers = prints 14 1 1 20;
    }
    -- One page has the attribute, another the text.
    ∷ record {
      bytes = shown vocabulary_part (gapped ++ template two ++ template (0x21 ∷ []))
          (filled ++ (0x42 ∷ 0x01 ∷ 0x00 ∷ 0x03 ∷ 0x43 ∷ 0x01 ∷ 0x00 ∷ 0x05 ∷ 0x46 ∷ 0x00 ∷ 0x01 ∷ []));
      numbers = prints 12 1 1 20;
    }
    -- No string reaches the attribute.
    ∷ record {
      bytes = shown vocabulary_part (gapped ++ template (0x21 ∷ [])) (filled ++ (0x46 ∷ 0x00 ∷ 0x01 ∷ []));
      numbers = prints 14 1 1 20;
    }
    -- Two elements 2 or none: the clauses fail in different pages, and the lower one is told.
    ∷ record { bytes = shown vocabulary_part (plain ++ template (two ++ two)) filled_or_not; numbers = prints 15 1 0 20 }
    -- One element 2 or none: clause 1 alone fails.
    ∷ record { bytes = shown vocabulary_part (plain ++ template two) filled_or_not; numbers = prints 15 1 1 20 }
    -- The same, but element 2 has an attribute, which is not allowed: the lower element is told.
    ∷ record { bytes = shown vocabulary_part (plain ++ template (0x23 ∷ 0x02 ∷ 0x24 ∷ 0x00 ∷ 0x05 ∷ 0x26 ∷ [])) filled_or_not; numbers = prints 15 1 1 20 }
    -- One element 2, for which clause 0 fails, or none, and then clause 1 fails for element 1: the lower element is told.
    ∷ record { bytes = shown two_fails (plain ++ template two) filled_or_not; numbers = prints 15 1 1 23 }
    -- One element 2: clause 0 of its rule fails, and no other. The place is 0, though the rule before has two clauses.
    ∷ record { bytes = shown two_fails (plain ++ template two) filled; numbers = prints 15 1 0 30 }
    -- Text beside an element 2 with an attribute: the outer element stands lower.
    ∷ record {
      bytes = shown vocabulary_part (template (0x23 ∷ 0x01 ∷ 0x21 ∷ 0x23 ∷ 0x02 ∷ 0x24 ∷ 0x00 ∷ 0x05 ∷ 0x26 ∷ 0x26 ∷ [])) (0x41 ∷ 0x01 ∷ []);
      numbers = prints 14 1 1 20;
    }
    -- A show more: the first is right, in the second the gap may stay empty.
    ∷ record {
      bytes = exchanged (0x3F ∷ []) (0x37 ∷ 0x00 ∷ 0x02 ∷ 0x02 ∷ 0x3F ∷ [])
          (shown vocabulary_part (plain ++ template two) (filled ++ (0x40 ∷ 0x02 ∷ 0x00 ∷ filled_or_not)));
      numbers = prints 15 2 1 20;
    }
    -- Element 1 has the attribute, and there is a page of element 2 alone: 11 comes before.
    ∷ record {
      bytes = shown vocabulary_part (template (0x23 ∷ 0x01 ∷ 0x24 ∷ 0x01 ∷ 0x05 ∷ 0x26 ∷ []) ++ template two) (0x41 ∷ 0x01 ∷ 0x41 ∷ 0x02 ∷ []);
      numbers = prints 11 1 2 0;
    }
    ∷ []
