-- Jobs about attributes that can be absent (document 02, F-5), in a table like that of the marked cases. The one template is element 1, with
-- nothing in it.
use Rattle.std.specs.Prelude.{ℕ, List, [], ◌∷◌, ◌++◌}
use Rattle.verdicts.specs.Printed.{prints}
use Rattle.worked_verdicts.specs.Table.{Row}

-- Element 1 has a rule, what stands behind `01 01`, and is the root; the template has attributes; then program and proposal.
abbrev job_of : List ℕ → List ℕ → List ℕ → List ℕ
job_of rule attributes rest =
    (0x01 ∷ 0x01 ∷ rule) ++ (0x05 ∷ 0x01 ∷ 0x20 ∷ 0x23 ∷ 0x01 ∷ attributes) ++ (0x26 ∷ 0x27 ∷ 0x2F ∷ rest)

-- x0 is template 1, then it is shown; `held` is what the proposal has of x0 at points 1 and 2 besides the root.
abbrev shown : List ℕ → List ℕ → List ℕ → List ℕ
shown rule attributes held =
    job_of rule attributes (
    (0x31 ∷ 0x00 ∷ 0x01 ∷ 0x01 ∷ 0x01 ∷ 0x37 ∷ 0x00 ∷ 0x02 ∷ 0x02 ∷ 0x38 ∷ 0x3F ∷ 0x40 ∷ 0x00 ∷ 0x00 ∷ 0x41 ∷ 0x00 ∷ 0x40 ∷ 0x01 ∷ 0x00 ∷ 0x41 ∷ 0x01 ∷ held)
    ++ (0x40 ∷ 0x02 ∷ 0x00 ∷ 0x41 ∷ 0x01 ∷ held) ++ (0x4F ∷ []))

-- `38` at point 0; point 1, which no run reaches, shows x0.
abbrev unreached : List ℕ → List ℕ → List ℕ → List ℕ
unreached rule attributes held =
    job_of rule attributes (
    (0x38 ∷ 0x37 ∷ 0x00 ∷ 0x01 ∷ 0x01 ∷ 0x3F ∷ 0x40 ∷ 0x00 ∷ 0x00 ∷ 0x41 ∷ 0x00 ∷ 0x40 ∷ 0x01 ∷ 0x00 ∷ 0x41 ∷ 0x01 ∷ held) ++ (0x4F ∷ []))

-- Attribute 0 with attribute gap 0.
abbrev gapped : List ℕ
gapped = 0x25 ∷ 0x00 ∷ 0x00 ∷ []

-- Template 1 is an origin of attribute gap 0; it holds string 5, or string 0, there as well.
abbrev opened : List ℕ
opened = 0x46 ∷ 0x00 ∷ 0x01 ∷ []

abbrev open_or : ℕ → List ℕ
open_or s = 0x43 ∷ 0x01 ∷ 0x00 ∷ s ∷ opened

-- `17 00 m` for the set of string 1 alone.
abbrev one_string : List ℕ
one_string = 0x17 ∷ 0x00 ∷ 0x00 ∷ 0x00 ∷ 0x00 ∷ 0x00 ∷ 0x00 ∷ 0x00 ∷ 0x00 ∷ 0x02 ∷ []

abbrev pub absent_table : List Row
absent_table =
    -- "An attribute that can be absent must still be allowed, unless no string reaches it": attribute 0 is not allowed; no string reaches it.
    record { bytes = shown [] gapped opened; numbers = prints 0 0 0 0 }
    -- String 5 reaches it.
    ∷ record { bytes = shown [] gapped (open_or 5); numbers = prints 12 1 1 5 }
    -- Allowed by `02 00`, with string 5 and without.
    ∷ record { bytes = shown (0x02 ∷ 0x00 ∷ []) gapped (open_or 5); numbers = prints 0 0 0 0 }
    -- Absence makes `17` true; string 0 would not be of the set.
    ∷ record { bytes = shown (0x02 ∷ 0x00 ∷ 0x04 ∷ one_string) gapped opened; numbers = prints 0 0 0 0 }
    -- String 0 counts where the summary holds it.
    ∷ record { bytes = shown (0x02 ∷ 0x00 ∷ 0x04 ∷ one_string) gapped (open_or 0); numbers = prints 15 1 0 18 }
    -- Absence makes `14` false, though string 5 reaches the attribute.
    ∷ record { bytes = shown (0x02 ∷ 0x00 ∷ 0x04 ∷ 0x14 ∷ 0x00 ∷ []) gapped (open_or 5); numbers = prints 15 1 0 10 }
    -- No page has the attribute: `12 14 00` is met.
    ∷ record { bytes = shown (0x02 ∷ 0x00 ∷ 0x04 ∷ 0x12 ∷ 0x14 ∷ 0x00 ∷ []) gapped opened; numbers = prints 0 0 0 0 }
    -- `14` or `17`, together: string 5, which is not of the set, is carried; absence meets `17`. To test the facts one at a time is wrong.
    ∷ record { bytes = shown (0x02 ∷ 0x00 ∷ 0x04 ∷ 0x11 ∷ 0x14 ∷ 0x00 ∷ one_string) gapped (open_or 5); numbers = prints 0 0 0 0 }
    -- Attributes 0 and 1 on one gap; the clause says that both are there or neither. Each is absent by itself.
    ∷ record {
      bytes = shown (
          0x02 ∷ 0x00 ∷ 0x02 ∷ 0x01 ∷ 0x04 ∷ 0x11 ∷ 0x10 ∷ 0x14 ∷ 0x00 ∷ 0x14 ∷ 0x01 ∷ 0x10 ∷ 0x12 ∷ 0x14 ∷ 0x00 ∷ 0x12 ∷ 0x14 ∷ 0x01 ∷ [])
          (0x25 ∷ 0x00 ∷ 0x00 ∷ 0x25 ∷ 0x01 ∷ 0x00 ∷ []) (open_or 5);
      numbers = prints 15 1 0 23;
    }
    -- The clause `12 13` fails for every element 1. With neither string nor absence to take no page comes, and none is wrong.
    ∷ record { bytes = unreached (0x04 ∷ 0x12 ∷ 0x13 ∷ []) gapped []; numbers = prints 0 0 0 0 }
    -- Attribute 0 can be absent, attribute 1 on gap 1 has nothing to take: no page comes.
    ∷ record { bytes = unreached (0x04 ∷ 0x12 ∷ 0x13 ∷ []) (0x25 ∷ 0x00 ∷ 0x00 ∷ 0x25 ∷ 0x01 ∷ 0x01 ∷ []) opened; numbers = prints 0 0 0 0 }
    -- Absence alone is something to take.
    ∷ record { bytes = unreached (0x04 ∷ 0x12 ∷ 0x13 ∷ []) gapped opened; numbers = prints 15 1 0 8 }
    -- A show in a frame closes likewise: the frame's attribute gap is open, and `14` fails.
    ∷ record {
      bytes = job_of (0x02 ∷ 0x00 ∷ 0x04 ∷ 0x14 ∷ 0x00 ∷ []) gapped (
          0x39 ∷ 0x00 ∷ 0x01 ∷ 0x00 ∷ 0x01 ∷ 0x01 ∷ 0x38 ∷ 0x3F ∷ 0x40 ∷ 0x00 ∷ 0x00 ∷ 0x41 ∷ 0x00 ∷ 0x40 ∷ 0x01 ∷ 0x00 ∷ 0x41 ∷ 0x00 ∷ 0x4F ∷ []);
      numbers = prints 15 0 0 10;
    }
    -- `14 00` to `14 08`, nine facts: 7, at the clause's `04`.
    ∷ record {
      bytes = shown (
          0x04 ∷ 0x11 ∷ 0x13 ∷ 0x10 ∷ 0x14 ∷ 0x00 ∷ 0x10 ∷ 0x14 ∷ 0x01 ∷ 0x10 ∷ 0x14 ∷ 0x02 ∷ 0x10 ∷ 0x14 ∷ 0x03 ∷ 0x10 ∷ 0x14 ∷ 0x04
          ∷ 0x10 ∷ 0x14 ∷ 0x05 ∷ 0x10 ∷ 0x14 ∷ 0x06 ∷ 0x10 ∷ 0x14 ∷ 0x07 ∷ 0x14 ∷ 0x08 ∷ []) [] [];
      numbers = prints 7 2 0 0;
    }
    ∷ []
