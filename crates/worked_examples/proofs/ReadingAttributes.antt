-- A job with attributes reads as the trees one expects, and variants of it are refused where document 01 says, by computation. Variants
-- of J1 stand in the table of `worked_verdicts`.
use Prim.Native.Nat.{ℕ, ◌+◌}
use mathlib.Core.Path.{◌≡◌, refl}
use mathlib.Core.List.{List, [], ◌∷◌, ◌++◌}
use lib.ListN.{take, drop}
use Rattle.verdicts.specs.declared.Form.{Form}
use Rattle.verdicts.specs.declared.Form.TheVariants.{Ended, NotAllowed, OutOfRange, NotRising, Missing}
use Rattle.commands.specs.Commands.{command}
use Rattle.commands.specs.Reading.{whole, refused}
use Rattle.vocabularies.specs.Vocabulary.{disj, neg, attr, value, Rule, rule_of}
use Rattle.vocabularies.specs.Facts.{with_facts}
use Rattle.pages.specs.Items.{string, open_gap, text, gap, element, Items, none, more, one}
use Rattle.programs.specs.Program.{template_variable, string_variable, set_template, set_string, any_string, plug_string, show, step}
use Rattle.summaries.specs.Proposal.{root, gap_from, attribute_gap_from, Holding, claim, any_at, one_string, Head}
use Rattle.summaries.specs.Proposal as Proposal
use Rattle.jobs.specs.Job.{Job, job}
use Rattle.worked_examples.specs.AttributeJob.{attribute_job}
use Rattle.worked_examples.proofs.Runs.{attribute}

-- "Bit i of m, counted from the lowest": strings 0, 7 and 63. The bytes stand "highest first".
abbrev pub strings_0_7_63 : ℕ
strings_0_7_63 = 0x8000000000000081

abbrev pub outer_rule : Rule
outer_rule = record {
  element = 1;
  attributes = 0 ∷ 3 ∷ [];
  contents = 0 ∷ 2 ∷ [];
  clauses = attr 0 ∷ disj (value 3 strings_0_7_63) (neg (value 3 strings_0_7_63)) ∷ [];
}

abbrev pub inner_rule : Rule
inner_rule = record { element = 2; attributes = 0 ∷ []; contents = []; clauses = value 0 0x200 ∷ [] }

-- Attributes stand in the order of the bytes, a fixed string and a gap alike; an element's mark is the offset of its `23`.
abbrev template : Items
template = one (element 1 54 (attribute 0 (string 7) ∷ attribute 3 (open_gap 5) ∷ [])
    (more text (more (element 2 63 (attribute 0 (open_gap 4) ∷ []) none) (one (gap 2)))))

abbrev template_head : ℕ → List Holding → Head
template_head p hs = record { point = p; variable = template_variable 0; holdings = hs }

-- `40 p 04` heads string variable 0.
abbrev string_head : ℕ → Holding → Head
string_head p h = record { point = p; variable = string_variable 0; holdings = h ∷ [] }

abbrev filled_once : List Holding
filled_once = claim (root 1) ∷ claim (Proposal.string 1 4 9) ∷ claim (gap_from 2 1) ∷ claim (attribute_gap_from 5 1) ∷ []

abbrev pub attribute_tree : Job
attribute_tree = record {
  script = record {
    vocabulary = record { rules = outer_rule ∷ inner_rule ∷ []; root = 1 };
    templates = template ∷ [];
    program =
        step (set_string 0 9) 1 1
        ∷ step (set_template 0 1) 2 2
        ∷ step (plug_string 0 0 4 0) 3 3
        ∷ step (any_string 0) 4 4
        ∷ step (plug_string 0 0 5 0) 5 5
        ∷ step (show 0) 5 5
        ∷ [];
  };
  proposal =
      template_head 0 (claim (root 0) ∷ [])
      ∷ string_head 0 (one_string 0)
      ∷ template_head 1 (claim (root 0) ∷ [])
      ∷ string_head 1 (one_string 9)
      ∷ template_head 2 (claim (root 1) ∷ claim (gap_from 2 1) ∷ claim (attribute_gap_from 4 1) ∷ claim (attribute_gap_from 5 1) ∷ [])
      ∷ string_head 2 (one_string 9)
      ∷ template_head 3 filled_once
      ∷ string_head 3 (one_string 9)
      ∷ template_head 4 filled_once
      ∷ string_head 4 Proposal.any_string
      ∷ template_head 5 (claim (root 1) ∷ claim (Proposal.string 1 4 9) ∷ any_at 1 5 ∷ claim (gap_from 2 1) ∷ [])
      ∷ string_head 5 Proposal.any_string
      ∷ [];
}

-- Read whole, to the last byte. m read lowest byte first, v 4 read as template variable 4, or `44` read as `43` would give other trees.
pub reads : job attribute_job ≡ whole attribute_tree 205
unfolding job command rule_of with_facts
reads = refl

-- A variant that cannot be read: its bytes, the refusal, and the offset.
pub record Unreadable : Type 0 where
  pub bytes : List ℕ
  pub form : Form
  pub at : ℕ

-- Bytes with new ones in place of the n from an offset on.
abbrev pub edited : ℕ → ℕ → List ℕ → List ℕ → List ℕ
edited at n new s = take at s ++ new ++ drop (at + n) s

abbrev variants : List Unreadable
variants =
    -- "m not zero": `17 03` with no bit set is out of range at its first byte, and not a set that no string meets.
    record { bytes = edited 17 8 (0 ∷ 0 ∷ 0 ∷ 0 ∷ 0 ∷ 0 ∷ 0 ∷ 0 ∷ []) attribute_job; form = OutOfRange; at = 15 }
    -- "The job ends in it": cut inside m, the offset is that of `17`; the length is for a job that ends before a command.
    ∷ record { bytes = take 20 attribute_job; form = Ended; at = 15 }
    -- `24 00 40`: string 64 is none of 0 to 63; other strings exist, but no template has one.
    ∷ record { bytes = edited 58 1 (0x40 ∷ []) attribute_job; form = OutOfRange; at = 56 }
    -- "An attribute twice in one element": `24 00 07`, then `25 00 05`. The second is refused, though its command is another.
    ∷ record { bytes = edited 60 1 (0x00 ∷ []) attribute_job; form = NotRising; at = 59 }
    -- "Straight after `23`": text before it, and `24` is not allowed there.
    ∷ record { bytes = edited 56 0 (0x21 ∷ []) attribute_job; form = NotAllowed; at = 57 }
    -- So it is with blank text: `29` ends the attributes, and a `24` after it is not allowed.
    ∷ record { bytes = edited 59 3 (0x29 ∷ 0x24 ∷ 0x03 ∷ 0x05 ∷ []) attribute_job; form = NotAllowed; at = 60 }
    -- `28 00` stands in pages that are judged, and not in templates.
    ∷ record { bytes = edited 56 3 (0x28 ∷ 0x00 ∷ []) attribute_job; form = NotAllowed; at = 56 }
    -- "Next points are tested for 8 at `3F`, A at the earliest statement": of two statements with point 6, at the first one's offset.
    ∷ record { bytes = edited 100 1 (0x06 ∷ []) (edited 77 1 (0x06 ∷ []) attribute_job); form = Missing; at = 74 }
    -- So an operand out of range in a later statement, a show of variable 4, comes before a next point that is not there.
    ∷ record { bytes = edited 103 1 (0x04 ∷ []) (edited 77 1 (0x06 ∷ []) attribute_job); form = OutOfRange; at = 102 }
    -- `43 02 08 09`, 4 before 8: attribute gap 8 is out of range, and there is no template 2 either.
    ∷ record { bytes = edited 191 2 (0x02 ∷ 0x08 ∷ []) attribute_job; form = OutOfRange; at = 190 }
    -- "Items rise strictly by command, then operands": `44 01 05` before `43 01 04 09`, though by gap they rise the other way.
    ∷ record { bytes = edited 190 7 (0x44 ∷ 0x01 ∷ 0x05 ∷ 0x43 ∷ 0x01 ∷ 0x04 ∷ 0x09 ∷ []) attribute_job; form = NotRising; at = 193 }
    -- The same with template 2, 8 before 5.
    ∷ record { bytes = edited 190 7 (0x44 ∷ 0x01 ∷ 0x05 ∷ 0x43 ∷ 0x02 ∷ 0x04 ∷ 0x09 ∷ []) attribute_job; form = Missing; at = 193 }
    -- "Under v 4–7": `47` under variable 3, a template variable, is not allowed.
    ∷ record { bytes = edited 124 1 (0x03 ∷ []) attribute_job; form = NotAllowed; at = 125 }
    -- One string after any string: `47 09` after `48` does not rise.
    ∷ record { bytes = edited 204 0 (0x47 ∷ 0x09 ∷ []) attribute_job; form = NotRising; at = 204 }
    ∷ []

abbrev pub AllRefused : List Unreadable → Type 0
AllRefused [] = Unit {0}
AllRefused (u ∷ us) = (job u.bytes ≡ refused u.form u.at) × AllRefused us

pub refusals : AllRefused variants
unfolding job command rule_of with_facts
refusals = (refl, (refl, (refl, (refl, (refl, (refl, (refl, (refl, (refl, (refl, (refl, (refl, (refl, (refl, tt))))))))))))))
