-- Job J1 (document 01) is written as the document prints it, and is in range; so are a job with each command of templates, programs
-- and proposals, a page with each command that a page may hold, and a set of strings.
use Prim.Native.Nat.{ℕ, ◌+◌, ◌^◌}
use native.Mathlib.Omega.{arith}
use mathlib.Core.Path.{◌≡◌, refl}
use mathlib.Core.List.{List, [], ◌∷◌, ◌++◌}
use Rattle.commands.specs.Commands.{command}
use Rattle.commands.specs.Reading.{whole}
use Rattle.vocabularies.specs.Vocabulary.{Vocabulary, value, rule_of}
use Rattle.vocabularies.specs.Facts.{with_facts}
use Rattle.vocabularies.specs.VocabularyReading.{vocabulary_slice}
use Rattle.pages.specs.Items.{Items, string, open_gap, text, blank, gap, element, one, none, more}
use Rattle.pages.specs.ItemReading.{page_slice}
use Rattle.programs.specs.Program.{Act, copy_template, set_template, copy_string, set_string, plug, plug_string, show, show_framed, step, stop, template_variable, string_variable}
use Rattle.summaries.specs.Proposal.{Claim, root, edge, gap_from, attribute_gap_from, Holding, claim, any_at, one_string}
use Rattle.jobs.specs.Job.{Job, job}
use Rattle.worked_examples.specs.J1.{vocabulary_part, j1}
use Rattle.worked_examples.proofs.ReadingJ1.{j1_job, reads}
use Rattle.round_trip.specs.Written.{written_formula, written_vocabulary, written_page, marked}
use Rattle.round_trip.specs.WrittenJob.{written_job}
use Rattle.round_trip.specs.InRange.{Rising, Distinct, connective_depth, NamesInRange, ClausesInRange, RulesInRange, VocabularyInRange, AttributesInRange, element_depth, ItemsInRange, PageInRange}
use Rattle.round_trip.specs.JobInRange.{JobInRange}
use Rattle.round_trip.proofs.Vocabularies.{vocabulary_back}
use Rattle.round_trip.proofs.Pages.{marked_back}
use Rattle.round_trip.proofs.Bytes.{are_bytes_lem}
use Rattle.round_trip.proofs.JobsWritten.{job_written}

j1_written : written_job j1_job ≡ j1
unfolding written_job
j1_written = refl

-- It is read, so it is in range.
j1_in_range : JobInRange j1_job
j1_in_range = (job_written j1 j1_job 121 (are_bytes_lem j1 refl) reads).is_in_range

abbrev j1_vocabulary : Vocabulary
j1_vocabulary = j1_job.script.vocabulary

vocabulary_in_range : VocabularyInRange j1_vocabulary
unfolding Rising Distinct connective_depth NamesInRange ClausesInRange RulesInRange rule_of with_facts
vocabulary_in_range = record { rules = omega arith; once = (refl, (refl, tt)); root = refl }

vocabulary_back_itself : vocabulary_slice vocabulary_part ≡ whole j1_vocabulary 19
unfolding written_vocabulary
vocabulary_back_itself = vocabulary_back j1_vocabulary vocabulary_in_range (omega arith)

-- J1's vocabulary; a template with each command; a program with each statement; items under a template variable and a string variable,
-- and a head with none.
abbrev each_job : Job
each_job = record {
  script = record {
    vocabulary = j1_vocabulary;
    templates = one (element 1 20 (record { name = 0; value = string 5 } ∷ record { name = 1; value = open_gap 7 } ∷ []) (more text (more blank (one (gap 7))))) ∷ [];
    program =
        step (copy_template 0 3) 0 8
        ∷ step (set_template 1 1) 0 8
        ∷ step (copy_string 0 3) 0 8
        ∷ step (set_string 1 63) 0 8
        ∷ step (Act.any_string 2) 0 8
        ∷ step (plug 0 1 7 2) 0 8
        ∷ step (plug_string 0 1 7 3) 0 8
        ∷ step (show 0) 0 8
        ∷ step (show_framed 3 1 7) 0 9
        ∷ stop
        ∷ [];
  };
  proposal =
      record {
        point = 0;
        variable = template_variable 3;
        holdings =
            claim (root 0) ∷ claim (root 1) ∷ claim (edge 1 7 1) ∷ claim (Claim.string 1 7 63) ∷ any_at 1 7 ∷ claim (gap_from 7 1) ∷ claim (attribute_gap_from 7 1) ∷ [];
      }
      ∷ record { point = 0; variable = string_variable 0; holdings = one_string 0 ∷ one_string 63 ∷ Holding.any_string ∷ [] }
      ∷ record { point = 8; variable = template_variable 0; holdings = [] }
      ∷ [];
}

abbrev each_bytes : List ℕ
each_bytes =
    vocabulary_part
    ++ (0x20 ∷ 0x23 ∷ 0x01 ∷ 0x24 ∷ 0x00 ∷ 0x05 ∷ 0x25 ∷ 0x01 ∷ 0x07 ∷ 0x21 ∷ 0x29 ∷ 0x22 ∷ 0x07 ∷ 0x26 ∷ 0x27 ∷ 0x2F ∷ [])
    ++ (0x30 ∷ 0x00 ∷ 0x03 ∷ 0x00 ∷ 0x08 ∷ 0x31 ∷ 0x01 ∷ 0x01 ∷ 0x00 ∷ 0x08 ∷ 0x32 ∷ 0x00 ∷ 0x03 ∷ 0x00 ∷ 0x08 ∷ 0x33 ∷ 0x01 ∷ 0x3F ∷ 0x00 ∷ 0x08 ∷ [])
    ++ (0x34 ∷ 0x02 ∷ 0x00 ∷ 0x08 ∷ 0x35 ∷ 0x00 ∷ 0x01 ∷ 0x07 ∷ 0x02 ∷ 0x00 ∷ 0x08 ∷ 0x36 ∷ 0x00 ∷ 0x01 ∷ 0x07 ∷ 0x03 ∷ 0x00 ∷ 0x08 ∷ [])
    ++ (0x37 ∷ 0x00 ∷ 0x00 ∷ 0x08 ∷ 0x39 ∷ 0x03 ∷ 0x01 ∷ 0x07 ∷ 0x00 ∷ 0x09 ∷ 0x38 ∷ 0x3F ∷ [])
    ++ (0x40 ∷ 0x00 ∷ 0x03 ∷ 0x41 ∷ 0x00 ∷ 0x41 ∷ 0x01 ∷ 0x42 ∷ 0x01 ∷ 0x07 ∷ 0x01 ∷ 0x43 ∷ 0x01 ∷ 0x07 ∷ 0x3F ∷ 0x44 ∷ 0x01 ∷ 0x07 ∷ [])
    ++ (0x45 ∷ 0x07 ∷ 0x01 ∷ 0x46 ∷ 0x07 ∷ 0x01 ∷ 0x40 ∷ 0x00 ∷ 0x04 ∷ 0x47 ∷ 0x00 ∷ 0x47 ∷ 0x3F ∷ 0x48 ∷ 0x40 ∷ 0x08 ∷ 0x00 ∷ 0x4F ∷ [])

each_written : written_job each_job ≡ each_bytes
unfolding written_job
each_written = refl

each_read : job each_bytes ≡ whole each_job 121
unfolding job command rule_of with_facts
each_read = refl

each_in_range : JobInRange each_job
each_in_range = (job_written each_bytes each_job 121 (are_bytes_lem each_bytes refl) each_read).is_in_range

-- Blank text, and element 1 with attribute 0, string 5, and attribute 3, a string that has no name; in it a text and element 2, which is empty.
abbrev page : Items
page = more blank (one (element 1 1 (record { name = 0; value = string 5 } ∷ record { name = 3; value = string 64 } ∷ []) (more text (one (element 2 9 [] none)))))

abbrev page_bytes : List ℕ
page_bytes = 0x29 ∷ 0x23 ∷ 0x01 ∷ 0x24 ∷ 0x00 ∷ 0x05 ∷ 0x28 ∷ 0x03 ∷ 0x21 ∷ 0x23 ∷ 0x02 ∷ 0x26 ∷ 0x26 ∷ 0x27 ∷ []

page_written : written_page page ≡ page_bytes
unfolding written_page
page_written = refl

page_in_range : PageInRange j1_vocabulary page
unfolding Distinct AttributesInRange element_depth ItemsInRange rule_of
page_in_range =
    record { items = (tt, ((omega arith, refl, omega arith, (refl, (refl, tt)), (tt, ((omega arith, refl, tt, tt, tt), tt))), tt)); nesting = omega arith }

page_back_itself : page_slice j1_vocabulary page_bytes ≡ whole page 14
unfolding written_page marked
page_back_itself = marked_back j1_vocabulary page page_in_range refl (omega arith)

-- `17 a m`: attribute 3 is absent or has string 0, 9 or 63.
set_written : written_formula (value 3 (2 ^ 63 + 2 ^ 9 + 1)) ≡ 0x17 ∷ 0x03 ∷ 0x80 ∷ 0x00 ∷ 0x00 ∷ 0x00 ∷ 0x00 ∷ 0x00 ∷ 0x02 ∷ 0x01 ∷ []
unfolding written_formula
set_written = refl
