-- Blank text taken out of the templates of a script and of a job (document 02, F-2), and which of a verdict's numbers may change by it.
-- `without_blank` (Items) takes it out of items.
use Rattle.std.specs.Prelude.{◌≡◌, map}
use Rattle.verdicts.specs.declared.Numbers.{Numbers}
use Rattle.pages.specs.Items.{without_blank}
use Rattle.jobs.specs.Job.{Script, Job}

abbrev pub without_blank_script : Script → Script
without_blank_script π = record { vocabulary = π.vocabulary; templates = map without_blank π.templates; program = π.program }

abbrev pub without_blank_job : Job → Job
without_blank_job j = record { script = without_blank_script j.script; proposal = j.proposal }

-- Two verdicts N A B C are the same but for C where N is 12, 14 or 15, which is left free: there C is the offset of a wrong element, and
-- offsets move with the bytes.
pub record SameButOffset (v v' : Numbers) : Type 0 where
  pub n : v.n ≡ v'.n
  pub a : v.a ≡ v'.a
  pub b : v.b ≡ v'.b
  pub c : (v.n ≡ 12 → ⊥) → (v.n ≡ 14 → ⊥) → (v.n ≡ 15 → ⊥) → v.c ≡ v'.c
