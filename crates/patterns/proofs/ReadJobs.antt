-- A job that was read from bytes has all that the theorems about its shows ask: of its vocabulary, its templates, its program and its
-- graphs. All but the last are given by its script alone.
use Prim.Native.Nat.{ℕ}
use mathlib.Core.Path.{◌≡◌}
use mathlib.Core.List.{List}
use mathlib.Core.Option.{some}
use lib.ListN.{length}
use Rattle.commands.specs.Reading.{whole, enough}
use Rattle.vocabularies.specs.Vocabulary.{declared}
use Rattle.summaries.specs.Summaries.{Summary, Environment, entries}
use Rattle.summaries.specs.Languages.{graph_shown}
use Rattle.jobs.specs.Job.{Script, Job, script, job}
use Rattle.agreement.proofs.Readings.{Gives, gives, given, gives_both, gives_then, gives_alone}
use Rattle.agreement.proofs.Marks.{templates_rise}
use Rattle.agreement.proofs.JobVerdicts.{Marked}
use Rattle.agreement.proofs.ReadPrograms.{TemplatesThere, program_there}
use Rattle.patterns.specs.Inner.Given.{Bounded, SoundTemplates, SoundVocabulary}
use Rattle.patterns.proofs.ReadVocabularies.{Bytes, vocabulary_sound}
use Rattle.patterns.proofs.ReadTemplates.{templates_sound}
use Rattle.patterns.proofs.ReadProposals.{proposal_in_range, shown_bounded}

pub record GivenScript (π : Script) : Type 0 where
  pub vocabulary : SoundVocabulary π.vocabulary
  pub templates : SoundTemplates (declared π.vocabulary.rules) π.templates
  pub marked : Marked π
  pub program : TemplatesThere (length π.templates) π.program

pub record GivenShows (π : Script) (E : ℕ → Environment) : Type 0 where
  pub script : GivenScript π
  pub graphs : (p : ℕ) (G : Summary) → graph_shown π.templates π.program E p ≡ some G → Bounded π.templates G

gives_script : (s : List ℕ) → Bytes s → Gives (Unit {0}) (λ π end. GivenScript π) (script s)
unfolding script
gives_script s bytes =
    gives_then (vocabulary_sound s bytes) λ D next v.
    gives_then (gives_both (templates_sound (declared D.rules) s (enough s) 0 next) (templates_rise (declared D.rules) s (enough s) 0 next)) λ φs next' t.
    gives_then (program_there (length φs) s (enough s) next') λ ts end p. gives (record { vocabulary = v; templates = t.0; marked = (next, next', t.1); program = p.templates })

gives_job : (s : List ℕ) → Bytes s → Gives (Unit {0}) (λ j end. GivenShows j.script (entries j.proposal)) (job s)
unfolding job
gives_job s bytes = gives_alone s
    (gives_then (gives_script s bytes) λ π next g.
    gives_then (proposal_in_range (length π.templates) s (length π.program) (enough s) 0 next) λ hs end h.
    gives (record { script = g; graphs = shown_bounded π.templates π.program hs h g.program }))

pub job_given : (s : List ℕ) → Bytes s → (j : Job) (end : ℕ) → job s ≡ whole j end → GivenShows j.script (entries j.proposal)
job_given s bytes j end = given (gives_job s bytes)
