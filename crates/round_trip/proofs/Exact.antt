-- Reading is exact: bytes are read as a vocabulary, a page or a job exactly if they are those of one in range, are not too long, and
-- nothing stands behind.
use Prim.Native.Nat.{ℕ}
use native.Mathlib.Omega.{arith}
use mathlib.Core.Path.{◌≡◌}
use mathlib.Core.Logic.{◌↔◌}
use mathlib.Core.List.{List}
use Rattle.commands.specs.Reading.{whole}
use Rattle.vocabularies.specs.Vocabulary.{Vocabulary, declared}
use Rattle.vocabularies.specs.VocabularyReading.{vocabulary_slice}
use Rattle.pages.specs.Items.{Items}
use Rattle.pages.specs.ItemReading.{page_slice, templates}
use Rattle.programs.specs.Program.{Statement}
use Rattle.programs.specs.ProgramReading.{program}
use Rattle.summaries.specs.Proposal.{Head}
use Rattle.summaries.specs.ProposalReading.{proposal}
use Rattle.jobs.specs.Job.{Job, job}
use Rattle.agreement.proofs.Readings.{given}
use Rattle.round_trip.specs.Written.{written_vocabulary, written_page}
use Rattle.round_trip.specs.WrittenJob.{written_templates, marked_templates, written_program, written_proposal, written_job}
use Rattle.round_trip.specs.InRange.{Bytes, VocabularyInRange}
use Rattle.round_trip.specs.JobInRange.{TemplatesInRange, ProgramInRange, ProposalInRange, JobInRange}
use Rattle.round_trip.specs.Exact.{Span, Exactly, MarkedPage}
use Rattle.round_trip.proofs.Vocabularies.{vocabulary_back}
use Rattle.round_trip.proofs.Pages.{marked_back}
use Rattle.round_trip.proofs.Jobs.{job_back}
use Rattle.round_trip.proofs.VocabulariesWritten.{vocabulary_written}
use Rattle.round_trip.proofs.ItemsWritten.{page_written, templates_written}
use Rattle.round_trip.proofs.ProgramsWritten.{program_written}
use Rattle.round_trip.proofs.ProposalsWritten.{proposal_written}
use Rattle.round_trip.proofs.JobsWritten.{job_written}

pub vocabulary_exactly : (s : List ℕ) (D : Vocabulary) (end : ℕ) → Bytes s → vocabulary_slice s ≡ whole D end ↔ Exactly written_vocabulary VocabularyInRange s D end
vocabulary_exactly s D end b = (
  vocabulary_written s D end b,
  λ e. rw (e.nothing_behind, e.bytes) (vocabulary_back D e.is_in_range (rw e.bytes at e.short)),
)

pub page_exactly : (D : Vocabulary) (s : List ℕ) (φ : Items) (end : ℕ) → page_slice D s ≡ whole φ end ↔ Exactly written_page (MarkedPage D) s φ end
page_exactly D s φ end = (
  page_written D s φ end,
  λ e. rw (e.nothing_behind, e.bytes) (marked_back D φ e.is_in_range.page e.is_in_range.marks (rw e.bytes at e.short)),
)

pub job_exactly : (s : List ℕ) (j : Job) (end : ℕ) → Bytes s → job s ≡ whole j end ↔ Exactly written_job JobInRange s j end
job_exactly s j end b = (
  job_written s j end b,
  λ e. rw (e.nothing_behind, e.bytes) (job_back j e.is_in_range (rw e.bytes at e.short)),
)

-- The parts of a job, from an offset on: what is read stands there as it is written, and is in range.
pub templates_stand : (D : Vocabulary) (s : List ℕ) (f at end : ℕ) (φs : List Items) → templates f (declared D.rules) s 0 at ≡ whole φs end
    → Span s at (written_templates φs) end × TemplatesInRange D φs × (marked_templates at φs ≡ φs)
templates_stand D s f at end φs e =
    let m = given (templates_written D s f 0 at (omega arith)) e in
    (m.span, record { all = m.all; count = omega (arith, m.few) }, m.marks)

pub program_stands : (count : ℕ) (s : List ℕ) (f at end : ℕ) (ts : List Statement) → program f count s at ≡ whole ts end
    → Span s at (written_program ts) end × ProgramInRange count ts
program_stands count s f at end ts = given (program_written count s f at)

pub proposal_stands : (count points : ℕ) (s : List ℕ) (f at end : ℕ) (hs : List Head) → Bytes s → proposal f count points s 0 at ≡ whole hs end
    → Span s at (written_proposal hs) end × ProposalInRange count points hs
proposal_stands count points s f at end hs b = given (proposal_written count points s b f at)
