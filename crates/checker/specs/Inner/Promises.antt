-- What the steps of the check promise, of a job that was read.
use Rattle.std.specs.Prelude.{ℕ, ◌≡◌, List, Bool, true, false, Option, Some, None}
use Rattle.std.proofs.Math.Option.{some}
use Rattle.verdicts.specs.declared.Fault.TheVariants as Faults
use Rattle.verdicts.specs.declared.Refusal.{Refusal}
use Rattle.verdicts.specs.declared.Refusal.TheVariants as Refusals
use Rattle.verdicts.specs.Printed.{element_fault}
use Rattle.commands.specs.Reading.{whole}
use Rattle.vocabularies.specs.declared.Tables as Vocabularies
use Rattle.vocabularies.specs.Vocabulary.{declared}
use Rattle.vocabularies.specs.Inner.Promises.{Describes}
use Rattle.pages.specs.Inner.Promises.{Located}
use Rattle.summaries.specs.Proposal.{Claim}
use Rattle.summaries.specs.Summaries.{Summary, entries}
use Rattle.jobs.specs.Job.{Job, job}
use Rattle.jobs.specs.JobVerdict.{ShowHolds}
use Rattle.graphs.specs.Inner.Graphs.{InWords, holds, SameGraph}
use Rattle.covering.specs.Inner.Tables.{Tables}
use Rattle.shows.specs.declared.TemplateTables.{TemplateTables}
use Rattle.shows.specs.declared.WrongShow.{WrongShow}
use Rattle.shows.specs.declared.WrongShow.TheVariants.{NotRoot, Element}
use Rattle.shows.specs.Inner.Promises.{shown_at, TablesOf}

-- 11, 12, 14 or 15 at a point.
abbrev pub fault_at : ℕ → WrongShow → Refusal
fault_at p (NotRoot t) = Refusals.Page (Faults.NotRoot p t)
fault_at p (Element w) = Refusals.Page (element_fault p w.template w.at w.breach)

-- What is known where the shows of a job are looked at: it was read from these bytes, and the tables say where its parts stand.
pub record ReadAt (s : List ℕ) (rules : Vocabularies.Tables) (templates : TemplateTables) (count : ℕ) (starts : List ℕ) (points : ℕ) (places heads : List ℕ) (j : Job) : Type 0 where
  pub end : ℕ
  pub reads : job s ≡ whole j end
  pub vocabulary : Describes s j.script.vocabulary rules
  pub located : Located (declared j.script.vocabulary.rules) s j.script.templates count starts
  pub tabled : TablesOf j.script.templates count templates
  pub names : ℕ
  pub parts : Tables j s count starts points places names heads

-- Every show of what this graph holds is right.
abbrev pub RightGraph : Job → List ℕ → Type 0
RightGraph j graph = (q : ℕ) (G : Summary) → shown_at j q ≡ some G → ((c : Claim) → InWords c → G c ≡ holds graph c) → ShowHolds j.script (entries j.proposal) q

-- A graph that is there and the same.
abbrev pub IsSame : Option (List ℕ) → List ℕ → Bool → Type 0
IsSame right graph false = Unit {0}
IsSame None graph true = ⊥
IsSame (Some last) graph true = SameGraph last graph
