-- Blank text changes nothing (document 02, F-2): taken out of a page or of a job's templates it changes no page's rightness and, where the
-- bytes can be read, no verdict's number; offsets move with the bytes. Of bytes that cannot be read (1 to 8) nothing is claimed: a `24`
-- or `25` right behind a `29` gets 3, and a job or page of 65,536 bytes gets 1, though either may read without its `29`s.
use Prim.Native.Nat.{ℕ}
use mathlib.Core.Path.{◌≡◌, sym, subst}
use mathlib.Core.List.Memᴰ
use mathlib.Core.List.{List, map}
use mathlib.Core.Logic.{◌↔◌}
use lib.ListN.{length, length-map}
use Rattle.verdicts.specs.declared.Breach.{Breach}
use Rattle.verdicts.specs.declared.Numbers.{Numbers}
use Rattle.commands.specs.Reading.{whole}
use Rattle.vocabularies.specs.Vocabulary.{Vocabulary}
use Rattle.pages.specs.Items.{Items, without_blank}
use Rattle.pages.specs.ItemReading.{page_slice}
use Rattle.pages.specs.RightPages.{RootAlone, Accepts, Right, WrongAt, ◌∈◌}
use Rattle.pages.specs.PageVerdict.{Readable, PageVerdict}
use Rattle.programs.specs.Runs.{Choice, shown}
use Rattle.summaries.specs.Summaries.{Environment}
use Rattle.jobs.specs.Job.{Script, Job, job}
use Rattle.jobs.specs.JobVerdict.{ScriptVerdict, JobVerdict}
use Rattle.jobs.specs.Guarantee.{ShowsOnlyRightPages}
use Rattle.jobs.specs.LeastEntries.{Least, proposal_bytes}
use Rattle.jobs.specs.Inference.{script_slice, Outcome, Infers}
use Rattle.agreement.proofs.Verdicts.{page_verdict_is}
use Rattle.round_trip.specs.Written.{written_page, marked}
use Rattle.round_trip.specs.WrittenJob.{written_script, written_job}
use Rattle.round_trip.specs.InRange.{Bytes}
use Rattle.blank_text.specs.WithoutBlank.{without_blank_script, without_blank_job, SameButOffset}
use Rattle.blank_text.proofs.Alike.{turned, without}
use Rattle.blank_text.proofs.Rightness.{alone_there, accepted_there, right_there, wrong_there}
use Rattle.blank_text.proofs.Scripts.{same_verdict}
use Rattle.blank_text.proofs.Runs.{shown_without}
use Rattle.blank_text.proofs.Anew.{anew_script, anew_job, script_anew, job_anew}
use Rattle.blank_text.proofs.Pages.{page_anew, same_page_numbers, same_page_but_blank}
use Rattle.blank_text.proofs.Jobs.{same_job_numbers, same_but_blank}
use Rattle.blank_text.proofs.Inference.{same_proposal, same_least, same_outcome}

-- Pages as trees.
pub right : (D : Vocabulary) (φ : Items) → Right D φ ↔ Right D (without_blank φ)
right D φ = (right_there D (without φ), right_there D (turned (without φ)))

pub alone : (D : Vocabulary) (φ : Items) → RootAlone D φ ↔ RootAlone D (without_blank φ)
alone D φ = (alone_there D (without φ), alone_there D (turned (without φ)))

pub accepts : (D : Vocabulary) (φ : Items) → Accepts D φ ↔ Accepts D (without_blank φ)
accepts D φ = (accepted_there D (without φ), accepted_there D (turned (without φ)))

pub wrong_at_lem : (D : Vocabulary) (mark : ℕ) (φ : Items) (b : Breach) → WrongAt D mark φ b ↔ WrongAt D mark (without_blank φ) b
wrong_at_lem D mark φ b = (
  λ w. let r = wrong_there D b (without φ) w in rw (sym r.1) at r.2,
  λ w. let r = wrong_there D b (turned (without φ)) w in rw r.1 at r.2,
)

-- Pages as bytes: a page that reads, and the bytes of it without blank text, which read with each mark where it is written.
pub page_reads : (D : Vocabulary) (p : List ℕ) (φ : Items) (end : ℕ) → page_slice D p ≡ whole φ end
    → page_slice D (written_page (without_blank φ)) ≡ whole (marked 0 (without_blank φ)) (length (written_page (without_blank φ)))
page_reads = page_anew

pub page_numbers : (v p : List ℕ) (D : Vocabulary) (φ : Items) → Readable v p D φ → (n : Numbers) → PageVerdict v p n
    → (n' : Numbers) × PageVerdict v (written_page (without_blank φ)) n' × SameButOffset n n'
page_numbers v p D φ R n h = let h' = page_verdict_is v (written_page (without_blank φ)) in (_, h', same_page_numbers R h h')

-- Runs: over the templates without blank text a run shows the pages without it, and they are right if and only if those with it are.
pub runs : (π : Script) (cs : List Choice)
    → shown (map without_blank π.templates) π.program cs ≡ map without_blank (shown π.templates π.program cs)
runs π = shown_without π.templates π.program

pub shown_right : (π : Script) (cs : List Choice) → ShowsOnlyRightPages π cs ↔ ShowsOnlyRightPages (without_blank_script π) cs
shown_right π cs = (
  λ h page m.
      let r = Memᴰ.of_map without_blank (shown π.templates π.program cs) (subst (λ (l : List Items). page ∈ l) (runs π cs) m) in
      subst (Right π.vocabulary) r.2 ((right π.vocabulary r.0).0 (h r.0 r.1)),
  λ h page m.
      (right π.vocabulary page).1 (h (without_blank page) (subst (λ (l : List Items). without_blank page ∈ l) (sym (runs π cs)) (Memᴰ.map without_blank m))),
)

-- Jobs as trees, with whatever entries: elements keep their marks, and all four numbers are the same.
pub script_verdict : (π : Script) (E : ℕ → Environment) (v : Numbers) → ScriptVerdict π E v ↔ ScriptVerdict (without_blank_script π) E v
script_verdict = same_verdict

-- Jobs as bytes: a job that reads, and the bytes of it without blank text in its templates, which read in the same way.
pub job_reads : (s : List ℕ) (j : Job) (end : ℕ) → Bytes s → job s ≡ whole j end
    → job (written_job (without_blank_job j)) ≡ whole (anew_job j) (length (written_job (without_blank_job j)))
job_reads s j end = job_anew j s end

-- That each job has a verdict is promised by `check`.
pub job_numbers : (s : List ℕ) (j : Job) (end : ℕ) → Bytes s → job s ≡ whole j end → (v v' : Numbers)
    → JobVerdict s v → JobVerdict (written_job (without_blank_job j)) v' → SameButOffset v v'
job_numbers s j end b e v v' = same_job_numbers b e

-- Working out a proposal: the least entries are the same, and so are the bytes of their proposal.
pub least : (π : Script) (E : ℕ → Environment) → Least π E ↔ Least (without_blank_script π) E
least = same_least

pub proposal_bytes_lem : (π : Script) (E : ℕ → Environment) → proposal_bytes π E ≡ proposal_bytes (without_blank_script π) E
proposal_bytes_lem π E = same_proposal π (map without_blank π.templates) (sym (length-map π.templates without_blank)) E

-- So a script that reads, and the bytes of it without blank text, have the same outcome: numbers, bytes written and memory.
pub script_reads : (s : List ℕ) (π : Script) (end : ℕ) → Bytes s → script_slice s ≡ whole π end
    → script_slice (written_script (without_blank_script π)) ≡ whole (anew_script π) (length (written_script (without_blank_script π)))
script_reads s π end = script_anew π s end

pub inferred : (s : List ℕ) (π : Script) (end : ℕ) → Bytes s → script_slice s ≡ whole π end → (work buffer : List ℕ) (place : ℕ) (o : Outcome)
    → Infers s work buffer place o ↔ Infers (written_script (without_blank_script π)) work buffer place o
inferred s π end b e = same_outcome b e

-- So it is with blank text taken out here and there, or put in: two pages that read, two jobs, and two scripts, whose bytes without it are
-- the same.
pub pages_but_blank : (v p p' : List ℕ) (D : Vocabulary) (φ φ' : Items) → Readable v p D φ → Readable v p' D φ'
    → written_page (without_blank φ) ≡ written_page (without_blank φ') → (n : Numbers) → PageVerdict v p n → (n' : Numbers) × PageVerdict v p' n' × SameButOffset n n'
pages_but_blank v p p' D φ φ' R R' q n h = let h' = page_verdict_is v p' in (_, h', same_page_but_blank R R' q h h')

pub jobs_but_blank : (s s' : List ℕ) (j j' : Job) (end end' : ℕ) → Bytes s → Bytes s' → job s ≡ whole j end → job s' ≡ whole j' end'
    → written_job (without_blank_job j) ≡ written_job (without_blank_job j') → (v v' : Numbers) → JobVerdict s v → JobVerdict s' v' → SameButOffset v v'
jobs_but_blank s s' j j' end end' b b' e e' q v v' = same_but_blank b e b' e' q

pub scripts_but_blank : (s s' : List ℕ) (π π' : Script) (end end' : ℕ) → Bytes s → Bytes s' → script_slice s ≡ whole π end → script_slice s' ≡ whole π' end'
    → written_script (without_blank_script π) ≡ written_script (without_blank_script π') → (work buffer : List ℕ) (place : ℕ) (o : Outcome)
    → Infers s work buffer place o ↔ Infers s' work buffer place o
scripts_but_blank s s' π π' end end' b b' e e' q work buffer place o =
    let x = inferred s π end b e work buffer place o in
    let x' = inferred s' π' end' b' e' work buffer place o in
    (λ h. x'.1 (rw q at (x.0 h)), λ h. x.1 (rw (← q) at (x'.0 h)))
