-- A job whose proposal says the least entries is accepted whenever the same script is accepted with any other proposal.
use Prim.Native.Nat.{ℕ, ◌≤◌}
use mathlib.Core.Path.{◌≡◌, refl, sym, subst, ◌∙◌}
use mathlib.Core.List.{List, ◌++◌}
use mathlib.Core.Bool.{Bool, cond}
use native.Mathlib.Omega.{arith}
use lib.ListN.{length}
use Rattle.verdicts.specs.declared.Numbers.{Numbers}
use Rattle.verdicts.specs.Printed.{prints, element_fault}
use Rattle.verdicts.proofs.Told.{form_refuses, fault_refuses}
use Rattle.commands.specs.Reading.{Read, whole, and_then, enough}
use Rattle.programs.specs.Program.{Statement, step, stop, statement_at, Variable, template_variable, string_variable}
use Rattle.summaries.specs.ProposalReading.{variable_of, proposal}
use Rattle.summaries.specs.Summaries.{Environment, transfer, entries}
use Rattle.summaries.specs.Covering.{WithinAt, start_environment}
use Rattle.jobs.specs.Job.{Script, Job, script, job}
use Rattle.jobs.specs.JobVerdict.{StatementHolds, AllCovered, ShowHolds, ScriptVerdict, start_uncovered, step_uncovered, not_root, wrong_element, accepted, JobVerdict, unreadable, readable}
use Rattle.jobs.specs.LeastEntries.{Least, proposal_bytes}
use Rattle.jobs.specs.Inference.{script_slice, AcceptedIfAny}
use Rattle.agreement.proofs.Readings.{Gives, gives, given, gives_any, gives_then, gives_alone}
use Rattle.round_trip.specs.WrittenJob.{written_script, written_job}
use Rattle.round_trip.specs.InRange.{Bytes}
use Rattle.round_trip.specs.JobInRange.{ScriptInRange}
use Rattle.round_trip.specs.Exact.{Exactly}
use Rattle.round_trip.proofs.Spans.{alone_written}
use Rattle.round_trip.proofs.JobsWritten.{script_read}
use Rattle.round_trip.proofs.Jobs.{reads_script, job_back}
use Rattle.least_entries.specs.Inner.Order.{Below, Alike}
use Rattle.least_entries.specs.Inner.Proposed.{proposal_for, with_proposal}
use Rattle.least_entries.proofs.Monotone.{transfer_grows, shows_hold}
use Rattle.least_entries.proofs.Rising.{proposal_in_range}
use Rattle.least_entries.proofs.Listed.{listed_same}
use Rattle.least_entries.proofs.Least.{within_through}
use Rattle.least_entries.proofs.There.{least_there}
use Rattle.least_entries.proofs.PlainEntries.{least_plain}

-- Bytes that are read as a script are those of it.
pub script_written : (s : List ℕ) (π : Script) (end : ℕ) → Bytes s → script_slice s ≡ whole π end → Exactly written_script ScriptInRange s π end
unfolding script_slice
script_written s π end b = alone_written s (script_read s b)

-- A script with the proposal of entries behind it, if the two are not too long, is read as them.
pub reads_with_proposal : (s : List ℕ) (π : Script) (end : ℕ) (E : ℕ → Environment) → Bytes s → script_slice s ≡ whole π end
    → length (s ++ proposal_bytes π E) ≤ 65535 → job (s ++ proposal_bytes π E) ≡ whole (with_proposal π E) (length (s ++ proposal_bytes π E))
unfolding proposal_bytes written_job
reads_with_proposal s π end E b e short =
    let w = script_written s π end b e in
    rw w.bytes
    (job_back (with_proposal π E)
    (record { script = w.is_in_range; proposal = proposal_in_range (length π.templates) (length π.program) w.is_in_range.templates.count E })
    (rw w.bytes at short))

-- Whatever stands behind a script that was written, a job that is read has that script.
same_script : (π : Script) (other : List ℕ) (j : Job) (end : ℕ) → ScriptInRange π → job (written_script π ++ other) ≡ whole j end → j.script ≡ π
unfolding job
same_script π other j end i e =
    let s = written_script π ++ other in
    let parts : Read Job =
    and_then (script s) λ π next. and_then (proposal (enough s) (length π.templates) (length π.program) s 0 next) λ hs end. whole (record { script = π; proposal = hs }) end in
    let g : Gives (Unit {0}) (λ j end. j.script ≡ π) parts =
    rw (reads_script π other i) (gives_then (gives_any (proposal (enough s) (length π.templates) (length π.program) s 0 (length (written_script π)))) λ hs end _. gives refl) in
    given (gives_alone s g) e

-- What acceptance says of a script and its entries.
record Passed (π : Script) (E : ℕ → Environment) : Type 0 where
  covered : AllCovered π E
  shows : (p : ℕ) → ShowHolds π E p

passed : {π : Script} {E : ℕ → Environment} {v : Numbers} → v.n ≡ 0 → ScriptVerdict π E v → Passed π E
passed e (start_uncovered h n b) = absurd (omega (arith, e))
passed e (step_uncovered second starts h n b) = absurd (omega (arith, e))
passed e (not_root c shows n l) = absurd (omega (arith, e))
passed e (wrong_element {p = p} {t = t} {at = at} {b = b} c shows n f l) = absurd (fault_refuses (element_fault p t at b) e)
passed e (accepted covered shows) = record { covered = covered; shows = shows }

-- Entries that hold the same.
alike_below : (E F : Environment) → Alike E F → Below E F
alike_below E F a (template_variable x) = λ c e. sym (a.template x c) ∙ e
alike_below E F a (string_variable y) = λ s e. sym (a.string y s) ∙ e

alike_above : (E F : Environment) → Alike E F → Below F E
alike_above E F a (template_variable x) = λ c e. a.template x c ∙ e
alike_above E F a (string_variable y) = λ s e. a.string y s ∙ e

within_above : (v : Variable) (S E F : Environment) → WithinAt v S E → Below E F → WithinAt v S F
within_above (template_variable x) S E F w b = λ c e. b (template_variable x) c (w c e)
within_above (string_variable y) S E F w b = λ s e. b (string_variable y) s (w s e)

module _ (π : Script) (E F : ℕ → Environment) (below : (p : ℕ) → Below (E p) (F p)) (above : (p : ℕ) → Below (F p) (E p)) where
  step_alike : (p : ℕ) (second : Bool) (v : ℕ) (t : Statement) → StatementHolds π E p t second v → StatementHolds π F p t second v
  step_alike p second v (step a q q') h = λ n.
      let next = cond second q' q in
      let made = transfer π.templates a (F p) in
      within_above (variable_of v) made (E next) (F next)
      (within_through (variable_of v) made (transfer π.templates a (E p)) (E next) (transfer_grows π.templates (F p) (E p) (above p) a) (h n))
      (below next)
  step_alike p second v stop h = tt

  covers_alike : AllCovered π E → AllCovered π F
  covers_alike c = record {
    start = λ v l n. within_above (variable_of v) start_environment (E 0) (F 0) (c.start v l n) (below 0);
    steps = λ p second v l. step_alike p second v (statement_at π.program p) (c.steps p second v l);
  }

-- The shows hold of the least entries if they hold of some that cover.
least_shows : (π : Script) (E F : ℕ → Environment) → Least π E → Passed π F → (p : ℕ) → ShowHolds π E p
least_shows π E F least q p = shows_hold π E F p (least.within F q.covered p) (q.shows p)

module _ (s : List ℕ) (π : Script) (end : ℕ) (E : ℕ → Environment) (b : Bytes s) (reads : script_slice s ≡ whole π end) (least : Least π E) where
  is_in_range : ScriptInRange π
  is_in_range = (script_written s π end b reads).is_in_range

  shows_if_any : (other : List ℕ) {v : Numbers} → v.n ≡ 0 → JobVerdict (s ++ other) v → (p : ℕ) → ShowHolds π E p
  shows_if_any other e (unreadable {f = f} q) = absurd (form_refuses f e)
  shows_if_any other e (readable {j = j} {end = at} q h) =
      let is : job (written_script π ++ other) ≡ whole j at = rw (script_written s π end b reads).bytes at q in
      least_shows π E (entries j.proposal) least
      (subst (λ (π' : Script). Passed π' (entries j.proposal)) (same_script π other j at is_in_range is) (passed e h))

  listed : (p : ℕ) → Alike (entries (proposal_for π E) p) (E p)
  listed = listed_same (length π.templates) (length π.program) E (least_there π E is_in_range least) (least_plain π E is_in_range least)

  pub accepted_if_any : AcceptedIfAny s (proposal_bytes π E)
  accepted_if_any short other a =
      let F : ℕ → Environment = entries (proposal_for π E) in
      let below : (p : ℕ) → Below (F p) (E p) = λ p. alike_below (F p) (E p) (listed p) in
      let above : (p : ℕ) → Below (E p) (F p) = λ p. alike_above (F p) (E p) (listed p) in (
        prints 0 0 0 0,
        refl,
        readable (reads_with_proposal s π end E b reads short)
            (accepted (covers_alike π E F above below least.covers) (λ p. shows_hold π F E p (below p) (shows_if_any other a.1 a.2 p))),
      )
