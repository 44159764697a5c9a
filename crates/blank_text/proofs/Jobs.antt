-- The verdict of a job that is read, and that of its bytes without blank text in its templates.
use Prim.Native.Nat.{ℕ}
use native.Mathlib.Omega.{arith}
use mathlib.Core.Path.{◌≡◌, subst}
use mathlib.Core.List.{List}
use Rattle.verdicts.specs.declared.Numbers.{Numbers}
use Rattle.commands.specs.Reading.{whole}
use Rattle.pages.specs.Items.{Items}
use Rattle.programs.specs.Program.{template_at}
use Rattle.summaries.specs.Summaries.{entries}
use Rattle.jobs.specs.Job.{Job, job}
use Rattle.jobs.specs.JobVerdict.{ScriptVerdict, JobVerdict, unreadable, readable}
use Rattle.agreement.proofs.Readings.{given}
use Rattle.agreement.proofs.JobVerdicts.{job_marked}
use Rattle.round_trip.specs.WrittenJob.{written_job}
use Rattle.round_trip.specs.InRange.{Bytes}
use Rattle.blank_text.specs.WithoutBlank.{without_blank_job, SameButOffset}
use Rattle.blank_text.proofs.Alike.{Alike, Any, itself}
use Rattle.blank_text.proofs.Scripts.{with_templates}
use Rattle.blank_text.proofs.Paired.{same_numbers}
use Rattle.blank_text.proofs.Ranges.{templates_alike}
use Rattle.blank_text.proofs.Anew.{base, anew_job, job_anew}

-- The verdict of a job that is read is that of its script.
of_script : {s : List ℕ} {j : Job} {end : ℕ} {v : Numbers} → job s ≡ whole j end → JobVerdict s v → ScriptVerdict j.script (entries j.proposal) v
of_script e (unreadable q) = let z : ◌≡◌ {A = ℕ} 0 1 = cc in absurd (omega arith)
of_script {j = j} e (readable {j = k} q o) = let same : k ≡ j = cc in rw same at o

module _ {s : List ℕ} {j : Job} {end : ℕ} (b : Bytes s) (e : job s ≡ whole j end) where
  -- Against a job that is read as this one with other templates, which without blank text are like these.
  with_others : {s' : List ℕ} {φs : List Items} {end' : ℕ} → job s' ≡ whole (record { script = with_templates j.script φs; proposal = j.proposal }) end'
      → ((t : ℕ) → Alike Any (template_at φs t) (template_at (anew_job j).script.templates t))
      → {v v' : Numbers} → JobVerdict s v → JobVerdict s' v' → SameButOffset v v'
  with_others {s'} {φs} e' alike h h' =
      same_numbers j.script φs (anew_job j).script.templates (given (job_marked s) e) (given (job_marked s') e')
      (given (job_marked (written_job (without_blank_job j))) (job_anew j s end b e))
      (templates_alike (base j.script) j.script.templates) alike (entries j.proposal) (of_script e h) (of_script e' h')

  pub same_job_numbers : {v v' : Numbers} → JobVerdict s v → JobVerdict (written_job (without_blank_job j)) v' → SameButOffset v v'
  same_job_numbers = with_others (job_anew j s end b e) (λ t. itself (λ _. tt) _)

  -- Against a job whose bytes without blank text are the same.
  pub same_but_blank : {s' : List ℕ} {j' : Job} {end' : ℕ} → Bytes s' → job s' ≡ whole j' end' → written_job (without_blank_job j) ≡ written_job (without_blank_job j')
      → {v v' : Numbers} → JobVerdict s v → JobVerdict s' v' → SameButOffset v v'
  same_but_blank {s'} {j'} {end'} b' e' q =
      let r = job_anew j s end b e in
      let r' = job_anew j' s' end' b' e' in
      let same : anew_job j' ≡ anew_job j = cc in
      let φs = j'.script.templates in
      with_others
      (subst (λ (k : Job). job s' ≡ whole (record { script = with_templates k.script φs; proposal = k.proposal }) end') same e')
      (λ t. subst (λ (k : Job). Alike Any (template_at φs t) (template_at k.script.templates t)) same (templates_alike (base j'.script) φs t))
