-- Scripts with templates that are alike have the same least entries, and working out their proposals comes out the same.
use Prim.Native.Nat.{ℕ}
use native.Mathlib.Omega.{arith}
use mathlib.Core.Path.{◌≡◌, sym}
use mathlib.Core.List.{List, map}
use mathlib.Core.Logic.{◌↔◌}
use lib.ListN.{length}
use Rattle.commands.specs.Reading.{whole}
use Rattle.pages.specs.Items.{Items, without_blank}
use Rattle.programs.specs.Program.{template_at}
use Rattle.summaries.specs.Summaries.{Environment}
use Rattle.jobs.specs.Job.{Script}
use Rattle.jobs.specs.LeastEntries.{Least, proposal_bytes}
use Rattle.jobs.specs.Inference.{script_slice, Outcome, Infers, unreadable, work_too_short, does_not_fit, proposal_written}
use Rattle.round_trip.specs.WrittenJob.{written_script}
use Rattle.round_trip.specs.InRange.{Bytes}
use Rattle.blank_text.specs.WithoutBlank.{without_blank_script}
use Rattle.blank_text.proofs.Alike.{Alike, turned}
use Rattle.blank_text.proofs.Scripts.{with_templates, all_covered, without_alike}
use Rattle.blank_text.proofs.Ranges.{templates_alike, as_many}
use Rattle.blank_text.proofs.Anew.{base, anew_script, script_anew}

-- The bytes of a proposal go by the number of templates.
pub same_proposal : (π : Script) (φs' : List Items) → length π.templates ≡ length φs' → (E : ℕ → Environment)
    → proposal_bytes π E ≡ proposal_bytes (with_templates π φs') E
unfolding proposal_bytes
same_proposal π φs' many E = rw many

module _ {M : ℕ → ℕ → Type 0} (π : Script) (φs' : List Items) (alike : (t : ℕ) → Alike M (template_at π.templates t) (template_at φs' t)) where
  abbrev There : Script
  There = with_templates π φs'

  pub least_there : (E : ℕ → Environment) → Least π E → Least There E
  least_there E l = record {
    covers = all_covered π φs' alike E l.covers;
    within = λ F c. l.within F (all_covered There π.templates (λ t. turned (alike t)) F c);
  }

  module _ (many : length π.templates ≡ length φs') (s s' : List ℕ) {end end' : ℕ} (e : script_slice s ≡ whole π end)
      (e' : script_slice s' ≡ whole There end') where
    needs_there : {ρ : Script} {k : ℕ} → script_slice s ≡ whole ρ k → (E : ℕ → Environment) → Least ρ E → Least There E × (proposal_bytes ρ E ≡ proposal_bytes There E)
    needs_there {ρ} q E l = let same : ρ ≡ π = cc in (least_there E (rw same at l), rw same (same_proposal π φs' many E))

    infers_there : {work buffer : List ℕ} {place : ℕ} {o : Outcome} → Infers s work buffer place o → Infers s' work buffer place o
    infers_there (unreadable q) = let z : ◌≡◌ {A = ℕ} 0 1 = cc in absurd (omega arith)
    infers_there (work_too_short q h) = work_too_short e' h
    infers_there (does_not_fit {E = E} q h l f) = let x = needs_there q E l in rw x.1 (does_not_fit e' h x.0 (rw x.1 at f))
    infers_there (proposal_written {E = E} q h l f) = let x = needs_there q E l in rw x.1 (proposal_written e' h x.0 (rw x.1 at f))

pub same_least : (π : Script) (E : ℕ → Environment) → Least π E ↔ Least (without_blank_script π) E
same_least π E =
    let φs = π.templates in
    let φs' = map without_blank φs in
    let alike = without_alike φs in
    (least_there π φs' alike E, least_there (without_blank_script π) φs (λ t. turned (alike t)) E)

-- A script that is read, and its bytes without blank text.
pub same_outcome : {s : List ℕ} {π : Script} {end : ℕ} → Bytes s → script_slice s ≡ whole π end → (work buffer : List ℕ) (place : ℕ) (o : Outcome)
    → Infers s work buffer place o ↔ Infers (written_script (without_blank_script π)) work buffer place o
same_outcome {s} {π} {end} b e work buffer place o =
    let φs = π.templates in
    let φs' = (anew_script π).templates in
    let alike = templates_alike (base π) φs in
    let many = as_many (base π) φs in
    let s' = written_script (without_blank_script π) in
    let e' = script_anew π s end b e in
    (infers_there π φs' alike (sym many) s s' e e', infers_there (anew_script π) φs (λ t. turned (alike t)) many s' s e' e)
