-- A script with the memory lent has at most one outcome, and what the call finds is it.
use Prim.Native.Nat.{ℕ, ◌+◌, ◌≤◌}
use native.Mathlib.Omega.{arith}
use native.Mathlib.Nat.{min-eq_left}
use mathlib.Core.Path.{◌≡◌, refl, sym, ap, ◌∙◌}
use mathlib.Core.List.{List, ◌++◌, append_assoc}
use lib.ListN.{length, take, drop, length-take}
use lib.Seq.{take-append_seam, drop-append_seam}
use Rattle.verdicts.specs.TheVerdict.{TheVerdict}
use Rattle.summaries.specs.Summaries.{Environment}
use Rattle.jobs.specs.Job.{Script}
use Rattle.jobs.specs.LeastEntries.{Least, proposal_bytes}
use Rattle.least_entries.proofs.Unique.{same_bytes}
use Rattle.jobs.specs.Inference.{Outcome, stored_at, Infers, unreadable, work_too_short, does_not_fit, proposal_written}

same_needed : {π π' : Script} {E E' : ℕ → Environment} → π ≡ π' → Least π E → Least π' E' → proposal_bytes π E ≡ proposal_bytes π' E'
same_needed {π} {π'} {E} {E'} e l l' = rw (← e) (same_bytes π E E' l (rw (← e) at l'))

module _ {job work buffer : List ℕ} {place : ℕ} where
  pub unique : {o o' : Outcome} → Infers job work buffer place o → Infers job work buffer place o' → o ≡ o'
  unique (unreadable {f = f} {at = at} e) (unreadable {f = f'} {at = at'} e') =
      let F : f ≡ f' = cc in let A : at ≡ at' = cc in rw (F, A)
  unique (unreadable e) (work_too_short e' l) = let z : ◌≡◌ {A = ℕ} 0 1 = cc in absurd (omega arith)
  unique (unreadable e) (does_not_fit e' w l f) = let z : ◌≡◌ {A = ℕ} 0 1 = cc in absurd (omega arith)
  unique (unreadable e) (proposal_written e' w l f) = let z : ◌≡◌ {A = ℕ} 0 1 = cc in absurd (omega arith)
  unique (work_too_short e l) (unreadable e') = let z : ◌≡◌ {A = ℕ} 0 1 = cc in absurd (omega arith)
  unique (work_too_short e l) (work_too_short e' l') = refl
  unique (work_too_short e l) (does_not_fit e' w l' f) = absurd (omega arith)
  unique (work_too_short e l) (proposal_written e' w l' f) = absurd (omega arith)
  unique (does_not_fit e w l f) (unreadable e') = let z : ◌≡◌ {A = ℕ} 0 1 = cc in absurd (omega arith)
  unique (does_not_fit e w l f) (work_too_short e' l') = absurd (omega arith)
  unique (does_not_fit {π = π} {E = E} e w l f) (does_not_fit {π = π'} {E = E'} e' w' l' f') =
      let P : π ≡ π' = cc in rw (same_needed P l l')
  unique (does_not_fit {π = π} {E = E} e w l f) (proposal_written {π = π'} {E = E'} e' w' l' f') =
      let P : π ≡ π' = cc in absurd (omega (arith, ap length (same_needed P l l')))
  unique (proposal_written e w l f) (unreadable e') = let z : ◌≡◌ {A = ℕ} 0 1 = cc in absurd (omega arith)
  unique (proposal_written e w l f) (work_too_short e' l') = absurd (omega arith)
  unique (proposal_written {π = π} {E = E} e w l f) (does_not_fit {π = π'} {E = E'} e' w' l' f') =
      let P : π ≡ π' = cc in absurd (omega (arith, ap length (same_needed P l l')))
  unique (proposal_written {π = π} {E = E} e w l f) (proposal_written {π = π'} {E = E'} e' w' l' f') =
      let P : π ≡ π' = cc in rw (same_needed P l l')

  pub the_outcome : {o : Outcome} → Infers job work buffer place o → TheVerdict (Infers job work buffer place) o
  the_outcome i = record { is = i; only = λ o' i'. unique i' i }

-- What was stored at a place stands there.
pub stored_there : (place : ℕ) (bytes buffer : List ℕ) → place ≤ length buffer → take (length bytes) (drop place (stored_at place bytes buffer)) ≡ bytes
stored_there place bytes buffer h =
    let before = take place buffer in
    let rest = drop (place + length bytes) buffer in
    let e : length before ≡ place = length-take place buffer ∙ min-eq_left h in
    let d : drop place (stored_at place bytes buffer) ≡ bytes ++ rest =
    ap (λ (k : ℕ). drop k (before ++ bytes ++ rest)) (sym e) ∙ ap (drop (length before)) (append_assoc before bytes rest) ∙ drop-append_seam before (bytes ++ rest) in
    ap (take (length bytes)) d ∙ take-append_seam bytes rest
