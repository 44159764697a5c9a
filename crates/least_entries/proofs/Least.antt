-- Induction over the least entries: what holds at the start and is kept by every step holds of all that they hold.
use Prim.Native.Nat.{ℕ, ◌<◌}
use mathlib.Core.Path.{◌≡◌, refl}
use mathlib.Core.Bool.{Bool, true, cond, ◌&&◌}
use Rattle.programs.specs.Program.{Act, Statement, step, stop, statement_at, Variable, template_variable, string_variable, named}
use Rattle.summaries.specs.ProposalReading.{variable_of}
use Rattle.summaries.specs.Summaries.{Environment, transfer}
use Rattle.summaries.specs.Covering.{WithinAt, start_environment}
use Rattle.jobs.specs.Job.{Script}
use Rattle.jobs.specs.JobVerdict.{AllCovered, StatementHolds}
use Rattle.jobs.specs.LeastEntries.{Least}
use Rattle.sets.proofs.Booleans.{and_both, and_left, and_right}
use Rattle.least_entries.specs.Inner.Order.{Below}
use Rattle.least_entries.proofs.Monotone.{below_trans, transfer_grows}

-- What both hold.
abbrev pub both : Environment → Environment → Environment
both E K = record { template = λ x c. E.template x c && K.template x c; string = λ y s. E.string y s && K.string y s }

pub both_first : (E K : Environment) → Below (both E K) E
both_first E K (template_variable x) = λ c. and_left (E.template x c) (K.template x c)
both_first E K (string_variable y) = λ s. and_left (E.string y s) (K.string y s)

pub both_second : (E K : Environment) → Below (both E K) K
both_second E K (template_variable x) = λ c. and_right (E.template x c) (K.template x c)
both_second E K (string_variable y) = λ s. and_right (E.string y s) (K.string y s)

both_within : (v : Variable) (S E K : Environment) → WithinAt v S E → WithinAt v S K → WithinAt v S (both E K)
both_within (template_variable x) S E K p q = λ c e. and_both (E.template x c) (K.template x c) (p c e) (q c e)
both_within (string_variable y) S E K p q = λ s e. and_both (E.string y s) (K.string y s) (p s e) (q s e)

pub within_through : (v : Variable) (S E F : Environment) → Below S E → WithinAt v E F → WithinAt v S F
within_through (template_variable x) S E F b w = λ c e. w c (b (template_variable x) c e)
within_through (string_variable y) S E F b w = λ s e. w s (b (string_variable y) s e)

-- K holds what the start has, and what each step makes of entries that lie within it; of a variable that is named.
pub record Inductive (π : Script) (E K : ℕ → Environment) : Type 0 where
  pub start : (v : ℕ) → v < 8 → named π.program (variable_of v) ≡ true → WithinAt (variable_of v) start_environment (K 0)
  pub steps : (p : ℕ) (a : Act) (q q' : ℕ) → statement_at π.program p ≡ step a q q' → (second : Bool) (v : ℕ) → v < 8
      → named π.program (variable_of v) ≡ true → WithinAt (variable_of v) (transfer π.templates a (both (E p) (K p))) (K (cond second q' q))

module _ (π : Script) (E K : ℕ → Environment) (covers : AllCovered π E) (i : Inductive π E K) where
  abbrev kept : ℕ → Environment
  kept p = both (E p) (K p)

  step_kept : (p : ℕ) (second : Bool) (v : ℕ) → v < 8 → (t : Statement) → statement_at π.program p ≡ t → StatementHolds π E p t second v → StatementHolds π kept p t second v
  step_kept p second v l (step a q q') s h = λ n.
      let made = transfer π.templates a (kept p) in
      both_within (variable_of v) made (E (cond second q' q)) (K (cond second q' q))
      (within_through (variable_of v) made (transfer π.templates a (E p)) (E (cond second q' q)) (transfer_grows π.templates (kept p) (E p) (both_first (E p) (K p)) a) (h n))
      (i.steps p a q q' s second v l n)
  step_kept p second v l stop s h = tt

  kept_covers : AllCovered π kept
  kept_covers = record {
    start = λ v l n. both_within (variable_of v) start_environment (E 0) (K 0) (covers.start v l n) (i.start v l n);
    steps = λ p second v l. step_kept p second v l (statement_at π.program p) refl (covers.steps p second v l);
  }

-- The least entries hold nothing that K does not hold.
pub least_within : (π : Script) (E K : ℕ → Environment) → Least π E → Inductive π E K → (p : ℕ) → Below (E p) (K p)
least_within π E K least i p =
    below_trans (E p) (both (E p) (K p)) (K p)
    (least.within (λ q. both (E q) (K q)) (kept_covers π E K least.covers i) p)
    (both_second (E p) (K p))
