-- What a proposal does not cover first: the start, then the steps, the lowest point, p before q, the lowest variable.
use Prim.Native.Nat.{ℕ, zero, suc, ◌+◌, ◌≤◌, ◌<◌}
use native.Mathlib.Numerals.{add-one}
use native.Mathlib.Omega.{arith}
use mathlib.Core.Path.{◌≡◌, refl}
use mathlib.Core.Bool.{Bool, true, false, cond, false≢true}
use lib.ListN.{length}
use lib.Dec.{ltb}
use borrow.Author.Tests.{ltb-true, ltb-false}
use Rattle.std.specs.Prelude.{Result, Ok, Err}
use Rattle.verdicts.specs.declared.Cover.{Cover}
use Rattle.verdicts.specs.declared.Cover.TheVariants.{Start, Step}
use Rattle.programs.specs.Program.{Act, Statement, step, stop, statement_at}
use Rattle.summaries.specs.ProposalReading.{variable_of}
use Rattle.summaries.specs.Summaries.{entries}
use Rattle.summaries.specs.Covering.{StepCovered}
use Rattle.jobs.specs.Job.{Job}
use Rattle.jobs.specs.JobVerdict.{StartHolds, StepHolds}
use Rattle.entries.specs.Inner.Passing.{Decides}
use Rattle.covering.specs.Inner.Promises.{Lowest, Covers, PointCovers, StepsCover}
use Rattle.covering.proofs.Whole.{Below, steps_fail, steps_go, steps_end, start_fails, start_then}
use Rattle.worked_verdicts.proofs.Counting.{one_more}
use Rattle.worked_verdicts.proofs.Statements.{start_covered, start_covered_lem, step_covered, step_covered_lem}

-- The lowest number below 8 at which a test fails; 8: none.
unfoldable search_from : ℕ → ℕ → (ℕ → Bool) → ℕ
search_from zero v f = v
search_from (suc k) v f = cond (f v) (search_from k (suc v) f) v

unfoldable pub lowest_failing : (ℕ → Bool) → ℕ
unfolding search_from
lowest_failing f = search_from 8 0 f

module _ (P : ℕ → Type 0) (f : ℕ → Bool) (each : (v : ℕ) → Decides (f v) (P v)) where
  search_from_lem : (k v : ℕ) → v + k ≡ 8 → ((u : ℕ) → u < v → P u) → Lowest P (search_from k v f)
  unfolding search_from
  search_from_lem zero v e below = record { most = omega arith; below = below; fails = λ l. absurd (omega arith) }
  search_from_lem (suc k) v e below = go (f v) (each v) (λ here. search_from_lem k (suc v) (omega arith) (one_more P v below here))
    where
      go : (b : Bool) → Decides b (P v) → (P v → Lowest P (search_from k (suc v) f)) → Lowest P (cond b (search_from k (suc v) f) v)
      go true d rest = rest d
      go false d rest = record { most = omega arith; below = below; fails = λ l. d }

  lowest_failing_lem : Lowest P (lowest_failing f)
  unfolding lowest_failing
  lowest_failing_lem = search_from_lem 8 0 refl (λ u l. absurd (omega arith))

-- The steps of a point.
abbrev unless : ℕ → Cover → Result (Unit {0}) Cover → Result (Unit {0}) Cover
unless v c rest = cond (ltb v 8) (Err c) rest

module _ (j : Job) (p : ℕ) where
  abbrev covers : Act → ℕ → ℕ → Bool
  covers a next v = step_covered j.script.templates j.script.program j.proposal p a next (variable_of v)

  unfoldable lowest_to : Act → ℕ → ℕ
  unfolding lowest_failing step_covered
  lowest_to a next = lowest_failing (covers a next)

  abbrev Compared : Act → ℕ → ℕ → Type 0
  Compared a next v = StepCovered j.script.templates j.script.program (entries j.proposal) p a next (variable_of v)

  lowest_to_lem : (a : Act) (next : ℕ) → Lowest (Compared a next) (lowest_to a next)
  unfolding lowest_to
  lowest_to_lem a next = lowest_failing_lem (Compared a next) (covers a next) (λ v. step_covered_lem j.script.templates j.script.program j.proposal p a next (variable_of v))

  abbrev point_of : Statement → Result (Unit {0}) Cover
  point_of (step a q q') = unless (lowest_to a q) (Step p q (lowest_to a q)) (unless (lowest_to a q') (Step p q' (lowest_to a q')) (Ok tt))
  point_of stop = Ok tt

  module _ (a : Act) (q q' : ℕ) (is : statement_at j.script.program p ≡ step a q q') where
    holds : (b : Bool) (v : ℕ) → Compared a (cond b q' q) v → StepHolds j.script (entries j.proposal) p b v
    holds b v h = rw is h

    fails : (b : Bool) (v : ℕ) → (Compared a (cond b q' q) v → ⊥) → StepHolds j.script (entries j.proposal) p b v → ⊥
    fails b v n h = n (rw is at h)

    module _ (v : ℕ) (L : Lowest (Compared a q) v) where
      first_fails : v < 8 → PointCovers j.script (entries j.proposal) p (Err (Step p q v))
      first_fails l = record {
        point = refl;
        second = false;
        next_is = rw is;
        variable = l;
        fails = fails false v (L.fails l);
        sides = λ z. absurd (false≢true z);
        variables = λ u h. holds false u (L.below u h);
      }

      module _ (m : 8 ≤ v) (w : ℕ) (M : Lowest (Compared a q') w) where
        second_fails : w < 8 → PointCovers j.script (entries j.proposal) p (Err (Step p q' w))
        second_fails l = record {
          point = refl;
          second = true;
          next_is = rw is;
          variable = l;
          fails = fails true w (M.fails l);
          sides = λ _ u h. holds false u (L.below u (omega arith));
          variables = λ u h. holds true u (M.below u h);
        }

        both_hold : 8 ≤ w → PointCovers j.script (entries j.proposal) p (Ok tt)
        both_hold n false u h = holds false u (L.below u (omega arith))
        both_hold n true u h = holds true u (M.below u (omega arith))

  unless_covers : (v : ℕ) (c : Cover) (rest : Result (Unit {0}) Cover) → (v < 8 → PointCovers j.script (entries j.proposal) p (Err c)) → (8 ≤ v → PointCovers j.script (entries j.proposal) p rest) → PointCovers j.script (entries j.proposal) p (unless v c rest)
  unless_covers v c rest f g = go (ltb v 8) refl
    where
      go : (b : Bool) → ltb v 8 ≡ b → PointCovers j.script (entries j.proposal) p (cond b (Err c) rest)
      go true e = f (ltb-true v 8 e)
      go false e = g (ltb-false v 8 e)

  point_of_lem : (t : Statement) → statement_at j.script.program p ≡ t → PointCovers j.script (entries j.proposal) p (point_of t)
  point_of_lem stop e = λ b v l. rw e tt
  point_of_lem (step a q q') e = unless_covers (lowest_to a q) _ _ (first_fails a q q' e (lowest_to a q) (lowest_to_lem a q)) λ m.
      unless_covers (lowest_to a q') _ _
      (second_fails a q q' e (lowest_to a q) (lowest_to_lem a q) m (lowest_to a q') (lowest_to_lem a q'))
      (both_hold a q q' e (lowest_to a q) (lowest_to_lem a q) m (lowest_to a q') (lowest_to_lem a q'))

  unfoldable point_by : Result (Unit {0}) Cover
  unfolding lowest_to statement_at
  point_by = point_of (statement_at j.script.program p)

  point_by_lem : PointCovers j.script (entries j.proposal) p point_by
  unfolding point_by
  point_by_lem = point_of_lem (statement_at j.script.program p) refl

-- Point by point, then all.
abbrev or_rest : Result (Unit {0}) Cover → Result (Unit {0}) Cover → Result (Unit {0}) Cover
or_rest (Ok u) rest = rest
or_rest (Err c) rest = Err c

module _ (j : Job) where
  unfoldable steps_from : ℕ → ℕ → Result (Unit {0}) Cover
  unfolding point_by
  steps_from zero p = Ok tt
  steps_from (suc k) p = or_rest (point_by j p) (steps_from k (suc p))

  steps_from_lem : (k p : ℕ) → p + k ≡ length j.script.program → Below j.script (entries j.proposal) p → StepsCover j.script (entries j.proposal) (steps_from k p)
  unfolding steps_from
  steps_from_lem zero p e below = steps_end j.script (entries j.proposal) (length j.script.program) p refl (omega arith) below
  steps_from_lem (suc k) p e below = go (point_by j p) (point_by_lem j p) (λ b. steps_from_lem k (suc p) (omega arith) b)
    where
      go : (r : Result (Unit {0}) Cover) → PointCovers j.script (entries j.proposal) p r → (Below j.script (entries j.proposal) (suc p) → StepsCover j.script (entries j.proposal) (steps_from k (suc p))) → StepsCover j.script (entries j.proposal) (or_rest r (steps_from k (suc p)))
      go (Ok u) h rest = rest (rw add-one at (steps_go j.script (entries j.proposal) p (Ok tt) refl h below))
      go (Err c) h rest = steps_fail j.script (entries j.proposal) p (Err c) c refl h below

  abbrev start_covers : ℕ → Bool
  start_covers v = start_covered j.script.templates j.script.program j.proposal (variable_of v)

  unfoldable pub cover_by : Result (Unit {0}) Cover
  unfolding lowest_failing start_covered steps_from
  cover_by = unless (lowest_failing start_covers) (Start (lowest_failing start_covers)) (steps_from (length j.script.program) 0)

  pub cover_by_lem : Covers j.script (entries j.proposal) cover_by
  unfolding cover_by
  cover_by_lem = go (lowest_failing start_covers) (lowest_failing_lem (StartHolds j.script (entries j.proposal)) start_covers (λ v. start_covered_lem j.script.templates j.script.program j.proposal (variable_of v)))
    where
      go : (v : ℕ) → Lowest (StartHolds j.script (entries j.proposal)) v → Covers j.script (entries j.proposal) (unless v (Start v) (steps_from (length j.script.program) 0))
      go v L = by (ltb v 8) refl
        where
          by : (b : Bool) → ltb v 8 ≡ b → Covers j.script (entries j.proposal) (cond b (Err (Start v)) (steps_from (length j.script.program) 0))
          by true e = start_fails j.script (entries j.proposal) v L (ltb-true v 8 e)
          by false e = start_then j.script (entries j.proposal) v L (ltb-false v 8 e) (steps_from (length j.script.program) 0) (steps_from_lem (length j.script.program) 0 (omega arith) (λ q l. absurd (omega arith)))
