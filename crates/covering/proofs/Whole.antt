-- The start, and all points together.
use Prim.Native.Nat.{ℕ, ◌+◌, ◌*◌, ◌-◌, ◌≤◌, ◌<◌}
use mathlib.Core.Path.{◌≡◌, refl, sym, ◌∙◌}
use mathlib.Core.List.{List}
use mathlib.Core.Bool.{Bool, true, false, and-false, false≢true}
use native.Mathlib.Omega.{arith}
use lib.ListN.{length, get_or}
use lib.Dec.{eqb, ltb}
use borrow.Author.Tests.{eqb-true, eqb-false, lt-ltb, le-ltb, ltb-true, ltb-false}
use Rattle.std.specs.Prelude.{Result, Ok, Err}
use Rattle.verdicts.specs.declared.Cover.{Cover}
use Rattle.verdicts.specs.declared.Cover.TheVariants.{Start, Step}
use Rattle.sets.specs.Sets.{member}
use Rattle.commands.specs.declared.Context.TheVariants.{TemplateHoldings, StringHoldings}
use Rattle.pages.specs.Items.{gap_in, attribute_gap_in}
use Rattle.pages.specs.Items as Items
use Rattle.programs.specs.Program.{template_variable, string_variable}
use Rattle.programs.proofs.AtPoints.{past_stops}
use Rattle.summaries.specs.Proposal.{root, edge, string, gap_from, attribute_gap_from, Head, Holding}
use Rattle.summaries.specs.ProposalReading.{variable_of}
use Rattle.summaries.specs.Summaries.{Summary, Environment, Within, fragment, says_claim, says_string, held, under, entries}
use Rattle.summaries.specs.Covering.{WithinAt, start_environment}
use Rattle.jobs.specs.Job.{Script}
use Rattle.jobs.specs.JobVerdict.{StartHolds, StepHolds}
use Rattle.strings.specs.declared.Values.{Values}
use Rattle.summaries.specs.Inner.Listed.{Listed}
use Rattle.strings.specs.Inner.Promises.{holds_value, ValuesWithin}
use Rattle.entries.specs.Inner.Passing.{Decides}
use Rattle.entries.proofs.Tests.{decides, values_decide}
use Rattle.covering.specs.Inner.Tables.{EntriesAt}
use Rattle.covering.specs.Inner.Promises.{Lowest, RefusesLowest, StartUncovered, Covers, PointCovers, StepsCover}
use Rattle.covering.proofs.Steps.{template_listed, string_listed}

-- Where the lowest is found, and where none is.
pub fails_there : (refused : ℕ → Cover) (P : ℕ → Type 0) (v : ℕ) → v < 8 → ((u : ℕ) → u < v → P u) → (P v → ⊥) → RefusesLowest refused P (Err (refused v))
fails_there refused P v low below fails = (v, (refl, (low, record { most = omega arith; below = below; fails = λ _. fails })))

pub all_there : (P : ℕ → Type 0) → ((u : ℕ) → u < 8 → P u) → Lowest P 8
all_there P holds = record { most = omega arith; below = holds; fails = λ l. absurd (omega arith) }

-- The empty template 0 lies within an entry that has root 0.
empty_decides : (R : Summary) (r : Bool) → R (root 0) ≡ r → Decides r (Within (fragment 0 Items.none) R)
unfolding gap_in attribute_gap_in
empty_decides R r is = decides r covers (λ w. sym is ∙ w (root 0) refl)
  where
    covers : r ≡ true → Within (fragment 0 Items.none) R
    covers e (root m) h = rw (eqb-true m 0 h) (is ∙ e)
    covers e (edge m g k) h = absurd (false≢true h)
    covers e (string m g k) h = absurd (false≢true h)
    covers e (gap_from g m) h = absurd (false≢true (sym (and-false (eqb m 0)) ∙ h))
    covers e (attribute_gap_from g m) h = absurd (false≢true (sym (and-false (eqb m 0)) ∙ h))

module _ (s heads : List ℕ) (hs : List Head) (entry : EntriesAt s heads hs 0) (v from : ℕ) (r : Bool) where
  pub start_template : v < 4 → (0 < 32 → v < 4 → from ≡ get_or heads (0 * 8 + v) 0) → (roots : ℕ) → ((xs : List Holding) → Listed TemplateHoldings s from xs → (n : ℕ) → held says_claim xs (root n) ≡ member roots n)
      → r ≡ member roots 0 → Decides r (WithinAt (variable_of v) start_environment (entries hs 0))
  unfolding entries
  start_template f from_is roots h is =
      rw (lt-ltb v 4 f)
      (empty_decides (held says_claim (under hs 0 (template_variable v))) r (h (under hs 0 (template_variable v)) (template_listed s heads hs 0 (omega arith) entry v from f from_is) 0 ∙ sym is))

  pub start_string : 4 ≤ v → v < 8 → (0 < 32 → v - 4 < 4 → from ≡ get_or heads (0 * 8 + (4 + (v - 4))) 0) → (set : Values) → ((ys : List Holding) → Listed StringHoldings s from ys → (t : ℕ) → held says_string ys t ≡ holds_value set t)
      → (one : Values) → ((t : ℕ) → holds_value one t ≡ eqb t 0) → ValuesWithin one set r → Decides r (WithinAt (variable_of v) start_environment (entries hs 0))
  unfolding entries
  start_string f g from_is set h one o w =
      rw (le-ltb v 4 f)
      (values_decide _ (held says_string (under hs 0 (string_variable (v - 4)))) one set (λ t. sym (o t)) (h (under hs 0 (string_variable (v - 4))) (string_listed s heads hs 0 (omega arith) entry (v - 4) from (omega arith) from_is)) r w)

module _ (π : Script) (E : ℕ → Environment) where
  -- The steps of the points below p are covered.
  abbrev pub Below : ℕ → Type 0
  Below p = (q : ℕ) → q < p → (b : Bool) (v : ℕ) → v < 8 → StepHolds π E q b v

  pub steps_fail : (p : ℕ) (r : Result (Unit {0}) Cover) (c : Cover) → r ≡ Err c → PointCovers π E p r → Below p → StepsCover π E r
  steps_fail p r c e h below = rw e (go c (rw e at h))
    where
      go : (c : Cover) → PointCovers π E p (Err c) → StepsCover π E (Err c)
      go (Start v) h = h
      go (Step q next v) h = record {
        second = h.second;
        next_is = rw h.point h.next_is;
        variable = h.variable;
        fails = rw h.point h.fails;
        before = rw h.point (record { points = below; sides = h.sides; variables = h.variables });
      }

  pub steps_go : (p : ℕ) (r : Result (Unit {0}) Cover) → r ≡ Ok tt → PointCovers π E p r → Below p → Below (p + 1)
  steps_go p r e h below q f b v l = go (eqb q p) refl
    where
      here : PointCovers π E p (Ok tt)
      here = rw e at h

      go : (t : Bool) → eqb q p ≡ t → StepHolds π E q b v
      go true i = rw (eqb-true q p i) (here b v l)
      go false i = let n = eqb-false q p i in below q (omega arith) b v l

  pub steps_end : (points p : ℕ) → points ≡ length π.program → points ≤ p → Below p → StepsCover π E (Ok tt)
  steps_end points p e f below q b v l = go (ltb q points) refl
    where
      go : (t : Bool) → ltb q points ≡ t → StepHolds π E q b v
      go true i = let h = ltb-true q points i in below q (omega arith) b v l
      go false i = rw (past_stops π.program q (let h = ltb-false q points i in omega arith)) tt

  -- The start before the steps.
  pub start_fails : (v : ℕ) → Lowest (StartHolds π E) v → v < 8 → StartUncovered π E v
  start_fails v L f = record { variable = f; fails = L.fails f; before = L.below }

  pub start_refused : (c : Cover) → RefusesLowest Start (StartHolds π E) (Err c) → Covers π E (Err c)
  start_refused c (v, (is, (low, L))) = rw is (start_fails v L low)

  pub start_then : (v : ℕ) → Lowest (StartHolds π E) v → 8 ≤ v → (r : Result (Unit {0}) Cover) → StepsCover π E r → Covers π E r
  start_then v L f (Ok u) h = record { start = λ u l. L.below u (omega arith); steps = h }
  start_then v L f (Err (Start u)) h = absurd h
  start_then v L f (Err (Step p next u)) h = record {
    second = h.second;
    next_is = h.next_is;
    start = λ u l. L.below u (omega arith);
    variable = h.variable;
    fails = h.fails;
    before = h.before;
  }
