-- The least entries of a script in range are plain: with a string that is not named they hold every string. No statement sets one of
-- them by itself.
use Prim.Native.Nat.{ℕ, ◌≤◌}
use native.Mathlib.Omega.{arith}
use mathlib.Core.Path.{◌≡◌, refl}
use mathlib.Core.List.{List}
use mathlib.Core.Bool.{Bool, true, false, cond, ◌&&◌, false≢true}
use lib.ListN.{length}
use lib.Dec.{eqb}
use borrow.Author.Tests.{eqb-true, eq-eqb}
use Rattle.commands.specs.Commands.{strings}
use Rattle.pages.specs.Items.{Items}
use Rattle.programs.specs.Program.{Act, copy_template, set_template, copy_string, set_string, any_string, plug, plug_string, show, show_framed, step, Variable, template_variable, string_variable}
use Rattle.summaries.specs.Proposal.{root, edge, string, gap_from, attribute_gap_from}
use Rattle.summaries.specs.ProposalReading.{variable_of}
use Rattle.summaries.specs.Summaries.{Summary, Strings, Environment, Within, transfer}
use Rattle.summaries.specs.Covering.{WithinAt, start_environment}
use Rattle.summaries.specs.ProposalOf.{unlisted}
use Rattle.jobs.specs.Job.{Script}
use Rattle.jobs.specs.JobVerdict.{StatementHolds}
use Rattle.jobs.specs.LeastEntries.{Least}
use Rattle.round_trip.specs.JobInRange.{ActInRange, StatementInRange, ScriptInRange}
use Rattle.least_entries.specs.Inner.Order.{Below}
use Rattle.least_entries.specs.Inner.Holding.{Plain}
use Rattle.least_entries.proofs.Transfers.{SetRelated, PlugsKeep, Related, template_related, string_related}
use Rattle.least_entries.proofs.Monotone.{or_grows, and_grows, test_grows, plug_grows, plug_string_grows}
use Rattle.least_entries.proofs.Least.{both, both_first, both_second, least_within}
use Rattle.least_entries.proofs.There.{statement_fits}

-- Where the string u is held, which is not named, s is held.
module _ (u s : ℕ) (other : strings ≤ u) where
  record CarriesStrings (Y Y' : Strings) : Type 0 where
    within : Within Y Y'
    carries : Y u ≡ true → Y' s ≡ true

  record Carries (S S' : Summary) : Type 0 where
    within : Within S S'
    carries : (n h : ℕ) → S (string n h u) ≡ true → S' (string n h s) ≡ true

  plugs_carry : PlugsKeep Carries CarriesStrings
  plugs_carry = record {
    plugs = λ g S S' T T' a b. record {
      within = plug_grows g S S' T T' a.within b.within;
      carries = λ n h. or_grows (S (string n h u)) (S' (string n h s)) (T (string n h u)) (T' (string n h s)) (a.carries n h) (b.carries n h);
    };
    fills = λ k S S' Y Y' a y. record {
      within = plug_string_grows k S S' Y Y' a.within y.within;
      carries = λ n h. or_grows (S (string n h u)) (S' (string n h s)) (eqb h k && S (attribute_gap_from h n) && Y u) (eqb h k && S' (attribute_gap_from h n) && Y' s) (a.carries n h)
          (and_grows (eqb h k && S (attribute_gap_from h n)) (eqb h k && S' (attribute_gap_from h n)) (Y u) (Y' s) (test_grows (eqb h k) _ _ (a.within (attribute_gap_from h n))) y.carries);
    };
  }

  sets_carry : (count : ℕ) (φs : List Items) (a : Act) → ActInRange count a → SetRelated Carries CarriesStrings φs a
  sets_carry count φs (copy_template x x') i = tt
  sets_carry count φs (set_template x t) i = record { within = λ c e. e; carries = λ n h e. absurd (false≢true e) }
  sets_carry count φs (copy_string y y') i = tt
  sets_carry count φs (set_string y t) i = record { within = λ r e. e; carries = λ e. let same = eqb-true u t e in absurd (omega (arith, i.1)) }
  sets_carry count φs (any_string y) i = record { within = λ r e. e; carries = λ e. refl }
  sets_carry count φs (plug x x' g x'') i = tt
  sets_carry count φs (plug_string x x' h y) i = tt
  sets_carry count φs (show x) i = tt
  sets_carry count φs (show_framed x t g) i = tt

  -- What may be held beside E if u carries s.
  abbrev carried_claims : Summary → Summary
  carried_claims S (root n) = true
  carried_claims S (edge n g m) = true
  carried_claims S (string n h t) = cond (eqb t u) (S (string n h s)) true
  carried_claims S (gap_from g n) = true
  carried_claims S (attribute_gap_from h n) = true

  abbrev carried_strings : Strings → Strings
  carried_strings Y t = cond (eqb t u) (Y s) true

  abbrev carried : Environment → Environment
  carried E = record { template = λ x. carried_claims (E.template x); string = λ y. carried_strings (E.string y) }

  carried_is : (b : Bool) → cond (eqb u u) b true ≡ true → b ≡ true
  carried_is b e = rw (eq-eqb u u refl) at e

  strings_carried : (Y Z : Strings) → (Y u ≡ true → Z s ≡ true) → Within Y (carried_strings Z)
  strings_carried Y Z h t e = by_test (eqb t u) refl
    where
      by_test : (b : Bool) → eqb t u ≡ b → cond b (Z s) true ≡ true
      by_test true q = h (rw (← (eqb-true t u q)) e)
      by_test false q = refl

  claims_carried : (S T : Summary) → ((n h : ℕ) → S (string n h u) ≡ true → T (string n h s) ≡ true) → Within S (carried_claims T)
  claims_carried S T h (root n) e = refl
  claims_carried S T h (edge n g m) e = refl
  claims_carried S T h (string n k t) e = strings_carried (λ r. S (string n k r)) (λ r. T (string n k r)) (h n k) t e
  claims_carried S T h (gap_from g n) e = refl
  claims_carried S T h (attribute_gap_from k n) e = refl

  start_carried : (v : Variable) (E : Environment) → WithinAt v start_environment (carried E)
  start_carried (template_variable x) E = claims_carried (start_environment.template x) (E.template x) (λ n h e. absurd (false≢true e))
  start_carried (string_variable y) E = strings_carried (start_environment.string y) (E.string y) (λ e. let same = eqb-true u 0 e in absurd (omega arith))

  kept_carries : (E : Environment) → Related Carries CarriesStrings (both E (carried E)) E
  kept_carries E = record {
    template = λ x. record {
      within = both_first E (carried E) (template_variable x);
      carries = λ n h e. carried_is (E.template x (string n h s)) (both_second E (carried E) (template_variable x) (string n h u) e);
    };
    string = λ y. record {
      within = both_first E (carried E) (string_variable y);
      carries = λ e. carried_is (E.string y s) (both_second E (carried E) (string_variable y) u e);
    };
  }

  step_carried : (count : ℕ) (φs : List Items) (a : Act) → ActInRange count a → (E F : Environment) (v : Variable) → WithinAt v (transfer φs a E) F
      → WithinAt v (transfer φs a (both E (carried E))) (carried F)
  step_carried count φs a i E F (template_variable x) w =
      let r = template_related Carries CarriesStrings φs plugs_carry (both E (carried E)) E (kept_carries E) a (sets_carry count φs a i) x in
      claims_carried ((transfer φs a (both E (carried E))).template x) (F.template x) (λ n h e. w (string n h s) (r.carries n h e))
  step_carried count φs a i E F (string_variable y) w =
      let r = string_related Carries CarriesStrings φs plugs_carry (both E (carried E)) E (kept_carries E) a (sets_carry count φs a i) y in
      strings_carried ((transfer φs a (both E (carried E))).string y) (F.string y) (λ e. w s (r.carries e))

  carries_all : (π : Script) (E : ℕ → Environment) → ScriptInRange π → Least π E → (p : ℕ) → Below (E p) (carried (E p))
  carries_all π E i least = least_within π E (λ p. carried (E p)) least (record {
    start = λ v l n. start_carried (variable_of v) (E 0);
    steps = λ p a q q' e second v l n.
        let t : StatementInRange (length π.templates) (length π.program) (step a q q') =
        rw e at (statement_fits (length π.templates) (length π.program) π.program i.program.statements p) in
        let h : StatementHolds π E p (step a q q') second v = rw e at (least.covers.steps p second v l) in
        step_carried (length π.templates) π.templates a t.0 (E p) (E (cond second q' q)) (variable_of v) (h n);
  })

  pub template_carries : (π : Script) (E : ℕ → Environment) → ScriptInRange π → Least π E
      → (p x n h : ℕ) → (E p).template x (string n h u) ≡ true → (E p).template x (string n h s) ≡ true
  template_carries π E i least p x n h e = carried_is ((E p).template x (string n h s)) (carries_all π E i least p (template_variable x) (string n h u) e)

  pub string_carries : (π : Script) (E : ℕ → Environment) → ScriptInRange π → Least π E → (p y : ℕ) → (E p).string y u ≡ true → (E p).string y s ≡ true
  string_carries π E i least p y e = carried_is ((E p).string y s) (carries_all π E i least p (string_variable y) u e)

pub least_plain : (π : Script) (E : ℕ → Environment) → ScriptInRange π → Least π E → Plain E
least_plain π E i least = record {
  template = λ p x n h. record {
    one = λ s l. template_carries s unlisted l π E i least p x n h;
    every = λ e s. template_carries unlisted s (omega arith) π E i least p x n h e;
  };
  string = λ p y. record {
    one = λ s l. string_carries s unlisted l π E i least p y;
    every = λ e s. string_carries unlisted s (omega arith) π E i least p y e;
  };
}
