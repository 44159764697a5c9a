-- All that has words, with templates as origins, covers every script that was read.
use Prim.Native.Nat.{ℕ, ◌-◌, ◌≤◌, ◌<◌}
use mathlib.Core.Path.{◌≡◌, refl, sym, ap, ◌∙◌}
use mathlib.Core.List.{List}
use mathlib.Core.Logic.{inl, inr}
use mathlib.Core.Bool.{Bool, true, false, cond, ◌&&◌, ◌||◌, false≢true}
use native.Mathlib.Omega.{arith}
use lib.ListN.{length, get_or}
use lib.Dec.{eqb, ltb}
use borrow.Author.Tests.{eqb-true, lt-ltb, ltb-true, ltb-false}
use Rattle.pages.specs.Items.{Items, none}
use Rattle.pages.specs.Inner.Gaps.{GapsAre, GapsTable}
use Rattle.pages.proofs.Gathering.{no_gaps}
use Rattle.programs.specs.Program.{Act, Statement, step, stop, statement_at, template_variable, string_variable}
use Rattle.programs.specs.ProgramReading.{act_templates_there}
use Rattle.programs.specs.Inner.Promises.{ActFits, statement_here}
use Rattle.programs.proofs.Decoding.{statement_fits}
use Rattle.summaries.specs.Proposal.{Claim, root, edge, string, gap_from, attribute_gap_from}
use Rattle.summaries.specs.ProposalReading.{variable_of}
use Rattle.summaries.specs.Summaries.{Summary, fragment, plug_summary, plug_string_summary, transfer}
use Rattle.summaries.specs.Covering.{WithinAt, start_environment}
use Rattle.jobs.specs.Job.{Script}
use Rattle.jobs.specs.JobVerdict.{AllCovered, StatementHolds}
use Rattle.jobs.specs.Inner.ScriptTables.{ScriptTables}
use Rattle.transfers.specs.declared.Made.{Made}
use Rattle.transfers.specs.declared.Made.TheVariants.{Value, Template, Plugged, Filled}
use Rattle.transfers.specs.Inner.Ways.{made_by, summary_made, MadeFits, MadeThere}
use Rattle.transfers.proofs.Transfers.{made_is, made_fits, made_there}
use Rattle.sets.proofs.Booleans.{or_cases, and_both, and_left, and_right}
use Rattle.programs.proofs.AtPoints.{past_stops}
use Rattle.solver.specs.Inner.Work.{inside, everything}

abbrev Inside : Summary → Type 0
Inside S = (c : Claim) → S c ≡ true → inside c ≡ true

module _ (t word : ℕ) (φ : Items) (low : t < 32) (g : GapsAre word φ) where
  fragment_inside : Inside (fragment t φ)
  fragment_inside (root m) e = refl
  fragment_inside (edge m k n) e = absurd (false≢true e)
  fragment_inside (string m h s) e = absurd (false≢true e)
  fragment_inside (gap_from k m) e =
      let q : m ≡ t = eqb-true m t (and_left _ _ e) in
      and_both _ _ (lt-ltb m 32 (omega arith)) (and_left _ _ (sym (g.gaps k) ∙ and_right (eqb m t) _ e))
  fragment_inside (attribute_gap_from h m) e =
      let q : m ≡ t = eqb-true m t (and_left _ _ e) in
      and_both _ _ (lt-ltb m 32 (omega arith)) (and_left _ _ (sym (g.attributes h) ∙ and_right (eqb m t) _ e))

plug_inside : (g : ℕ) → Inside (plug_summary g inside inside)
plug_inside g (root n) e = refl
plug_inside g (edge n k m) e = elim (or_cases (inside (edge n k m) || inside (edge n k m)) ((eqb k g && inside (gap_from k n)) && inside (root m)) e) [
  | inl h ↦ elim (or_cases (inside (edge n k m)) (inside (edge n k m)) h) [ inl a ↦ a | inr a ↦ a ]
  | inr h ↦ and_right (eqb k g) _ (and_left _ _ h)
]
plug_inside g (string n h s) e = elim (or_cases (inside (string n h s)) (inside (string n h s)) e) [ inl a ↦ a | inr a ↦ a ]
plug_inside g (gap_from k n) e = go (eqb k g) e
  where
    go : (t : Bool) → cond t (inside (gap_from k n)) (inside (gap_from k n) || inside (gap_from k n)) ≡ true → inside (gap_from k n) ≡ true
    go true q = q
    go false q = elim (or_cases (inside (gap_from k n)) (inside (gap_from k n)) q) [ inl a ↦ a | inr a ↦ a ]
plug_inside g (attribute_gap_from h n) e = elim (or_cases (inside (attribute_gap_from h n)) (inside (attribute_gap_from h n)) e) [ inl a ↦ a | inr a ↦ a ]

fill_inside : (h : ℕ) → Inside (plug_string_summary h inside (λ s. true))
fill_inside h (root n) e = refl
fill_inside h (edge n g m) e = e
fill_inside h (string n k s) e = elim (or_cases (inside (string n k s)) ((eqb k h && inside (attribute_gap_from k n)) && true) e) [
  | inl a ↦ a
  | inr a ↦ and_right (eqb k h) _ (and_left _ _ a)
]
fill_inside h (gap_from g n) e = e
fill_inside h (attribute_gap_from k n) e = go (eqb k h) e
  where
    go : (t : Bool) → cond t false (inside (attribute_gap_from k n)) ≡ true → inside (attribute_gap_from k n) ≡ true
    go true q = absurd (false≢true q)
    go false q = q

module _ (φs : List Items) (gaps : List ℕ) (few : length φs ≤ 31) (G : GapsTable gaps φs) where
  made_inside : (way : Made) → MadeFits way → MadeThere (length φs) way → (p : ℕ) → Inside (summary_made φs (everything p) way)
  made_inside (Value x) f t p = λ c e. e
  made_inside (Template k) f t p = fragment_inside k (get_or gaps k 0) _ f (G k t)
  made_inside (Plugged x g y) f t p = plug_inside g
  made_inside (Filled x h y) f t p = fill_inside h

  act_inside : (a : Act) → ActFits a → act_templates_there (length φs) a ≡ true → (p next v : ℕ) → v < 8 → WithinAt (variable_of v) (transfer φs a (everything p)) (everything next)
  act_inside a f t p next v low = go (ltb v 4) refl
    where
      go : (b : Bool) → ltb v 4 ≡ b → WithinAt (cond b (template_variable v) (string_variable (v - 4))) (transfer φs a (everything p)) (everything next)
      go true l = λ c e.
          made_inside (made_by a v) (made_fits v (ltb-true v 4 l) (length φs) few a f t) (made_there v (length φs) a t) p c (sym (ap (λ (S : Summary). S c) (made_is φs (everything p) a v)) ∙ e)
      go false l = λ s e. refl

pub start_inside : (v : ℕ) → v < 8 → WithinAt (variable_of v) start_environment (everything 0)
start_inside v low = go (ltb v 4)
  where
    go : (b : Bool) → WithinAt (cond b (template_variable v) (string_variable (v - 4))) start_environment (everything 0)
    go true = fragment_inside 0 0 none (omega arith) no_gaps
    go false = λ s e. refl

module _ (π : Script) (s : List ℕ) (count : ℕ) (starts : List ℕ) (points : ℕ) (places : List ℕ) (names : ℕ) (T : ScriptTables π s count starts points places names)
    (gaps : List ℕ) (G : GapsTable gaps π.templates) where
  -- What is known of the statement of a point.
  module _ (p : ℕ) (there : p < points) (a : Act) (q q' : ℕ) (is : statement_at π.program p ≡ step a q q') where
    pub act_fits : ActFits a
    act_fits =
        let here : statement_here s (get_or places p 0) ≡ step a q q' = (T.statement p there).is ∙ is in
        rw here at (statement_fits s (get_or places p 0) (T.statement p there).ranges)

    pub act_there : act_templates_there (length π.templates) a ≡ true
    act_there = rw (T.count_is, is) at (T.statement p there).template_there

    next_there : (ltb q points && ltb q' points) ≡ true
    next_there = rw is at (T.points_there_lem p there)

    pub first_there : q < points
    first_there = ltb-true q points (and_left _ _ next_there)

    pub second_there : q' < points
    second_there = ltb-true q' points (and_right (ltb q points) _ next_there)

  pub few_there : length π.templates ≤ 31
  few_there = rw (← T.count_is) T.few_templates

  step_inside : (p : ℕ) (t : Statement) → statement_at π.program p ≡ t → (b : Bool) (v : ℕ) → v < 8 → StatementHolds π everything p t b v
  step_inside p stop is b v low = tt
  step_inside p (step a q q') is b v low = λ n. go (ltb p points) refl
    where
      go : (u : Bool) → ltb p points ≡ u → WithinAt (variable_of v) (transfer π.templates a (everything p)) (everything (cond b q' q))
      go true l =
          let there = ltb-true p points l in
          act_inside π.templates gaps few_there G a (act_fits p there a q q' is) (act_there p there a q q' is) p (cond b q' q) v low
      go false l =
          let far = ltb-false p points l in
          let past : statement_at π.program p ≡ stop = past_stops π.program p (omega (arith, T.points_are)) in
          let z : ◌≡◌ {A = ℕ} 0 1 = cc in
          absurd (omega arith)

  pub everything_covers : AllCovered π everything
  everything_covers = record { start = λ v l n. start_inside v l; steps = λ p b v l. step_inside p (statement_at π.program p) refl b v l }
