-- A step is taken at one variable after the other.
use Prim.Native.Nat.{ℕ, ◌+◌, ◌-◌, ◌≤◌, ◌<◌}
use mathlib.Core.Path.{◌≡◌, refl, sym, ◌∙◌}
use mathlib.Core.List.{List}
use mathlib.Core.Logic.{inl, inr}
use mathlib.Core.Bool.{Bool, true, false, ◌&&◌, ◌||◌, and-false, false≢true}
use native.Mathlib.Omega.{arith}
use lib.Dec.{eqb, ltb}
use borrow.Author.Tests.{eq-eqb, lt-ltb, le-ltb}
use Rattle.sets.specs.Sets.{member}
use Rattle.sets.proofs.Laws.{member_zero}
use Rattle.programs.specs.Program.{Act, Variable, template_variable, string_variable, named}
use Rattle.summaries.specs.Proposal.{Claim, root, edge, string, gap_from, attribute_gap_from}
use Rattle.summaries.specs.ProposalReading.{variable_of}
use Rattle.summaries.specs.Summaries.{Environment, transfer}
use Rattle.summaries.specs.Covering.{WithinAt}
use Rattle.jobs.specs.Job.{Script}
use Rattle.transfers.specs.declared.Made.{Made}
use Rattle.transfers.specs.declared.MadeString.{MadeString}
use Rattle.transfers.specs.Inner.Ways.{made_by, string_made_by, sources, string_sources, act_sources, among, meets}
use Rattle.graphs.specs.Inner.Growth.{Grows}
use Rattle.sets.proofs.Booleans.{or_right, or_neither, and_both, and_left, and_right}
use Rattle.graphs.proofs.Growth.{unchanged_grows}
use Rattle.states.specs.Inner.States.{in_words, entries_in}
use Rattle.least_entries.proofs.Monotone.{transfer_grows}
use Rattle.solver.specs.Inner.Flows.{BelowAll, Flows}
use Rattle.solver.specs.Inner.Work.{Entered, HasWords, VariableFlows, anew, NeededFlows, inside, everything, StepStands, RisesOr, Flowed}
use Rattle.solver.proofs.Variables.{among_number, among_more}
use Rattle.solver.proofs.Worklist.{within_trans, covered_by, flows_from, flows_past, flows_on}

-- A variable, as `40` numbers it.
module _ (before gaps : List ℕ) (a : Act) (p next v : ℕ) (after : List ℕ) (changed : Bool) where
  pub flows_template : v < 4 → VariableFlows before gaps a p next (template_variable v) after changed → VariableFlows before gaps a p next (variable_of v) after changed
  flows_template l f = rw (lt-ltb v 4 l) f

  pub flows_string : 4 ≤ v → VariableFlows before gaps a p next (string_variable (v - 4)) after changed → VariableFlows before gaps a p next (variable_of v) after changed
  flows_string l f = rw (le-ltb v 4 l) f

  module _ (names fresh : ℕ) where
    pub needed_flows : anew names fresh a v ≡ true → VariableFlows before gaps a p next (variable_of v) after changed → NeededFlows before gaps names fresh a p next v after changed
    needed_flows e f = record { flows = λ _. f; left = λ n. absurd (false≢true (sym n ∙ e)) }

-- Whether it is made from a fresh one, and whether some statement names it.
module _ (a : Act) (fresh v : ℕ) where
  pub made_template : (way : Made) (r : Bool) → v < 4 → way ≡ made_by a v → r ≡ meets (among fresh) (sources v way) → r ≡ meets (among fresh) (act_sources a (variable_of v))
  made_template way r l is e = rw (lt-ltb v 4 l) (rw is at e)

  pub made_string : (way : MadeString) (r : Bool) → 4 ≤ v → way ≡ string_made_by a (v - 4) → r ≡ meets (among fresh) (string_sources (v - 4) way) → r ≡ meets (among fresh) (act_sources a (variable_of v))
  made_string way r l is e = rw (le-ltb v 4 l) (rw is at e)

  pub needed : (names : ℕ) (h m t : Bool) → h ≡ member names v → m ≡ meets (among fresh) (act_sources a (variable_of v)) → (h && m) ≡ t → anew names fresh a v ≡ t
  needed names h m t is is' e = rw (is, is') at e

pub not_needed : (before gaps : List ℕ) (names fresh : ℕ) (a : Act) (p next v : ℕ) → anew names fresh a v ≡ false → NeededFlows before gaps names fresh a p next v before false
not_needed before gaps names fresh a p next v e = record { flows = λ n. absurd (false≢true (sym e ∙ n)); left = λ _. (refl, refl) }

-- What lies within everything has words.
inside_words : (c : Claim) → inside c ≡ true → in_words c ≡ true
inside_words (root n) e = refl
inside_words (edge n g m) e = e
inside_words (string n h s) e = e
inside_words (gap_from g n) e = and_right (ltb n 32) _ e
inside_words (attribute_gap_from h n) e = and_right (ltb n 32) _ e

pub has_words : (v : Variable) (G : Environment) (q : ℕ) → WithinAt v G (everything q) → HasWords v G
has_words (template_variable x) G q w = λ c e. inside_words c (w c e)
has_words (string_variable y) G q w = tt

module _ (before gaps : List ℕ) (names fresh : ℕ) (a : Act) (p next : ℕ) where
  pub flowing_begins : Flowed 0 before gaps names fresh a p next before 0
  flowing_begins = record {
    flows = λ π points S b. flows_from π p a next (entries_in points before) (among fresh) (among 0);
    rises = inr (refl, member_zero);
  }

  module _ (v : ℕ) (low : v < 8) (work after : List ℕ) (changed changed' : ℕ) (rises : Bool) (F : Flowed v before gaps names fresh a p next work changed)
      (N : NeededFlows work gaps names fresh a p next v after rises) (is : (k : ℕ) → member changed' k ≡ ((eqb k v && rises) || member changed k)) where
    more : (w : Variable) → among changed w ≡ true → among changed' w ≡ true
    more = among_more changed changed' (λ k m. is k ∙ or_right (eqb k v && rises) (member changed k) m)

    -- It has not changed where it is not put into the set.
    unchanged : among changed' (variable_of v) ≡ false → rises ≡ false
    unchanged n =
        let m : ((eqb v v && rises) || member changed v) ≡ false = sym (is v) ∙ sym (among_number changed' v low) ∙ n in
        rw (eq-eqb v v refl) at (or_neither (eqb v v && rises) (member changed v) m).0

    risen : (G : Grows work after rises) (t : Bool) → rises ≡ t → RisesOr before work ((k : ℕ) → member changed k ≡ false) → RisesOr before after ((k : ℕ) → member changed' k ≡ false)
    risen G t e (inl l) = inl (omega (arith, l, G.more))
    risen G true e (inr still) = inl (rw (← still.0) (G.strictly e))
    risen G false e (inr still) = inr (G.unchanged e ∙ still.0, λ k. is k ∙ rw (e, and-false (eqb k v)) (still.1 k))

    module _ (π : Script) (points : ℕ) (S : StepStands π gaps names points p next a) (b : BelowAll π (entries_in points before)) where
      so_far : Flows π v (entries_in points before) (entries_in points work) p a next (among fresh) (among changed)
      so_far = F.flows π points S b

      -- The variable is left.
      passed : anew names fresh a v ≡ false → Flows π (v + 1) (entries_in points before) (entries_in points after) p a next (among fresh) (among changed')
      passed e = rw (N.left e).0 (flows_past π p a next (entries_in points before) (entries_in points work) (among fresh) (among changed) (among changed') v so_far more
          (λ n m. false≢true (sym e ∙ and_both (member names v) _ (S.names_are v low ∙ n) m)))

      module _ (e : anew names fresh a v ≡ true) where
        is_named : named π.program (variable_of v) ≡ true
        is_named = sym (S.names_are v low) ∙ and_left _ _ e

        made_within : WithinAt (variable_of v) (transfer π.templates a (entries_in points work p)) (everything next)
        made_within =
            within_trans (variable_of v) (transfer π.templates a (entries_in points work p)) (transfer π.templates a (everything p)) (everything next)
            (transfer_grows π.templates (entries_in points work p) (everything p) (so_far.below S.leads b everything S.bounded p) a (variable_of v))
            (covered_by π p a next S.leads everything S.bounded v low is_named)

        entered : Entered points work next (variable_of v) (transfer π.templates a (entries_in points work p)) after rises
        entered = (N.flows e).entered π.templates points S.act (has_words (variable_of v) _ next made_within)

        taken : Flows π (v + 1) (entries_in points before) (entries_in points after) p a next (among fresh) (among changed')
        taken =
            flows_on π p a next (entries_in points before) (entries_in points work) (among fresh) (among changed) (among changed') v so_far more (entries_in points after) is_named low entered.joins
            (λ n. entered.same (unchanged n))

    pub flowing_goes : Flowed (v + 1) before gaps names fresh a p next after changed'
    flowing_goes = go (anew names fresh a v) refl
      where
        go : (t : Bool) → anew names fresh a v ≡ t → Flowed (v + 1) before gaps names fresh a p next after changed'
        go true e = record { flows = λ π points S b. taken π points S b e; rises = risen (N.flows e).grows rises refl F.rises }
        go false e =
            let l = N.left e in
            let G : Grows work after rises = rw (l.0, l.1) (unchanged_grows work) in
            record { flows = λ π points S b. passed π points S b e; rises = risen G rises refl F.rises }
