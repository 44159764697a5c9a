-- The least entries of a script in range hold only what is there, and nothing of a variable that no statement names.
use Prim.Native.Nat.{ℕ, zero, suc, ◌≤◌, ◌<◌}
use native.Mathlib.Omega.{arith}
use mathlib.Core.Path.{◌≡◌, refl}
use mathlib.Core.List.{List, [], ◌∷◌}
use mathlib.Core.Bool.{Bool, true, false, cond, ◌&&◌, ◌||◌, false≢true}
use mathlib.Core.Logic.{⊎_elim}
use lib.ListN.{length}
use lib.Dec.{eqb, leb, ltb}
use borrow.Author.Tests.{eqb-true, ltb-true, lt-ltb, le-leb}
use Rattle.vocabularies.specs.Vocabulary.{Vocabulary}
use Rattle.pages.specs.declared.Kind.TheVariants.{Template}
use Rattle.pages.specs.Items.{Value, open_gap, Attribute, Item, text, blank, gap, element, Items, none, more, gap_in, gap_in_item, is_open_gap, open_in, attribute_gap_in, attribute_gap_in_item}
use Rattle.pages.specs.Items as Items
use Rattle.programs.specs.Program.{Act, copy_template, set_template, copy_string, set_string, any_string, plug, plug_string, show, show_framed, Statement, step, statement_at, Variable, template_variable, string_variable, named, template_at}
use Rattle.summaries.specs.Proposal.{Claim, root, edge, string, gap_from, attribute_gap_from}
use Rattle.summaries.specs.ProposalReading.{variable_of}
use Rattle.summaries.specs.Summaries.{Summary, Strings, Environment, fragment, plug_summary, plug_string_summary, transfer}
use Rattle.summaries.specs.Covering.{WithinAt, start_environment}
use Rattle.jobs.specs.Job.{Script}
use Rattle.jobs.specs.LeastEntries.{Least}
use Rattle.round_trip.specs.InRange.{ValueInRange, AttributesInRange, ItemsInRange, ItemInRange}
use Rattle.round_trip.specs.JobInRange.{AllInRange, ActInRange, StatementInRange, StatementsInRange, ScriptInRange}
use Rattle.sets.proofs.Booleans.{or_cases, and_both, and_left, and_right, refuted}
use Rattle.least_entries.specs.Inner.Order.{Below}
use Rattle.least_entries.specs.Inner.Holding.{claim_fits, OnlyThere, HoldsNothing}
use Rattle.least_entries.proofs.Transfers.{SetRelated, template_related}
use Rattle.least_entries.proofs.Rising.{each_variable}
use Rattle.least_entries.proofs.Least.{both, both_second, Inductive, least_within}

-- A variable that no statement names.
module _ (program : List Statement) where
  abbrev of_named : Environment
  of_named = record { template = λ x c. named program (template_variable x); string = λ y s. named program (string_variable y) }

  named_within : (v : Variable) (S : Environment) → named program v ≡ true → WithinAt v S of_named
  named_within (template_variable x) S n = λ c e. n
  named_within (string_variable y) S n = λ s e. n

pub unnamed_nothing : (π : Script) (E : ℕ → Environment) → Least π E → (p : ℕ) (v : Variable) → named π.program v ≡ false → HoldsNothing v (E p)
unnamed_nothing π E least p = nothing
  where
    inductive : Inductive π E (λ q. of_named π.program)
    inductive = record {
      start = λ v l n. named_within π.program (variable_of v) start_environment n;
      steps = λ q a m m' s second v l n. named_within π.program (variable_of v) (transfer π.templates a (both (E q) (of_named π.program))) n;
    }

    within : Below (E p) (of_named π.program)
    within = least_within π E (λ q. of_named π.program) least inductive p

    nothing : (v : Variable) → named π.program v ≡ false → HoldsNothing v (E p)
    nothing (template_variable x) n = λ c. refuted ((E p).template x c) (λ e. false≢true (rw (← n) (within (template_variable x) c e)))
    nothing (string_variable y) n = λ s. refuted ((E p).string y s) (λ e. false≢true (rw (← n) (within (string_variable y) s e)))

-- The gaps of a template in range are 0 to 7.
value_low : (v : Value) → ValueInRange Template v → (h : ℕ) → is_open_gap v h ≡ true → h < 8
value_low (Items.string s) i h e = absurd (false≢true e)
value_low (open_gap k) i h e = let same = eqb-true k h e in omega arith

open_low : (δ : List Attribute) → AttributesInRange Template δ → (h : ℕ) → open_in δ h ≡ true → h < 8
unfolding AttributesInRange open_in
open_low [] i h e = absurd (false≢true e)
open_low (a ∷ δ) i h e = ⊎_elim (value_low a.value i.1 h) (open_low δ i.2 h) (or_cases (is_open_gap a.value h) (open_in δ h) e)

module _ (ruled : ℕ → Bool) where
  mutual
    unfolding ItemsInRange gap_in

    gap_low_lem : (φ : Items) → ItemsInRange Template ruled φ → (g : ℕ) → gap_in φ g ≡ true → g < 8
    gap_low_lem none i g e = absurd (false≢true e)
    gap_low_lem (more j φ) i g e = ⊎_elim (λ q. item_gap_low j i.0 g q) (λ q. gap_low_lem φ i.1 g q) (or_cases (gap_in_item j g) (gap_in φ g) e)

    item_gap_low : (j : Item) → ItemInRange Template ruled j → (g : ℕ) → gap_in_item j g ≡ true → g < 8
    item_gap_low text i g e = absurd (false≢true e)
    item_gap_low blank i g e = absurd (false≢true e)
    item_gap_low (gap k) i g e = let same = eqb-true k g e in omega arith
    item_gap_low (element n mark δ φ) i g e = gap_low_lem φ i.4 g e

  mutual
    unfolding ItemsInRange attribute_gap_in

    attribute_gap_low : (φ : Items) → ItemsInRange Template ruled φ → (h : ℕ) → attribute_gap_in φ h ≡ true → h < 8
    attribute_gap_low none i h e = absurd (false≢true e)
    attribute_gap_low (more j φ) i h e = ⊎_elim (λ q. item_attribute_gap_low j i.0 h q) (λ q. attribute_gap_low φ i.1 h q) (or_cases (attribute_gap_in_item j h) (attribute_gap_in φ h) e)

    item_attribute_gap_low : (j : Item) → ItemInRange Template ruled j → (h : ℕ) → attribute_gap_in_item j h ≡ true → h < 8
    item_attribute_gap_low text i h e = absurd (false≢true e)
    item_attribute_gap_low blank i h e = absurd (false≢true e)
    item_attribute_gap_low (gap k) i h e = absurd (false≢true e)
    item_attribute_gap_low (element n mark δ φ) i h e = ⊎_elim (open_low δ i.2 h) (λ q. attribute_gap_low φ i.4 h q) (or_cases (open_in δ h) (attribute_gap_in φ h) e)

record LowGaps (φ : Items) : Type 0 where
  gaps : (g : ℕ) → gap_in φ g ≡ true → g < 8
  attribute_gaps : (h : ℕ) → attribute_gap_in φ h ≡ true → h < 8

none_low : LowGaps none
unfolding gap_in attribute_gap_in
none_low = record { gaps = λ g e. absurd (false≢true e); attribute_gaps = λ h e. absurd (false≢true e) }

templates_low : (D : Vocabulary) (φs : List Items) → AllInRange D φs → (t : ℕ) → LowGaps (template_at φs t)
unfolding AllInRange template_at
templates_low D [] i t = none_low
templates_low D (φ ∷ φs) i zero = none_low
templates_low D (φ ∷ φs) i (suc zero) = record { gaps = gap_low_lem _ φ i.0.items; attribute_gaps = attribute_gap_low _ φ i.0.items }
templates_low D (φ ∷ φs) i (suc (suc t)) = templates_low D φs i.1 (suc t)

-- Summaries with templates and gaps that are there, which the transfer functions keep.
module _ (count : ℕ) where
  abbrev Fits : Summary → Type 0
  Fits S = (c : Claim) → S c ≡ true → claim_fits count c ≡ true

  fragment_fits : (t : ℕ) (φ : Items) → t ≤ count → LowGaps φ → Fits (fragment t φ)
  fragment_fits t φ l low (root n) e =
      let same = eqb-true n t e in
      and_both (leb n count) true (le-leb n count (omega arith)) refl
  fragment_fits t φ l low (edge n g m) e = absurd (false≢true e)
  fragment_fits t φ l low (string n h s) e = absurd (false≢true e)
  fragment_fits t φ l low (gap_from g n) e =
      let same = eqb-true n t (and_left (eqb n t) (gap_in φ g) e) in
      and_both (leb n count) (ltb g 8) (le-leb n count (omega arith)) (lt-ltb g 8 (low.gaps g (and_right (eqb n t) (gap_in φ g) e)))
  fragment_fits t φ l low (attribute_gap_from h n) e =
      let same = eqb-true n t (and_left (eqb n t) (attribute_gap_in φ h) e) in
      and_both (leb n count) (ltb h 8) (le-leb n count (omega arith)) (lt-ltb h 8 (low.attribute_gaps h (and_right (eqb n t) (attribute_gap_in φ h) e)))

  plug_fits : (g : ℕ) (S T : Summary) → Fits S → Fits T → Fits (plug_summary g S T)
  plug_fits g S T s t (root n) e = s (root n) e
  plug_fits g S T s t (edge n k m) e = ⊎_elim
      (λ q. ⊎_elim (s (edge n k m)) (t (edge n k m)) (or_cases (S (edge n k m)) (T (edge n k m)) q))
      (λ q.
      let from = s (gap_from k n) (and_right (eqb k g) (S (gap_from k n)) (and_left (eqb k g && S (gap_from k n)) (T (root m)) q)) in
      let to = t (root m) (and_right (eqb k g && S (gap_from k n)) (T (root m)) q) in
      and_both (leb n count && leb m count) (ltb k 8)
      (and_both (leb n count) (leb m count) (and_left (leb n count) (ltb k 8) from) (and_left (leb m count) true to))
      (and_right (leb n count) (ltb k 8) from))
      (or_cases (S (edge n k m) || T (edge n k m)) (eqb k g && S (gap_from k n) && T (root m)) e)
  plug_fits g S T s t (string n h u) e = ⊎_elim (s (string n h u)) (t (string n h u)) (or_cases (S (string n h u)) (T (string n h u)) e)
  plug_fits g S T s t (gap_from k n) e = by_test (eqb k g) e
    where
      by_test : (b : Bool) → cond b (T (gap_from k n)) (S (gap_from k n) || T (gap_from k n)) ≡ true → claim_fits count (gap_from k n) ≡ true
      by_test true q = t (gap_from k n) q
      by_test false q = ⊎_elim (s (gap_from k n)) (t (gap_from k n)) (or_cases (S (gap_from k n)) (T (gap_from k n)) q)
  plug_fits g S T s t (attribute_gap_from h n) e = ⊎_elim (s (attribute_gap_from h n)) (t (attribute_gap_from h n)) (or_cases (S (attribute_gap_from h n)) (T (attribute_gap_from h n)) e)

  plug_string_fits : (h : ℕ) (S : Summary) (Y : Strings) → Fits S → Fits (plug_string_summary h S Y)
  plug_string_fits h S Y s (root n) e = s (root n) e
  plug_string_fits h S Y s (edge n g m) e = s (edge n g m) e
  plug_string_fits h S Y s (string n k u) e = ⊎_elim
      (s (string n k u))
      (λ q. s (attribute_gap_from k n) (and_right (eqb k h) (S (attribute_gap_from k n)) (and_left (eqb k h && S (attribute_gap_from k n)) (Y u) q)))
      (or_cases (S (string n k u)) (eqb k h && S (attribute_gap_from k n) && Y u) e)
  plug_string_fits h S Y s (gap_from g n) e = s (gap_from g n) e
  plug_string_fits h S Y s (attribute_gap_from k n) e = by_test (eqb k h) e
    where
      by_test : (b : Bool) → cond b false (S (attribute_gap_from k n)) ≡ true → claim_fits count (attribute_gap_from k n) ≡ true
      by_test true q = absurd (false≢true q)
      by_test false q = s (attribute_gap_from k n) q

  abbrev FitsToo : Summary → Summary → Type 0
  FitsToo S S' = Fits S

  -- Of strings nothing is asked.
  abbrev AnyStrings : Strings → Strings → Type 0
  AnyStrings Y Y' = Unit {0}

  module _ (φs : List Items) (low : (t : ℕ) → LowGaps (template_at φs t)) where
    sets_fit : (a : Act) → ActInRange count a → SetRelated FitsToo AnyStrings φs a
    sets_fit (copy_template x x') i = tt
    sets_fit (set_template x t) i = fragment_fits t (template_at φs t) i.1 (low t)
    sets_fit (copy_string y y') i = tt
    sets_fit (set_string y s) i = tt
    sets_fit (any_string y) i = tt
    sets_fit (plug x x' g x'') i = tt
    sets_fit (plug_string x x' h y) i = tt
    sets_fit (show x) i = tt
    sets_fit (show_framed x t g) i = tt

    transfer_fits : (a : Act) → ActInRange count a → (E : Environment) → ((x : ℕ) → Fits (E.template x)) → (x : ℕ) → Fits ((transfer φs a E).template x)
    transfer_fits a i E f =
        template_related FitsToo AnyStrings φs
        (record { plugs = λ g S S' T T' s t. plug_fits g S T s t; fills = λ h S S' Y Y' s y. plug_string_fits h S Y s })
        E E (record { template = f; string = λ y. tt }) a (sets_fit a i)

-- The statement of a point.
pub statement_fits : (count points : ℕ) (ts : List Statement) → StatementsInRange count points ts → (p : ℕ) → StatementInRange count points (statement_at ts p)
unfolding StatementsInRange statement_at
statement_fits count points [] i p = tt
statement_fits count points (t ∷ ts) i zero = i.0
statement_fits count points (t ∷ ts) i (suc p) = statement_fits count points ts i.1 p

-- All that is there, at each point.
module _ (count points : ℕ) where
  abbrev all_there : ℕ → Environment
  all_there p = record { template = λ x c. ltb p points && ltb x 4 && claim_fits count c; string = λ y s. ltb p points && ltb y 4 }

  there_within : (p : ℕ) → p < points → (S : Environment) → ((x : ℕ) → Fits count (S.template x)) → (v : ℕ) → v < 8 → WithinAt (variable_of v) S (all_there p)
  there_within p l S f = each_variable (λ n w. WithinAt w S (all_there p))
      (λ x m c e. and_both (ltb p points && ltb x 4) (claim_fits count c) (and_both (ltb p points) (ltb x 4) (lt-ltb p points l) (lt-ltb x 4 m)) (f x c e))
      (λ y m s e. and_both (ltb p points) (ltb y 4) (lt-ltb p points l) (lt-ltb y 4 m))

pub least_there : (π : Script) (E : ℕ → Environment) → ScriptInRange π → Least π E → OnlyThere (length π.templates) (length π.program) E
least_there π E i least = record {
  template = λ p x c e.
      let k = within p (template_variable x) c e in
      let place = and_left (ltb p points && ltb x 4) (claim_fits count c) k in (
        ltb-true p points (and_left (ltb p points) (ltb x 4) place),
        ltb-true x 4 (and_right (ltb p points) (ltb x 4) place),
        and_right (ltb p points && ltb x 4) (claim_fits count c) k,
      );
  string = λ p y s e.
      let k = within p (string_variable y) s e in
      (ltb-true p points (and_left (ltb p points) (ltb y 4) k), ltb-true y 4 (and_right (ltb p points) (ltb y 4) k));
}
  where
    count : ℕ
    count = length π.templates

    points : ℕ
    points = length π.program

    kept_fits : (p x : ℕ) → Fits count ((both (E p) (all_there count points p)).template x)
    kept_fits p x c e = and_right (ltb p points && ltb x 4) (claim_fits count c) (both_second (E p) (all_there count points p) (template_variable x) c e)

    next_low : (second : Bool) (q q' : ℕ) → q < points → q' < points → cond second q' q < points
    next_low true q q' l l' = l'
    next_low false q q' l l' = l

    inductive : Inductive π E (all_there count points)
    inductive = record {
      start = λ v l n. there_within count points 0 i.program.least start_environment (λ x. fragment_fits count 0 none (omega arith) none_low) v l;
      steps = λ p a q q' s second v l n.
          let t : StatementInRange count points (step a q q') = rw s at (statement_fits count points π.program i.program.statements p) in
          let made = transfer π.templates a (both (E p) (all_there count points p)) in
          there_within count points (cond second q' q) (next_low second q q' t.1 t.2) made
          (transfer_fits count π.templates (templates_low π.vocabulary π.templates i.templates.all) a t.0 (both (E p) (all_there count points p)) (kept_fits p)) v l;
    }

    within : (p : ℕ) → Below (E p) (all_there count points p)
    within = least_within π E (all_there count points) least inductive
