-- The values of a run are always described by a covering summary, and so every page shown is right.
use Prim.Native.Nat.{ℕ, ◌+◌, ◌-◌, ◌<◌}
use mathlib.Core.Path.{◌≡◌, refl, sym, ap, subst, ◌∙◌}
use mathlib.Core.List.Memᴰ
use mathlib.Core.List.{List, [], ◌∷◌}
use mathlib.Core.Bool.{Bool, true, false, cond, ◌||◌}
use mathlib.Core.Option.{some}
use mathlib.Core.Logic.{◌⊎◌, ⊎_elim}
use native.Mathlib.Omega.{arith}
use borrow.Author.Tests.{lt-ltb, le-ltb, eq-eqb}
use lib.Dec.{eqb, ltb}
use Rattle.pages.specs.Items.{Items, none}
use Rattle.pages.specs.RightPages.{Right, ◌∈◌}
use Rattle.programs.specs.Program.{Act, copy_template, set_template, copy_string, set_string, any_string, plug, plug_string, show, show_framed, Statement, step, stop, Variable, template_variable, string_variable, act_names, named, statement_at}
use Rattle.programs.specs.Runs.{Choice, State, start, act_templates, act_strings, act_pages, after, stepped, run_from, shown, closed}
use Rattle.programs.proofs.AtPoints.{names_of}
use Rattle.summaries.specs.ProposalReading.{variable_of}
use Rattle.summaries.specs.Summaries.{Summary, Strings, Environment, transfer_template, transfer_string, transfer, fragment}
use Rattle.summaries.specs.Covering.{WithinAt, StepCovered, start_environment}
use Rattle.summaries.specs.Languages.{closed_summary, closed_if_shown, summary_shown, statement_graph, graph_shown}
use Rattle.jobs.specs.Job.{Script}
use Rattle.jobs.specs.JobVerdict.{AllCovered, ShowHolds, StatementHolds}
use Rattle.sets.proofs.Booleans.{or_left, or_right}
use Rattle.soundness.proofs.Described.{Describes, nothing}
use Rattle.soundness.proofs.Statements.{Holds, within_holds, set_template_lem, plug_holds, plug_string_holds}
use Rattle.soundness.proofs.Shows.{shown_in_language, template_zero}

-- Variables that a statement of the program names are 0 to 3.
pub record InRange (ts : List Statement) : Type 0 where
  pub template : (x : ℕ) → named ts (template_variable x) ≡ true → x < 4
  pub string : (y : ℕ) → named ts (string_variable y) ≡ true → y < 4

module _ {A B : Type 0} (R : A → B → Type 0) where
  cond_both : (b : Bool) {x y : A} {x' y' : B} → R x x' → R y y' → R (cond b x y) (cond b x' y')
  cond_both true r q = r
  cond_both false r q = q

-- What one statement does, to the variables that the program names.
module _ (φs : List Items) (E : Environment) (X : ℕ → Items) (Y : ℕ → ℕ) (N : Variable → Bool)
    (h_x : (x : ℕ) → N (template_variable x) ≡ true → Holds (E.template x) φs (X x))
    (h_y : (y : ℕ) → N (string_variable y) ≡ true → E.string y (Y y) ≡ true) where
  abbrev R : Summary → Items → Type 0
  R S v = Holds S φs v

  abbrev Q : Strings → ℕ → Type 0
  Q S s = S s ≡ true

  act_templates_lem : (a : Act) → ((v : Variable) → act_names a v ≡ true → N v ≡ true) → (k : ℕ) → N (template_variable k) ≡ true
      → Holds (transfer_template φs a E k) φs (act_templates φs a X Y k)
  act_templates_lem (copy_template x x') n k e = cond_both R (eqb k x) (h_x x' (n (template_variable x') (or_right (eqb x' x) (eqb x' x') (eq-eqb x' x' refl)))) (h_x k e)
  act_templates_lem (set_template x t) n k e = cond_both R (eqb k x) (set_template_lem φs t) (h_x k e)
  act_templates_lem (copy_string y y') n k e = h_x k e
  act_templates_lem (set_string y s) n k e = h_x k e
  act_templates_lem (any_string y) n k e = h_x k e
  act_templates_lem (plug x x' g x'') n k e = cond_both R (eqb k x)
      (plug_holds g
      (h_x x' (n (template_variable x') (or_left (eqb x' x || eqb x' x') (eqb x' x'') (or_right (eqb x' x) (eqb x' x') (eq-eqb x' x' refl)))))
      (h_x x'' (n (template_variable x'') (or_right (eqb x'' x || eqb x'' x') (eqb x'' x'') (eq-eqb x'' x'' refl)))))
      (h_x k e)
  act_templates_lem (plug_string x x' h y) n k e = cond_both R (eqb k x)
      (plug_string_holds h (E.string y) (Y y) (h_y y (n (string_variable y) (eq-eqb y y refl)))
      (h_x x' (n (template_variable x') (or_right (eqb x' x) (eqb x' x') (eq-eqb x' x' refl)))))
      (h_x k e)
  act_templates_lem (show x) n k e = h_x k e
  act_templates_lem (show_framed x t g) n k e = h_x k e

  act_strings_lem : (a : Act) (s : ℕ) → ((v : Variable) → act_names a v ≡ true → N v ≡ true) → (k : ℕ) → N (string_variable k) ≡ true
      → transfer_string a E k (act_strings a s Y k) ≡ true
  act_strings_lem (copy_template x x') s n k e = h_y k e
  act_strings_lem (set_template x t) s n k e = h_y k e
  act_strings_lem (copy_string y y') s n k e = cond_both Q (eqb k y) (h_y y' (n (string_variable y') (or_right (eqb y' y) (eqb y' y') (eq-eqb y' y' refl)))) (h_y k e)
  act_strings_lem (set_string y t) s n k e = cond_both Q (eqb k y) (eq-eqb t t refl) (h_y k e)
  act_strings_lem (any_string y) s n k e = cond_both Q (eqb k y) refl (h_y k e)
  act_strings_lem (plug x x' g x'') s n k e = h_y k e
  act_strings_lem (plug_string x x' h y) s n k e = h_y k e
  act_strings_lem (show x) s n k e = h_y k e
  act_strings_lem (show_framed x t g) s n k e = h_y k e

module _ (π : Script) (E : ℕ → Environment) (is_in_range : InRange π.program) (covered : AllCovered π E) (shows : (p : ℕ) → ShowHolds π E p) where
  -- What holds at each point of a run.
  pub record Invariant (σ : State) : Type 0 where
    pub template : (x : ℕ) → named π.program (template_variable x) ≡ true → Holds ((E σ.point).template x) π.templates (σ.template x)
    pub string : (y : ℕ) → named π.program (string_variable y) ≡ true → (E σ.point).string y (σ.string y) ≡ true
    pub pages : (page : Items) → page ∈ σ.pages → Right π.vocabulary page

  template_number : (x : ℕ) → x < 4 → variable_of x ≡ template_variable x
  template_number x h = rw (lt-ltb x 4 h)

  string_number : (y : ℕ) → y < 4 → variable_of (y + 4) ≡ string_variable y
  string_number y h =
      let e : ltb (y + 4) 4 ≡ false = le-ltb (y + 4) 4 (omega arith) in
      let q : y + 4 - 4 ≡ y = omega arith in
      rw (e, q)

  begins : Invariant start
  begins = record {
    template = λ x n. within_holds
        (subst (λ (v : Variable). named π.program v ≡ true → WithinAt v start_environment (E 0))
        (template_number x (is_in_range.template x n)) (covered.start x (omega (arith, is_in_range.template x n))) n)
        (record { origin = 0; is_root = refl; describes = subst (λ (φ : Items). Describes (fragment 0 none) π.templates 0 φ none) (sym (template_zero π.templates)) nothing });
    string = λ y n.
        subst (λ (v : Variable). named π.program v ≡ true → WithinAt v start_environment (E 0))
        (string_number y (is_in_range.string y n)) (covered.start (y + 4) (omega (arith, is_in_range.string y n))) n 0 refl;
    pages = λ page m. absurd (Memᴰ.not-nil m);
  }

  graph_at : (p : ℕ) {q q' : ℕ} (a : Act) → statement_at π.program p ≡ step a q q'
      → graph_shown π.templates π.program E p ≡ closed_if_shown (summary_shown π.templates a (E p))
  unfolding graph_shown
  graph_at p a e = ap (λ (t : Statement). statement_graph π.templates t (E p)) e

  -- The step to a next point, in the terms of covering.
  module _ (σ : State) (i : Invariant σ) (a : Act) (q q' : ℕ) (at : statement_at π.program σ.point ≡ step a q q') where
    names : (v : Variable) → act_names a v ≡ true → named π.program v ≡ true
    names v e = names_of π.program σ.point v (rw at e)

    covers : (second : Bool) (n : ℕ) → n < 8
        → StepCovered π.templates π.program E σ.point a (cond second q' q) (variable_of n)
    covers second n h = subst (λ (t : Statement). StatementHolds π E σ.point t second n) at (covered.steps σ.point second n h)

    next_template : (second : Bool) (x : ℕ) → named π.program (template_variable x) ≡ true
        → Holds ((E (cond second q' q)).template x) π.templates (act_templates π.templates a σ.template σ.string x)
    next_template second x n = within_holds
        (subst (λ (v : Variable). named π.program v ≡ true
        → WithinAt v (transfer π.templates a (E σ.point)) (E (cond second q' q)))
        (template_number x (is_in_range.template x n)) (covers second x (omega (arith, is_in_range.template x n))) n)
        (act_templates_lem π.templates (E σ.point) σ.template σ.string (named π.program) i.template i.string a names x n)

    next_string : (second : Bool) (s y : ℕ) → named π.program (string_variable y) ≡ true
        → (E (cond second q' q)).string y (act_strings a s σ.string y) ≡ true
    next_string second s y n =
        subst (λ (v : Variable). named π.program v ≡ true
        → WithinAt v (transfer π.templates a (E σ.point)) (E (cond second q' q)))
        (string_number y (is_in_range.string y n)) (covers second (y + 4) (omega (arith, is_in_range.string y n))) n
        (act_strings a s σ.string y)
        (act_strings_lem π.templates (E σ.point) σ.template σ.string (named π.program) i.template i.string a s names y n)

    -- A page that the summary shown describes is right.
    described_right : (S : Summary) → summary_shown π.templates a (E σ.point) ≡ some S
        → {v page : Items} → Holds S π.templates v → page ∈ (closed v ∷ []) → Right π.vocabulary page
    described_right S s {v} h m = subst (Right π.vocabulary) (sym (Memᴰ.eq_of_singleton m))
        (shows σ.point (closed_summary S) (graph_at σ.point a at ∙ ap closed_if_shown s) (closed v) (shown_in_language h))

    named_holds : (x : ℕ) → act_names a (template_variable x) ≡ true → Holds ((E σ.point).template x) π.templates (σ.template x)
    named_holds x e = i.template x (names (template_variable x) e)

  -- A page that the step shows is right.
  new_page : (σ : State) (i : Invariant σ) (a : Act) (q q' : ℕ) → statement_at π.program σ.point ≡ step a q q'
      → (page : Items) → page ∈ act_pages π.templates a σ.template → Right π.vocabulary page
  new_page σ i (copy_template x x') q q' e page m = absurd (Memᴰ.not-nil m)
  new_page σ i (set_template x t) q q' e page m = absurd (Memᴰ.not-nil m)
  new_page σ i (copy_string y y') q q' e page m = absurd (Memᴰ.not-nil m)
  new_page σ i (set_string y t) q q' e page m = absurd (Memᴰ.not-nil m)
  new_page σ i (any_string y) q q' e page m = absurd (Memᴰ.not-nil m)
  new_page σ i (plug x x' g x'') q q' e page m = absurd (Memᴰ.not-nil m)
  new_page σ i (plug_string x x' h y) q q' e page m = absurd (Memᴰ.not-nil m)
  new_page σ i (show x) q q' e page m = described_right σ i (show x) q q' e _ refl (named_holds σ i (show x) q q' e x (eq-eqb x x refl)) m
  new_page σ i (show_framed x t g) q q' e page m = described_right σ i (show_framed x t g) q q' e _ refl
      (plug_holds g (set_template_lem π.templates t) (named_holds σ i (show_framed x t g) q q' e x (eq-eqb x x refl))) m

  keeps : (c : Choice) (σ : State) (t : Statement) → statement_at π.program σ.point ≡ t → Invariant σ → Invariant (after π.templates t c σ)
  keeps c σ stop e i = i
  keeps c σ (step a q q') e i = record {
    template = next_template σ i a q q' e c.second;
    string = next_string σ i a q q' e c.second c.string;
    pages = λ page m. ⊎_elim (λ (m' : page ∈ σ.pages). i.pages page m') (λ (m' : page ∈ act_pages π.templates a σ.template). new_page σ i a q q' e page m')
        (Memᴰ.append_cases σ.pages m);
  }

  holds_throughout : (cs : List Choice) (σ : State) → Invariant σ → Invariant (run_from π.templates π.program σ cs)
  unfolding run_from
  holds_throughout [] σ i = i
  holds_throughout (c ∷ cs) σ i = holds_throughout cs (stepped π.templates π.program c σ) (keeps c σ (statement_at π.program σ.point) refl i)

  -- Every page of every run is right.
  pub all_right : (cs : List Choice) (page : Items) → page ∈ shown π.templates π.program cs → Right π.vocabulary page
  unfolding shown
  all_right cs = (holds_throughout cs start begins).pages
