-- A script with templates that are like its own has the same verdict, but for the offset of a wrong element.
use Prim.Native.Nat.{ℕ, zero, suc, ◌≤◌}
use native.Mathlib.Omega.{arith}
use mathlib.Core.Path.{◌≡◌, refl, sym, ap, subst, ◌∙◌, fun_ext}
use mathlib.Core.List.{List, [], ◌∷◌, map}
use mathlib.Core.Bool.{Bool, cond}
use mathlib.Core.Logic.{◌↔◌, ◌⊎◌, inl, inr}
use Rattle.verdicts.specs.declared.Breach.{Breach}
use Rattle.verdicts.specs.declared.Numbers.{Numbers}
use Rattle.verdicts.specs.Printed.{fault_numbers, element_fault}
use Rattle.pages.specs.Items.{Items, without_blank}
use Rattle.programs.specs.Program.{Act, copy_template, set_template, copy_string, set_string, any_string, plug, plug_string, show, show_framed, Statement, step, stop, statement_at, template_at}
use Rattle.summaries.specs.Proposal.{Claim, root, edge, string, gap_from, attribute_gap_from}
use Rattle.summaries.specs.ProposalReading.{variable_of}
use Rattle.summaries.specs.Summaries.{Environment, fragment, transfer}
use Rattle.summaries.specs.Covering.{WithinAt}
use Rattle.summaries.specs.Languages.{summary_shown, closed_if_shown, statement_graph, graph_shown}
use Rattle.jobs.specs.Job.{Script}
use Rattle.jobs.specs.JobVerdict.{StatementHolds, StepHolds, StepsBefore, AllCovered, ShowHolds, NotRootAt, WrongIn, ScriptVerdict, start_uncovered, step_uncovered, not_root, wrong_element, accepted}
use Rattle.agreement.proofs.Marks.{Stands}
use Rattle.agreement.proofs.Breaches.{first_told, first_iff}
use Rattle.blank_text.specs.WithoutBlank.{without_blank_script, SameButOffset}
use Rattle.blank_text.proofs.Alike.{Alike, Turned, Same, turned, without}
use Rattle.blank_text.proofs.Rightness.{same_gaps, same_attribute_gaps, alone_there, right_there, stands_there, wrong_there}
use Rattle.blank_text.proofs.Languages.{derived_there}
use Rattle.blank_text.proofs.Offsets.{unmoved, all_same, element_moved, element_offset}

abbrev pub with_templates : Script → List Items → Script
with_templates π φs = record { vocabulary = π.vocabulary; templates = φs; program = π.program }

-- Templates here and there are alike, and marks that M relates stand in the same templates.
pub record Corresponds (M : ℕ → ℕ → Type 0) (φs φs' : List Items) : Type 0 where
  pub alike : (t : ℕ) → Alike M (template_at φs t) (template_at φs' t)
  pub stands : (t at at' : ℕ) → M at at' → Stands at (template_at φs t) ↔ Stands at' (template_at φs' t)

turned_round : {M : ℕ → ℕ → Type 0} {φs φs' : List Items} → Corresponds M φs φs' → Corresponds (Turned M) φs' φs
turned_round c = record { alike = λ t. turned (c.alike t); stands = λ t at at' m. ((c.stands t at' at m).1, (c.stands t at' at m).0) }

-- Covering, and which graph is shown, go by the gaps of templates alone.
module _ {M : ℕ → ℕ → Type 0} (π : Script) (φs' : List Items) (alike : (t : ℕ) → Alike M (template_at π.templates t) (template_at φs' t))
    (E : ℕ → Environment) where
  same_fragment : (t : ℕ) → fragment t (template_at π.templates t) ≡ fragment t (template_at φs' t)
  same_fragment t = fun_ext at_claim
    where
      at_claim : (d : Claim) → fragment t (template_at π.templates t) d ≡ fragment t (template_at φs' t) d
      at_claim (root m) = refl
      at_claim (edge m g k) = refl
      at_claim (string m h s) = refl
      at_claim (gap_from g m) = rw (same_gaps (alike t) g)
      at_claim (attribute_gap_from h m) = rw (same_attribute_gaps (alike t) h)

  same_transfer : (a : Act) (F : Environment) → transfer π.templates a F ≡ transfer φs' a F
  same_transfer (copy_template x x') F = refl
  same_transfer (set_template x t) F = rw (same_fragment t)
  same_transfer (copy_string y y') F = refl
  same_transfer (set_string y s) F = refl
  same_transfer (any_string y) F = refl
  same_transfer (plug x x' g x'') F = refl
  same_transfer (plug_string x x' h y) F = refl
  same_transfer (show x) F = refl
  same_transfer (show_framed x t g) F = refl

  same_shown : (p : ℕ) → graph_shown π.templates π.program E p ≡ graph_shown φs' π.program E p
  unfolding graph_shown
  same_shown p = of_statement (statement_at π.program p)
    where
      of_act : (a : Act) → summary_shown π.templates a (E p) ≡ summary_shown φs' a (E p)
      of_act (copy_template x x') = refl
      of_act (set_template x t) = refl
      of_act (copy_string y y') = refl
      of_act (set_string y s) = refl
      of_act (any_string y) = refl
      of_act (plug x x' g x'') = refl
      of_act (plug_string x x' h y) = refl
      of_act (show x) = refl
      of_act (show_framed x t g) = rw (same_fragment t)

      of_statement : (t : Statement) → statement_graph π.templates t (E p) ≡ statement_graph φs' t (E p)
      of_statement (step a q q') = ap closed_if_shown (of_act a)
      of_statement stop = refl

  step_there : (p : ℕ) (second : Bool) (v : ℕ) → StepHolds π E p second v → StepHolds (with_templates π φs') E p second v
  step_there p second v = of_statement (statement_at π.program p)
    where
      of_statement : (t : Statement) → StatementHolds π E p t second v → StatementHolds (with_templates π φs') E p t second v
      of_statement (step a q q') h = λ n. subst (λ (F : Environment). WithinAt (variable_of v) F (E (cond second q' q))) (same_transfer a (E p)) (h n)
      of_statement stop h = tt

  pub all_covered : AllCovered π E → AllCovered (with_templates π φs') E
  all_covered a = record { start = a.start; steps = λ p second v l. step_there p second v (a.steps p second v l) }

module _ {M : ℕ → ℕ → Type 0} (π : Script) (φs' : List Items) (c : Corresponds M π.templates φs') (E : ℕ → Environment) where
  abbrev There : Script
  There = with_templates π φs'

  show_there : (p : ℕ) → ShowHolds π E p → ShowHolds There E p
  show_there p h G e page l =
      let b = derived_there (Turned M) φs' π.templates (turned_round c).alike G l.0 page l.1 in
      right_there π.vocabulary (turned b.2) (h G (same_shown π φs' c.alike E p ∙ e) b.0 (l.0, b.1))

  not_root_there : (p t : ℕ) → NotRootAt π E p t → NotRootAt There E p t
  not_root_there p t n =
      let l = derived_there M π.templates φs' c.alike n.graph t n.page n.derived in
      record {
        graph = n.graph;
        shows = sym (same_shown π φs' c.alike E p) ∙ n.shows;
        page = l.0;
        derived = l.1;
        other = λ r. n.other (alone_there π.vocabulary (turned l.2) r);
      }

  wrong_in_there : (p t at : ℕ) (b : Breach) → WrongIn π E p t at b → (at' : ℕ) × M at at' × WrongIn There E p t at' b
  wrong_in_there p t at b w =
      let r = w.derived.0 in
      let l = derived_there M π.templates φs' c.alike w.graph r w.page w.derived.1 in
      let m = wrong_there π.vocabulary b l.2 w.wrong in (
        m.0,
        m.1,
        record {
          graph = w.graph;
          shows = sym (same_shown π φs' c.alike E p) ∙ w.shows;
          page = l.0;
          derived = (r, l.1);
          wrong = m.2;
          stands = (c.stands t at m.0 m.1).0 w.stands;
        },
      )

-- The verdict there: only the offset of a wrong element may be another, as M says.
pub record Carried (M : ℕ → ℕ → Type 0) (v v' : Numbers) : Type 0 where
  pub same : SameButOffset v v'
  pub offset : (v.c ≡ v'.c) ⊎ M v.c v'.c

unchanged : {M : ℕ → ℕ → Type 0} (v : Numbers) → Carried M v v
unchanged v = record { same = unmoved v; offset = inl refl }

-- If M keeps the order of marks, it relates a mark to one mark, and the lowest to the lowest.
module _ {M : ℕ → ℕ → Type 0} (π : Script) (φs' : List Items) (c : Corresponds M π.templates φs')
    (order : (low low' at at' : ℕ) → M low low' → M at at' → (low ≤ at) ↔ (low' ≤ at')) (E : ℕ → Environment) where
  abbrev π' : Script
  π' = with_templates π φs'

  abbrev back : Corresponds (Turned M) φs' π.templates
  back = turned_round c

  steps_before : (p : ℕ) (second : Bool) (v : ℕ) → StepsBefore π E p second v → StepsBefore π' E p second v
  steps_before p second v b = record {
    points = λ q l side u m. step_there π φs' c.alike E q side u (b.points q l side u m);
    sides = λ e u m. step_there π φs' c.alike E p _ u (b.sides e u m);
    variables = λ u l. step_there π φs' c.alike E p second u (b.variables u l);
  }

  covered : AllCovered π E → AllCovered π' E
  covered = all_covered π φs' c.alike E

  -- Of an element here and its like there the same is wrong.
  wrong_like : (p t at at' : ℕ) → M at at' → (b : Breach) → WrongIn π E p t at b → WrongIn π' E p t at' b
  wrong_like p t at at' m b w =
      let r = wrong_in_there π φs' c E p t at b w in
      let same : r.0 ≡ at' = omega (arith, (order at r.0 at at' r.1 m).0 (omega arith), (order at at' at r.0 m r.1).0 (omega arith)) in
      rw same at r.2

  wrong_back : (p t at at' : ℕ) → M at at' → (b : Breach) → WrongIn π' E p t at' b → WrongIn π E p t at b
  wrong_back p t at at' m b w =
      let r = wrong_in_there π' π.templates back E p t at' b w in
      let same : r.0 ≡ at = omega (arith, (order r.0 at' at at' r.1 m).1 (omega arith), (order at at' r.0 at' m r.1).1 (omega arith)) in
      rw same at r.2

  lowest_like : (p at at' : ℕ) → M at at' → ((t other : ℕ) (b : Breach) → WrongIn π E p t other b → at ≤ other)
      → (t other : ℕ) (b : Breach) → WrongIn π' E p t other b → at' ≤ other
  lowest_like p at at' m l t other b w =
      let r = wrong_in_there π' π.templates back E p t other b w in (order at at' r.0 other m r.1).0 (l t r.0 b r.2)

  pub carried : {v : Numbers} → ScriptVerdict π E v → (v' : Numbers) × ScriptVerdict π' E v' × Carried M v v'
  carried {v} (start_uncovered l h b) = (v, start_uncovered l h b, unchanged v)
  carried {v} (step_uncovered {p = p} {v = x} second starts l h b) =
      (v, step_uncovered second starts l (λ s. h (step_there π' π.templates back.alike E p second x s)) (steps_before p second x b), unchanged v)
  carried {v} (not_root {p = p} {t = t} a shows n l) = (
    v,
    not_root (covered a) (λ q m. show_there π φs' c E q (shows q m)) (not_root_there π φs' c E p t n) (λ t' n'. l t' (not_root_there π' π.templates back E p t' n')),
    unchanged v,
  )
  carried (wrong_element {p = p} {t = t} {at = at} {b = b} a shows n f l) =
      let (at', m, w) = wrong_in_there π φs' c E p t at b (first_told f) in (
        fault_numbers (element_fault p t at' b),
        wrong_element (covered a) (λ q s. show_there π φs' c E q (shows q s)) (λ t' n'. n t' (not_root_there π' π.templates back E p t' n'))
            (first_iff (wrong_like p t at at' m) (wrong_back p t at at' m) f) (lowest_like p at at' m l),
        record { same = element_moved p t at at' b; offset = inr (rw (element_offset p t at b, element_offset p t at' b) m) },
      )
  carried {v} (accepted a shows) = (v, accepted (covered a) (λ p. show_there π φs' c E p (shows p)), unchanged v)

-- Where M relates no other marks than the same, all four numbers are the same.
kept : {M : ℕ → ℕ → Type 0} (π : Script) (φs' : List Items) → Corresponds M π.templates φs' → ((at at' : ℕ) → M at at' → at ≡ at')
    → (E : ℕ → Environment) {v : Numbers} → ScriptVerdict π E v → ScriptVerdict (with_templates π φs') E v
kept π φs' c equal E {v} o =
    let r = carried π φs' c (λ low low' at at' m n. let e = equal low low' m in let d = equal at at' n in (λ l. omega arith, λ l. omega arith)) E o in
    let offset : v.c ≡ r.0.c = elim r.2.offset [ inl e ↦ e | inr m ↦ equal v.c r.0.c m ] in
    subst (ScriptVerdict (with_templates π φs') E) (sym (all_same r.2.same offset)) r.1

-- Templates without blank text.
pub without_at : (φs : List Items) (t : ℕ) → template_at (map without_blank φs) t ≡ without_blank (template_at φs t)
unfolding template_at without_blank
without_at [] t = refl
without_at (φ ∷ φs) zero = refl
without_at (φ ∷ φs) (suc zero) = refl
without_at (φ ∷ φs) (suc (suc t)) = without_at φs (suc t)

pub without_alike : (φs : List Items) (t : ℕ) → Alike Same (template_at φs t) (template_at (map without_blank φs) t)
without_alike φs t = rw (without_at φs t) (without (template_at φs t))

without_corresponds : (φs : List Items) → Corresponds Same φs (map without_blank φs)
without_corresponds φs = record {
  alike = without_alike φs;
  stands = λ t at at' e. (
    λ s. let r = stands_there (without_alike φs t) s in rw (sym r.1 ∙ e) at r.2,
    λ s. let r = stands_there (turned (without_alike φs t)) s in rw (r.1 ∙ sym e) at r.2,
  );
}

pub same_verdict : (π : Script) (E : ℕ → Environment) (v : Numbers) → ScriptVerdict π E v ↔ ScriptVerdict (without_blank_script π) E v
same_verdict π E v =
    let c = without_corresponds π.templates in
    (kept π (map without_blank π.templates) c (λ at at' e. e) E, kept (without_blank_script π) π.templates (turned_round c) (λ at at' e. sym e) E)
