-- The numbers of a wrong element are no others, and the wrong element of a page and of a show is the same one.
use Rattle.std.specs.Prelude.{Some, None}
use Prim.Native.Nat.{ℕ, ◌≤◌}
use native.Mathlib.Omega.{arith}
use mathlib.Core.Path.{◌≡◌, refl}
use mathlib.Core.Logic.{inl, inr, ⊎_elim}
use mathlib.Core.List.{List}
use mathlib.Core.Bool.{true}
use Rattle.verdicts.specs.declared.Breach.{Breach}
use Rattle.verdicts.specs.declared.Breach.TheVariants.{Attribute, Content, Clause}
use Rattle.verdicts.specs.declared.Form.{Form}
use Rattle.verdicts.specs.declared.Form.TheVariants.{TooLong, Ended, NotAllowed, OutOfRange, NotRising, TooMany, TooManyFacts, Missing}
use Rattle.verdicts.specs.Printed.{form_number, fault_numbers, element_fault}
use Rattle.vocabularies.specs.Vocabulary.{Vocabulary, rule_of, declared}
use Rattle.vocabularies.proofs.Laws.{rule_found}
use Rattle.pages.specs.Items.{Items}
use Rattle.pages.specs.RightPages.{ElementRight, ElementWrong, WrongAt, FirstBreach}
use Rattle.pages.specs.PageVerdict.{Readable}
use Rattle.judging.specs.Inner.Judgement.{FirstWrong, first_wrong}
use Rattle.summaries.specs.Summaries.{Environment}
use Rattle.jobs.specs.Job.{Script}
use Rattle.jobs.specs.JobVerdict.{NotRootAt, WrongIn}
use Rattle.agreement.proofs.Breaches.{first_told}
use Rattle.agreement.proofs.Elements.{wrong_not_right, wrong_iff}
use Rattle.agreement.proofs.Marks.{page_marks_rise}
use Rattle.agreement.proofs.Ruled.{Ruled, page_ruled}
use Rattle.agreement.proofs.SomeElements.{some_into, some_named, some_sum}
use Rattle.agreement.proofs.Pages.{accepts_right, nothing_wrong, first_wrong_lem, lowest}
use Rattle.patterns.proofs.ReadJobs.{GivenShows}
use Rattle.patterns.proofs.Decided.{language_ruled}
use Rattle.patterns.proofs.JobShows.{ShowDecided, holds, not_root, wrong_element, show_decided}
use Rattle.as_before.specs.Before.{NotRightAt, NotRightIn, OfElement}

form_low : (f : Form) → form_number f ≤ 8
form_low TooLong = omega arith
form_low Ended = omega arith
form_low NotAllowed = omega arith
form_low OutOfRange = omega arith
form_low NotRising = omega arith
form_low TooMany = omega arith
form_low TooManyFacts = omega arith
form_low Missing = omega arith

pub form_other : (f : Form) → OfElement (form_number f) → ⊥
form_other f h = let l = form_low f in ⊎_elim (λ e. omega arith) (λ k. ⊎_elim (λ e. omega arith) (λ e. omega arith) k) h

-- A number that is none of the three.
pub no_element : (n : ℕ) → (n ≡ 12 → ⊥) → (n ≡ 14 → ⊥) → (n ≡ 15 → ⊥) → OfElement n → ⊥
no_element n a b c h = ⊎_elim a (λ k. ⊎_elim b c k) h

pub of_element_lem : (p t at : ℕ) (b : Breach) → OfElement (fault_numbers (element_fault p t at b)).n
of_element_lem p t at Attribute = inl refl
of_element_lem p t at Content = inr (inl refl)
of_element_lem p t at (Clause i) = inr (inr refl)

-- An element that has a rule is not right exactly if it breaks something of it.
not_right_wrong : (D : Vocabulary) (φ : Items) (at : ℕ) → Ruled (declared D.rules) φ → NotRightAt D at φ → (b : Breach) × WrongAt D at φ b
unfolding NotRightAt WrongAt
not_right_wrong D φ at ruled s =
    some_sum (λ b e m δ χ. (m ≡ at) × ElementWrong D e δ χ b) φ
    (some_into (λ e m δ χ. (declared D.rules e ≡ true) × ((m ≡ at) × (ElementRight D e δ χ → ⊥))) (λ e m δ χ. (b : Breach) × ((m ≡ at) × ElementWrong D e δ χ b))
    (λ e m δ χ (h, (q, n)). let (r, is) = rule_found (rule_of D.rules e) h in let (b, w) = (wrong_iff D e δ χ r is).1 n in (b, (q, w))) φ
    (some_named (λ e. declared D.rules e ≡ true) (λ e m δ χ. (m ≡ at) × (ElementRight D e δ χ → ⊥)) φ ruled s))

pub wrong_not_right_at : (D : Vocabulary) (φ : Items) (at : ℕ) (b : Breach) → WrongAt D at φ b → NotRightAt D at φ
unfolding NotRightAt WrongAt
wrong_not_right_at D φ at b =
    some_into (λ e m δ χ. (m ≡ at) × ElementWrong D e δ χ b) (λ e m δ χ. (m ≡ at) × (ElementRight D e δ χ → ⊥)) (λ e m δ χ (q, w). (q, wrong_not_right D e δ χ b w)) φ

-- ---- pages

module _ {v q : List ℕ} {D : Vocabulary} {page : Items} (R : Readable v q D page) where
  in_page : (at : ℕ) → NotRightAt D at page → (b : Breach) × WrongAt D at page b
  in_page at = not_right_wrong D page at (page_ruled D q page R.page_end R.page_reads)

  pub below_in_page : (at : ℕ) → ((at' : ℕ) → NotRightAt D at' page → at ≤ at') → (at' : ℕ) (b : Breach) → WrongAt D at' page b → at ≤ at'
  below_in_page at l at' b w = l at' (wrong_not_right_at D page at' b w)

  pub lowest_in_page : (at : ℕ) → ((at' : ℕ) (b : Breach) → WrongAt D at' page b → at ≤ at') → (at' : ℕ) → NotRightAt D at' page → at ≤ at'
  lowest_in_page at l at' s = let (b, w) = in_page at' s in l at' b w

  -- The breach that is told of the lowest wrong element.
  pub told_in_page : (at : ℕ) → NotRightAt D at page → ((at' : ℕ) → NotRightAt D at' page → at ≤ at') → (c : Breach) × FirstBreach (WrongAt D at page) c
  told_in_page at s l = go (first_wrong D page) refl
    where
      go : (x : FirstWrong) → first_wrong D page ≡ x → (c : Breach) × FirstBreach (WrongAt D at page) c
      go None e = let (b, w) = in_page at s in absurd (nothing_wrong D page e at b w)
      go (Some w) e =
          let rise = page_marks_rise D q page R.page_end R.page_reads in
          let told = first_wrong_lem D page 0 R.page_end rise w.at w.breach e in
          let (b, v) = in_page at s in
          let below = lowest D page 0 R.page_end rise w.at w.breach e at b v in
          let above = l w.at (wrong_not_right_at D page w.at w.breach (first_told told)) in
          let same : w.at ≡ at = omega arith in
          (w.breach, rw same at told)

-- ---- shows

module _ (π : Script) (E : ℕ → Environment) (read : GivenShows π E) (p : ℕ) where
  at_show : (t at : ℕ) → NotRightIn π E p t at → (b : Breach) × WrongIn π E p t at b
  at_show t at N =
      let ruled = language_ruled π.templates N.graph (declared π.vocabulary.rules) read.script.templates.have_rules N.page N.derived in
      let (b, w) = not_right_wrong π.vocabulary N.page at ruled N.wrong in
      (b, record { graph = N.graph; shows = N.shows; page = N.page; derived = N.derived; wrong = w; stands = N.stands })

  pub was_at_show : (t at : ℕ) (b : Breach) → WrongIn π E p t at b → NotRightIn π E p t at
  was_at_show t at b W = record {
    graph = W.graph;
    shows = W.shows;
    page = W.page;
    derived = W.derived;
    wrong = wrong_not_right_at π.vocabulary W.page at b W.wrong;
    stands = W.stands;
  }

  pub below_at_show : (at : ℕ) → ((t' at' : ℕ) → NotRightIn π E p t' at' → at ≤ at') → (t' at' : ℕ) (b : Breach) → WrongIn π E p t' at' b → at ≤ at'
  below_at_show at l t' at' b W = l t' at' (was_at_show t' at' b W)

  pub lowest_at_show : (at : ℕ) → ((t' at' : ℕ) (b : Breach) → WrongIn π E p t' at' b → at ≤ at') → (t' at' : ℕ) → NotRightIn π E p t' at' → at ≤ at'
  lowest_at_show at l t' at' N = let (b, W) = at_show t' at' N in l t' at' b W

  -- A template that the lowest wrong element stands in, and the breach that is told of it.
  pub told_at_show : (t at : ℕ) → ((t' : ℕ) → NotRootAt π E p t' → ⊥) → NotRightIn π E p t at → ((t' at' : ℕ) → NotRightIn π E p t' at' → at ≤ at')
      → (u : ℕ) × (c : Breach) × FirstBreach (WrongIn π E p u at) c
  told_at_show t at no_root N l = go (show_decided π E read p)
    where
      go : ShowDecided π E p → (u : ℕ) × (c : Breach) × FirstBreach (WrongIn π E p u at) c
      go (holds h) =
          let (b, w) = at_show t at N in
          absurd (accepts_right π.vocabulary w.page at b (h w.graph w.shows w.page w.derived).accepted w.wrong)
      go (not_root u n k) = absurd (no_root u n)
      go (wrong_element k u other c f low) =
          let (b, w) = at_show t at N in
          let below = low t at b w in
          let above = l u other (was_at_show u other c (first_told f)) in
          let same : other ≡ at = omega arith in
          (u, c, rw same at f)
