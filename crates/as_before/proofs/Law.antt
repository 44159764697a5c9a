-- The same jobs and pages pass as before document 02, F-6, and the same wrong element is named.
use Prim.Native.Nat.{ℕ}
use native.Mathlib.Omega.{arith}
use mathlib.Core.Path.{◌≡◌, refl, subst}
use mathlib.Core.List.{List}
use mathlib.Core.Logic.{inl}
use Rattle.verdicts.specs.declared.Breach.{Breach}
use Rattle.verdicts.specs.declared.Breach.TheVariants.{Attribute, Content, Clause}
use Rattle.verdicts.specs.declared.Numbers.{Numbers}
use Rattle.verdicts.specs.Printed.{prints, fault_numbers, element_fault}
use Rattle.summaries.specs.Summaries.{Environment, entries}
use Rattle.jobs.specs.Job.{Script, Job, job}
use Rattle.jobs.specs.JobVerdict.{ScriptVerdict, JobVerdict}
use Rattle.jobs.specs.JobVerdict as Now
use Rattle.commands.specs.Reading.{whole}
use Rattle.pages.specs.PageVerdict.{PageVerdict}
use Rattle.pages.specs.PageVerdict as NowPage
use Rattle.agreement.proofs.Breaches.{first_told}
use Rattle.patterns.proofs.ReadVocabularies.{Bytes}
use Rattle.patterns.proofs.ReadJobs.{GivenShows, job_given}
use Rattle.as_before.specs.Before.{PageVerdictBefore, ScriptVerdictBefore, JobVerdictBefore, OfElement, SameButElements}
use Rattle.as_before.specs.Before as Before
use Rattle.as_before.proofs.Elements.{form_other, no_element, of_element_lem, wrong_not_right_at, below_in_page, lowest_in_page, told_in_page, was_at_show, below_at_show, lowest_at_show, told_at_show}

-- What one verdict is now: the same, or a wrong element at the same point and offset.
data NowOf (Is : Numbers → Type 0) (v : Numbers) : Type 0 where
  unmoved : (OfElement v.n → ⊥) → Is v → NowOf Is v
  moved : (b : Breach) (t : ℕ) → v.n ≡ 12 → Is (fault_numbers (element_fault v.a t v.c b)) → NowOf Is v

-- What one verdict was before.
data BeforeOf (Was : Numbers → Type 0) (v : Numbers) : Type 0 where
  unmoved_since : (OfElement v.n → ⊥) → Was v → BeforeOf Was v
  moved_since : (t : ℕ) → OfElement v.n → Was (prints 12 v.a t v.c) → BeforeOf Was v

-- A wrong element at a point and an offset.
was : {Was : Numbers → Type 0} (p t at : ℕ) (b : Breach) → Was (prints 12 p t at) → BeforeOf Was (fault_numbers (element_fault p t at b))
was p t at Attribute w = moved_since t (of_element_lem p t at Attribute) w
was p t at Content w = moved_since t (of_element_lem p t at Content) w
was p t at (Clause i) w = moved_since t (of_element_lem p t at (Clause i)) w

module _ (Was Is : Numbers → Type 0) (to : (v : Numbers) → Was v → NowOf Is v) (back : (v : Numbers) → Is v → BeforeOf Was v) where
  -- The three parts follow from the two directions.
  same_but_elements : SameButElements Was Is
  same_but_elements = record {
    accepted = (λ h. unmoved_to (prints 0 0 0 0) none_of_zero (to _ h), λ h. unmoved_back (prints 0 0 0 0) none_of_zero (back _ h));
    wrong = λ p at. (λ (t, h). moved_to p at t (to _ h), λ (n, b, k, h). moved_back n p b at k (back _ h));
    others = λ v k. (λ h. unmoved_to v k (to v h), λ h. unmoved_back v k (back v h));
  }
    where
      none_of_zero : OfElement 0 → ⊥
      none_of_zero = no_element 0 (λ e. omega arith) (λ e. omega arith) (λ e. omega arith)

      unmoved_to : (v : Numbers) → (OfElement v.n → ⊥) → NowOf Is v → Is v
      unmoved_to v k (unmoved h w) = w
      unmoved_to v k (moved b t e w) = absurd (k (inl e))

      unmoved_back : (v : Numbers) → (OfElement v.n → ⊥) → BeforeOf Was v → Was v
      unmoved_back v k (unmoved_since h w) = w
      unmoved_back v k (moved_since t e w) = absurd (k e)

      shaped : (p t at : ℕ) (b : Breach) → (n : ℕ) × (c : ℕ) × (OfElement n × (fault_numbers (element_fault p t at b) ≡ prints n p c at))
      shaped p t at Attribute = (12, t, (of_element_lem p t at Attribute, refl))
      shaped p t at Content = (14, t, (of_element_lem p t at Content, refl))
      shaped p t at (Clause i) = (15, i, (of_element_lem p t at (Clause i), refl))

      moved_to : (p at t : ℕ) → NowOf Is (prints 12 p t at) → (n b : ℕ) × OfElement n × Is (prints n p b at)
      moved_to p at t (unmoved h w) = absurd (h (inl refl))
      moved_to p at t (moved b u e w) = let (n, c, (k, is)) = shaped p u at b in (n, c, k, subst Is is w)

      moved_back : (n p b at : ℕ) → OfElement n → BeforeOf Was (prints n p b at) → (t : ℕ) × Was (prints 12 p t at)
      moved_back n p b at k (unmoved_since h w) = absurd (h k)
      moved_back n p b at k (moved_since t e w) = (t, w)

-- ---- pages

module _ (v p : List ℕ) where
  page_to : (n : Numbers) → PageVerdictBefore v p n → NowOf (PageVerdict v p) n
  page_to _ (Before.unreadable_vocabulary {f = f} e) = unmoved (form_other f) (NowPage.unreadable_vocabulary e)
  page_to _ (Before.unreadable_page {f = f} e e') = unmoved (form_other f) (NowPage.unreadable_page e e')
  page_to _ (Before.not_root R n) = unmoved (no_element 11 (λ e. omega arith) (λ e. omega arith) (λ e. omega arith)) (NowPage.not_root R n)
  page_to _ (Before.wrong_element {at = at} R a w l) =
      let (c, f) = told_in_page R at w l in
      moved c 0 refl (NowPage.wrong_element R a f (below_in_page R at l))
  page_to _ (Before.accepted R r) = unmoved (no_element 0 (λ e. omega arith) (λ e. omega arith) (λ e. omega arith)) (NowPage.accepted R r)

  page_back : (n : Numbers) → PageVerdict v p n → BeforeOf (PageVerdictBefore v p) n
  page_back _ (NowPage.unreadable_vocabulary {f = f} e) = unmoved_since (form_other f) (Before.unreadable_vocabulary e)
  page_back _ (NowPage.unreadable_page {f = f} e e') = unmoved_since (form_other f) (Before.unreadable_page e e')
  page_back _ (NowPage.not_root R n) = unmoved_since (no_element 11 (λ e. omega arith) (λ e. omega arith) (λ e. omega arith)) (Before.not_root R n)
  page_back _ (NowPage.wrong_element {D = D} {page = page} {at = at} {b = b} R a f l) =
      was 0 0 at b (Before.wrong_element R a (wrong_not_right_at D page at b (first_told f)) (lowest_in_page R at l))
  page_back _ (NowPage.accepted R r) = unmoved_since (no_element 0 (λ e. omega arith) (λ e. omega arith) (λ e. omega arith)) (Before.accepted R r)

  -- Of pages.
  pub pages_as_before : SameButElements (PageVerdictBefore v p) (PageVerdict v p)
  pages_as_before = same_but_elements (PageVerdictBefore v p) (PageVerdict v p) page_to page_back

-- ---- jobs

module _ (π : Script) (E : ℕ → Environment) (read : GivenShows π E) where
  script_to : (n : Numbers) → ScriptVerdictBefore π E n → NowOf (ScriptVerdict π E) n
  script_to _ (Before.start_uncovered h n b) = unmoved (no_element 9 (λ e. omega arith) (λ e. omega arith) (λ e. omega arith)) (Now.start_uncovered h n b)
  script_to _ (Before.step_uncovered second starts h n b) = unmoved (no_element 10 (λ e. omega arith) (λ e. omega arith) (λ e. omega arith)) (Now.step_uncovered second starts h n b)
  script_to _ (Before.not_root c shows n l) = unmoved (no_element 11 (λ e. omega arith) (λ e. omega arith) (λ e. omega arith)) (Now.not_root c shows n l)
  script_to _ (Before.wrong_element {p = p} {t = t} {at = at} c shows n w l) =
      let (u, k, f) = told_at_show π E read p t at n w l in
      moved k u refl (Now.wrong_element c shows n f (below_at_show π E read p at l))
  script_to _ (Before.accepted c shows) = unmoved (no_element 0 (λ e. omega arith) (λ e. omega arith) (λ e. omega arith)) (Now.accepted c shows)

  script_back : (n : Numbers) → ScriptVerdict π E n → BeforeOf (ScriptVerdictBefore π E) n
  script_back _ (Now.start_uncovered h n b) = unmoved_since (no_element 9 (λ e. omega arith) (λ e. omega arith) (λ e. omega arith)) (Before.start_uncovered h n b)
  script_back _ (Now.step_uncovered second starts h n b) = unmoved_since (no_element 10 (λ e. omega arith) (λ e. omega arith) (λ e. omega arith)) (Before.step_uncovered second starts h n b)
  script_back _ (Now.not_root c shows n l) = unmoved_since (no_element 11 (λ e. omega arith) (λ e. omega arith) (λ e. omega arith)) (Before.not_root c shows n l)
  script_back _ (Now.wrong_element {p = p} {t = t} {at = at} {b = b} c shows n f l) =
      was p t at b (Before.wrong_element c shows n (was_at_show π E read p t at b (first_told f)) (lowest_at_show π E read p at l))
  script_back _ (Now.accepted c shows) = unmoved_since (no_element 0 (λ e. omega arith) (λ e. omega arith) (λ e. omega arith)) (Before.accepted c shows)

module _ (s : List ℕ) where
  read_now : {j : Job} {end : ℕ} → job s ≡ whole j end → (v : Numbers) → NowOf (ScriptVerdict j.script (entries j.proposal)) v → NowOf (JobVerdict s) v
  read_now e v (unmoved k w) = unmoved k (Now.readable e w)
  read_now e v (moved b t is w) = moved b t is (Now.readable e w)

  read_before : {j : Job} {end : ℕ} → job s ≡ whole j end → (v : Numbers) → BeforeOf (ScriptVerdictBefore j.script (entries j.proposal)) v → BeforeOf (JobVerdictBefore s) v
  read_before e v (unmoved_since k w) = unmoved_since k (Before.readable e w)
  read_before e v (moved_since t k w) = moved_since t k (Before.readable e w)

  job_to : Bytes s → (v : Numbers) → JobVerdictBefore s v → NowOf (JobVerdict s) v
  job_to bytes _ (Before.unreadable {f = f} e) = unmoved (form_other f) (Now.unreadable e)
  job_to bytes v (Before.readable {j = j} {end = end} e h) = read_now e v (script_to j.script (entries j.proposal) (job_given s bytes j end e) v h)

  job_back : Bytes s → (v : Numbers) → JobVerdict s v → BeforeOf (JobVerdictBefore s) v
  job_back bytes _ (Now.unreadable {f = f} e) = unmoved_since (form_other f) (Before.unreadable e)
  job_back bytes v (Now.readable {j = j} {end = end} e h) = read_before e v (script_back j.script (entries j.proposal) (job_given s bytes j end e) v h)

  -- Of jobs, for every byte string.
  pub jobs_as_before : Bytes s → SameButElements (JobVerdictBefore s) (JobVerdict s)
  jobs_as_before bytes = same_but_elements (JobVerdictBefore s) (JobVerdict s) (job_to bytes) (job_back bytes)
