-- The verdict that is computed is the verdict of document 01: each pair of slices has exactly one, and a page that can be read passes
-- exactly when section 6 accepts it and it is the root element alone.
use Prim.Native.Nat.{ℕ, ◌≤◌}
use native.Mathlib.Omega.{arith}
use mathlib.Core.Path.{◌≡◌, refl, sym, ◌∙◌, ap}
use mathlib.Core.List.{List}
use mathlib.Core.Bool.{Bool, cond}
use mathlib.Core.Logic.{◌↔◌}
use Rattle.verdicts.specs.declared.Breach.{Breach}
use Rattle.verdicts.specs.declared.Fault.TheVariants.{NotRoot}
use Rattle.verdicts.specs.declared.Refusal.TheVariants as Refusals
use Rattle.verdicts.specs.declared.Numbers.{Numbers}
use Rattle.verdicts.specs.declared.Verdict.TheVariants.{Refused}
use Rattle.verdicts.specs.Printed.{prints, numbers_of, element_fault}
use Rattle.verdicts.specs.TheVerdict.{TheVerdict}
use Rattle.verdicts.proofs.Told.{form_refuses, fault_refuses}
use Rattle.commands.specs.Reading.{Read, whole, refused, unfinished}
use Rattle.vocabularies.specs.Vocabulary.{Vocabulary}
use Rattle.vocabularies.specs.VocabularyReading.{vocabulary_slice}
use Rattle.pages.specs.Items.{Items}
use Rattle.pages.specs.ItemReading.{page_slice}
use Rattle.pages.specs.RightPages.{RootAlone, Right, WrongAt, FirstBreach}
use Rattle.pages.specs.PageVerdict.{Readable, PageVerdict, unreadable_vocabulary, unreadable_page, not_root, wrong_element, accepted}
use Rattle.std.specs.Prelude.{Some, None}
use Rattle.judging.specs.Inner.Judgement.{FirstWrong, first_wrong, is_alone, wrong_verdict, judged, judged_under, page_verdict}
use Rattle.agreement.proofs.Deciding.{Decided, holds, fails, true_iff, false_iff}
use Rattle.agreement.proofs.Ends.{vocabulary_slice_ends, page_slice_ends}
use Rattle.agreement.proofs.Marks.{page_marks_rise}
use Rattle.agreement.proofs.Gaps.{page_closed}
use Rattle.agreement.proofs.Ruled.{page_ruled}
use Rattle.agreement.proofs.Breaches.{first_told, first_unique}
use Rattle.agreement.proofs.Pages.{At, accepted_unless, nothing_wrong, accepts_nowhere, first_wrong_lem, lowest}
use Rattle.agreement.proofs.Roots.{decided_alone}

module _ {v p : List ℕ} where
  -- A page that was read, judged.
  alone_verdict : {D : Vocabulary} {page : Items} → Readable v p D page → RootAlone D page → PageVerdict v p (numbers_of (wrong_verdict (first_wrong D page)))
  alone_verdict {D} {page} R a = go (first_wrong D page) refl
    where
      go : (w : FirstWrong) → first_wrong D page ≡ w → PageVerdict v p (numbers_of (wrong_verdict w))
      go None e =
          let closed = page_closed D p page R.page_end R.page_reads in
          accepted R (record {
            alone = a;
            accepted = accepted_unless D page closed.gaps (page_ruled D p page R.page_end R.page_reads) (nothing_wrong D page e);
            gapless = closed;
          })
      go (Some w) e =
          let rise = page_marks_rise D p page R.page_end R.page_reads in
          wrong_element R a (first_wrong_lem D page 0 R.page_end rise w.at w.breach e) (lowest D page 0 R.page_end rise w.at w.breach e)

  read_verdict : {D : Vocabulary} {page : Items} {b : Bool} → Readable v p D page → Decided (RootAlone D page) b
      → PageVerdict v p (numbers_of (cond b (wrong_verdict (first_wrong D page)) (Refused (Refusals.Page (NotRoot 0 0)))))
  read_verdict R (holds a) = alone_verdict R a
  read_verdict R (fails n) = not_root R n

-- The verdict that is computed is one that document 01 gives.
pub page_verdict_is : (v p : List ℕ) → PageVerdict v p (numbers_of (page_verdict v p))
unfolding page_verdict
page_verdict_is v p = of_vocabulary (vocabulary_slice v) refl
  where
    of_page : (D : Vocabulary) (end : ℕ) → vocabulary_slice v ≡ whole D end → (r : Read Items) → page_slice D p ≡ r
        → PageVerdict v p (numbers_of (judged D r))
    of_page D end e (whole page end') e' =
        read_verdict (record { vocabulary_end = end; page_end = end'; vocabulary_reads = e; page_reads = e' }) (decided_alone D page)
    of_page D end e (refused f at) e' = unreadable_page e e'
    of_page D end e unfinished e' = absurd (page_slice_ends D p e')

    of_vocabulary : (r : Read Vocabulary) → vocabulary_slice v ≡ r → PageVerdict v p (numbers_of (judged_under r p))
    of_vocabulary (whole D end) e = of_page D end e (page_slice D p) refl
    of_vocabulary (refused f at) e = unreadable_vocabulary e
    of_vocabulary unfinished e = absurd (vocabulary_slice_ends v e)

module _ {v p : List ℕ} where
  -- Of a page that can be read, the verdict is the judgement of that page.
  pub judged_of : {D : Vocabulary} {page : Items} → Readable v p D page
      → page_verdict v p ≡ cond (is_alone D.root page) (wrong_verdict (first_wrong D page)) (Refused (Refusals.Page (NotRoot 0 0)))
  unfolding page_verdict
  judged_of R = rw (R.vocabulary_reads, R.page_reads)

  alone_of : {D : Vocabulary} {page : Items} → Readable v p D page → RootAlone D page → page_verdict v p ≡ wrong_verdict (first_wrong D page)
  alone_of {D} {page} R a = judged_of R ∙ rw ((true_iff (decided_alone D page)).1 a)

  -- Where an element is wrong and none below it is, it is found, with what is told of it.
  found_at : {D : Vocabulary} {page : Items} {at : ℕ} {b : Breach} → Readable v p D page → FirstBreach (WrongAt D at page) b
      → ((at' : ℕ) (b' : Breach) → WrongAt D at' page b' → at ≤ at') → first_wrong D page ≡ At at b
  found_at {D} {page} {at} {b} R f l = go (first_wrong D page) refl
    where
      go : (w : FirstWrong) → first_wrong D page ≡ w → w ≡ At at b
      go None e = absurd (nothing_wrong D page e at b (first_told f))
      go (Some w) e =
          let m = w.at in
          let c = w.breach in
          let rise = page_marks_rise D p page R.page_end R.page_reads in
          let told = first_wrong_lem D page 0 R.page_end rise m c e in
          let below = lowest D page 0 R.page_end rise m c e at b (first_told f) in
          let above = l m c (first_told told) in
          let same : m ≡ at = omega arith in
          let is : c ≡ b = first_unique (rw same at told) f in rw (same, is)

  -- Each verdict that document 01 gives has the numbers of the one that is computed.
  pub computes : {a : Numbers} → PageVerdict v p a → numbers_of (page_verdict v p) ≡ a
  unfolding page_verdict
  computes (unreadable_vocabulary e) = rw e
  computes (unreadable_page e e') = rw (e, e')
  computes (not_root {D} {page} R n) = ap numbers_of (judged_of R) ∙ rw ((false_iff (decided_alone D page)).1 n)
  computes (wrong_element R a f l) = ap numbers_of (alone_of R a ∙ ap wrong_verdict (found_at R f l))
  computes (accepted {D} {page} R r) = ap numbers_of (alone_of R r.alone ∙ ap wrong_verdict (accepts_nowhere D page r.accepted))

-- There is exactly one verdict, and it is the one that is computed.
pub the_page_verdict : (v p : List ℕ) → TheVerdict (PageVerdict v p) (numbers_of (page_verdict v p))
the_page_verdict v p = record { is = page_verdict_is v p; only = λ n h. sym (computes h) }

-- The page passes exactly when it and its vocabulary can be read and it is right.
pub passes : (v p : List ℕ) → PageVerdict v p (prints 0 0 0 0) ↔ ((D : Vocabulary) × (page : Items) × Readable v p D page × Right D page)
passes v p = (λ h. right _ refl h, λ t. accepted t.2 t.3)
  where
    right : (a : Numbers) → a.n ≡ 0 → PageVerdict v p a → (D : Vocabulary) × (page : Items) × Readable v p D page × Right D page
    right _ e (unreadable_vocabulary {f = f} r) = absurd (form_refuses f e)
    right _ e (unreadable_page {f = f} r r') = absurd (form_refuses f e)
    right _ e (not_root R n) = absurd (fault_refuses (NotRoot 0 0) e)
    right _ e (wrong_element {at = at} {b = b} R a f l) = absurd (fault_refuses (element_fault 0 0 at b) e)
    right _ e (accepted {D} {page} R r) = (D, page, R, r)
