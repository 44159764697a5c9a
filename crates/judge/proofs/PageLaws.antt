-- The verdict of a page, from what reading and judging it tell.
use Prim.Native.Nat.{ℕ, zero, suc}
use mathlib.Core.Path.{◌≡◌, refl, sym, ap, fun_ext, subst, ◌∙◌}
use mathlib.Core.List.{List}
use mathlib.Core.Logic.{inl, inr}
use mathlib.Core.Bool.{Bool, true, false, cond, false≢true}
use Rattle.std.specs.Prelude.{Result, Ok, Err}
use lib.Dec.{eqb}
use borrow.Author.Tests.{eq-eqb, ne_eqb, eqb-true}
use Rattle.verdicts.specs.declared.Refusal.{Refusal}
use Rattle.verdicts.specs.declared.Verdict.{Verdict}
use Rattle.verdicts.specs.declared.Verdict.TheVariants.{Accepted, Refused}
use Rattle.verdicts.specs.Printed.{numbers_of}
use Rattle.verdicts.specs.TheVerdict.{TheVerdict}
use Rattle.commands.specs.declared.Position.{Position}
use Rattle.commands.specs.declared.ReadError.{ReadError}
use Rattle.commands.specs.Commands.{byte}
use Rattle.commands.specs.Reading.{whole, enough}
use Rattle.commands.specs.Inner.Parts.{Agrees}
use Rattle.vocabularies.specs.declared.Tables.{Tables}
use Rattle.vocabularies.specs.Vocabulary.{Vocabulary, declared}
use Rattle.vocabularies.specs.VocabularyReading.{vocabulary, alone, vocabulary_slice}
use Rattle.vocabularies.specs.Inner.Promises.{Describes}
use Rattle.pages.specs.declared.Kind.TheVariants.{Page}
use Rattle.pages.specs.declared.ItemHere.{ItemHere}
use Rattle.pages.specs.declared.ItemHere.TheVariants.{Text, Gap, Element, Blank, End}
use Rattle.pages.specs.Items.{Items, none, more, ◌⋈◌, without_blank}
use Rattle.pages.specs.ItemReading.{items, page_slice}
use Rattle.pages.specs.Inner.Steps.{item_here}
use Rattle.pages.proofs.Whole.{never_unfinished, items_whole}
use Rattle.pages.proofs.Steps.{ElementFirst, text_first, blank_first, gap_first, element_first, end_first}
use Rattle.programs.proofs.Laws.{WholeAs, agrees_whole, agrees_refuses, agrees_with_whole, agrees_with_refuses}
use Rattle.judging.specs.declared.Judged.{Judged}
use Rattle.pages.specs.PageVerdict.{PageVerdict}
use Rattle.judging.specs.Inner.Judgement.{first_wrong, is_none, is_alone, wrong_verdict, judged, page_verdict}
use Rattle.agreement.proofs.Verdicts.{the_page_verdict}
use Rattle.judging.specs.Inner.Promises.{JudgesItem}
use Rattle.judging.proofs.Booleans.{by_test}
use Rattle.judging.proofs.AttributeLaws.{no_template}
use Rattle.judging.proofs.ItemLaws.{or_none}
use Rattle.judge.specs.Inner.Answers.{not_root, Solid, AfterBlank, JudgesRead, VocabularyReads, PageReads}
use Rattle.jobs.proofs.Told.{TellsAs, told_err, told_ok, unreadable_at}
use Rattle.jobs.proofs.Tables.{alone_whole}
use Rattle.judge.proofs.BlankLaws.{none_left}

is_none_lem : (φ : Items) → is_none φ ≡ true → φ ≡ none
is_none_lem none e = refl
is_none_lem (more i φ) e = absurd (false≢true e)

-- A list outside all elements: it ends at `27`, and goes on at any other byte.
ends_there : (f : ℕ) (ruled : ℕ → Bool) (p : List ℕ) (at : ℕ) (φ : Items) (end : ℕ) → items f Page ruled p 0 at ≡ whole φ end → is_none φ ≡ eqb (byte p at) 0x27
unfolding items
ends_there zero ruled p at φ end e = never_unfinished e
ends_there (suc f) ruled p at φ end e = elim (items_whole f Page ruled p 0 at φ end e) [
  | inl r ↦ rw (r.no_more, eq-eqb (byte p at) 0x27 r.ended)
  | inr r ↦ rw (r.is_more, ne_eqb (byte p at) 0x27 r.not_ended)
]

-- What is left of a page behind its first blank text, by what stands there.
module _ (D : Vocabulary) (p : List ℕ) (φ : Items) (at end : ℕ) (S : Solid (declared D.rules) p φ at end) (h : ItemHere) (is : h ≡ item_here p at) where
  abbrev ruled : ℕ → Bool
  ruled = declared D.rules

  -- What does not begin with an element is not the root alone.
  no_element : (e : ℕ) → ((x : ℕ) (next : Position) → h ≡ Element x next → ⊥) → is_alone e φ ≡ false
  unfolding without_blank ◌⋈◌
  no_element e other = elim h as (λ x. h ≡ x → is_alone e φ ≡ false) [
    | Text next ↦ λ q. rw (S.same, (text_first S.fuel Page ruled p 0 at S.left end S.reads h is next q).is_more)
    | Gap g next ↦ λ q. no_template (gap_first S.fuel Page ruled p 0 at S.left end S.reads h is g next q).in_template
    | Element x next ↦ λ q. absurd (other x next q)
    | Blank next ↦ λ q. let w = blank_first S.fuel Page ruled p 0 at S.left end S.reads h is next q in absurd (S.begins w.rest w.is_more)
    | End next ↦ λ q. rw (S.same, (end_first S.fuel Page ruled p 0 at S.left end S.reads h is next q).no_more)
  ] refl

  module _ (x : ℕ) (start : Position) (opens : h ≡ Element x start) where
    abbrev first : ElementFirst Page ruled p 0 at x start S.left end
    first = element_first S.fuel Page ruled p 0 at S.left end S.reads h is x start opens

    -- Nor is another element.
    other_element : (e : ℕ) → (x ≡ e → ⊥) → is_alone e φ ≡ false
    unfolding without_blank ◌⋈◌
    other_element e other = rw (S.same, first.is_more, ne_eqb x e other)

    module _ (r : Judged) (J : JudgesItem D p at r) (last : Position) (B : AfterBlank p r.next.at last) where
      -- What is left behind the element and the blank text after it.
      behind : Solid ruled p first.rest last.at end
      behind =
          let j = J first.fuel 0 first.middle _ first.reads_first in
          B ruled first.fuel end first.rest (rw j.ends first.reads_rest)

      ends_behind : is_none (without_blank first.rest) ≡ eqb (byte p last.at) 0x27
      ends_behind =
          let b = behind in
          rw b.same (none_left b.left b.begins ∙ ends_there b.fuel ruled p last.at b.left end b.reads)

      -- The root is alone, if the page ends after it; and what is wrong is wrong in it.
      alone_if : (e : ℕ) → x ≡ e → is_alone e φ ≡ eqb (byte p last.at) 0x27
      unfolding without_blank ◌⋈◌
      alone_if e root = rw (S.same, first.is_more, eq-eqb x e root) ends_behind

      wrong_in : byte p last.at ≡ 0x27 → first_wrong D φ ≡ r.wrong
      unfolding first_wrong
      wrong_in at_end =
          let b = behind in
          let j = J first.fuel 0 first.middle _ first.reads_first in
          let n : b.left ≡ none = is_none_lem b.left (ends_there b.fuel ruled p last.at b.left end b.reads ∙ eq-eqb _ 0x27 at_end) in
          rw (S.finds D, first.is_more, b.finds D, n) (or_none _ ∙ sym j.finds)

-- ---- a page that was read

module _ (v p : List ℕ) (t : Tables) (r : Verdict) (at : Position) (A : AfterBlank p 0 at) where
  module _ (h : ItemHere) (first-is : h ≡ item_here p at.at) where
    pub no_element_first : r ≡ Refused not_root → ((x : ℕ) (next : Position) → h ≡ Element x next → ⊥) → JudgesRead v p t r
    no_element_first is other D H φ end reads = is ∙ rw (no_element D p φ at.at end (A _ (enough p) end φ reads) h first-is D.root other)

    module _ (x : ℕ) (start : Position) (opens : h ≡ Element x start) where
      pub other_root_first : r ≡ Refused not_root → (x ≡ t.root → ⊥) → JudgesRead v p t r
      other_root_first is other D H φ end reads =
          is ∙ rw (other_element D p φ at.at end (A _ (enough p) end φ reads) h first-is x start opens D.root (λ q. other (q ∙ sym H.names_root)))

      module _ (i : Judged) (J : (D : Vocabulary) → Describes v D t → JudgesItem D p at.at i) (last : Position) (B : AfterBlank p i.next.at last) where
        -- 11 by what follows the root, before 12, 14 and 15.
        pub root_judged : x ≡ t.root → r ≡ cond (eqb (byte p last.at) 0x27) (wrong_verdict i.wrong) (Refused not_root) → JudgesRead v p t r
        root_judged root is D H φ end reads =
            let S = A _ (enough p) end φ reads in
            let a = alone_if D p φ at.at end S h first-is x start opens i (J D H) last B D.root (root ∙ H.names_root) in
            is ∙ by_test (eqb (byte p last.at) 0x27)
            (λ e. rw (a, e, wrong_in D p φ at.at end S h first-is x start opens i (J D H) last B (eqb-true (byte p last.at) 0x27 e)))
            (λ e. rw (a, e))

-- 11 where the root is not alone, and else what is wrong in it.
pub not_alone : (b : Bool) (w : Verdict) (e : Refusal) → Refused e ≡ cond b Accepted (Refused not_root) → Refused e ≡ cond b w (Refused not_root)
not_alone true w e h = cc
not_alone false w e h = h

pub is_alone_then : (b : Bool) (r w : Verdict) → Accepted ≡ cond b Accepted (Refused not_root) → r ≡ w → r ≡ cond b w (Refused not_root)
is_alone_then true r w h q = q
is_alone_then false r w h q = cc

-- ---- any vocabulary and any page

module _ (v p : List ℕ) (x : Result (Tables × Position) ReadError) (A : VocabularyReads v x) (x' : Result (Tables × Position) Refusal) (tells : TellsAs (unreadable_at 0) x x') where
  pub vocabulary_refused : (f : Refusal) → x' ≡ Err f → Refused f ≡ page_verdict v p
  unfolding page_verdict vocabulary_slice
  vocabulary_refused f q =
      let (e, is, told) = told_err (unreadable_at 0) x x' tells f q in
      rw (told, agrees_with_refuses (Describes v) (alone v (vocabulary v)) x e is A)

  module _ (t : Tables) (at : Position) (q : x' ≡ Ok (t, at)) where
    read : WholeAs (λ D end. Describes v D t) (vocabulary_slice v) at
    unfolding vocabulary_slice
    read = agrees_with_whole (Describes v) (alone v (vocabulary v)) x t at (told_ok (unreadable_at 0) x x' tells (t, at) q) A

    abbrev D : Vocabulary
    D = read.tree

    under : judged D (page_slice D p) ≡ page_verdict v p
    unfolding page_verdict
    under = rw read.reads

    module _ (y : Result Position ReadError) (B : PageReads t.declared p y) (y' : Result Position Refusal) (tells_page : TellsAs (unreadable_at 1) y y') where
      page_reads : Agrees (page_slice D p) y
      unfolding page_slice
      page_reads = subst (λ (ruled : ℕ → Bool). Agrees (alone p (items (enough p) Page ruled p 0 0)) y) (fun_ext read.holds.declares) B

      pub page_refused : (f : Refusal) → y' ≡ Err f → Refused f ≡ page_verdict v p
      page_refused f z =
          let (e, is, told) = told_err (unreadable_at 1) y y' tells_page f z in
          rw told (sym (ap (judged D) (agrees_refuses (λ (φ : Items) end. Unit {0}) (page_slice D p) y e is page_reads)) ∙ under)

      pub page_judged : (next : Position) → y' ≡ Ok next → (r : Verdict) → JudgesRead v p t r → r ≡ page_verdict v p
      unfolding page_slice
      page_judged next z r R =
          let w = agrees_whole (λ (φ : Items) end. Unit {0}) (page_slice D p) y next (told_ok (unreadable_at 1) y y' tells_page next z) page_reads in
          let reads = alone_whole p (items (enough p) Page (declared D.rules) p 0 0) w.reads in
          R D read.holds w.tree w.end reads ∙ (sym (ap (judged D) w.reads) ∙ under)

-- The judgement that was computed is the page's one verdict.
pub the_verdict : (v p : List ℕ) (r : Verdict) → r ≡ page_verdict v p → TheVerdict (PageVerdict v p) (numbers_of r)
the_verdict v p r e = rw e (the_page_verdict v p)
