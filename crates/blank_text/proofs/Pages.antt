-- The verdict of a page that is read, and that of its bytes without blank text.
use Rattle.std.specs.Prelude.{Some, None}
use Prim.Native.Nat.{ℕ}
use native.Mathlib.Omega.{arith}
use mathlib.Core.Path.{◌≡◌, sym, ap, subst, subst₂, ◌∙◌}
use mathlib.Core.List.{List, [], ◌∷◌}
use mathlib.Core.Bool.{Bool, true, false, cond}
use mathlib.Core.Option.{Option, some, none}
use lib.ListN.{length, length-append}
use Rattle.verdicts.specs.declared.Breach.{Breach}
use Rattle.verdicts.specs.declared.Fault.TheVariants.{NotRoot}
use Rattle.verdicts.specs.declared.Refusal.TheVariants as Refusals
use Rattle.verdicts.specs.declared.Verdict.TheVariants.{Refused}
use Rattle.verdicts.specs.declared.Numbers.{Numbers}
use Rattle.verdicts.specs.Printed.{numbers_of}
use Rattle.commands.specs.Reading.{whole}
use Rattle.vocabularies.specs.Vocabulary.{Vocabulary, rule_of}
use Rattle.pages.specs.declared.Kind.TheVariants.{Page}
use Rattle.pages.specs.Items.{Item, Items, without_blank}
use Rattle.pages.specs.ItemReading.{page_slice}
use Rattle.pages.specs.RightPages.{word}
use Rattle.pages.specs.PageVerdict.{Readable, PageVerdict}
use Rattle.judging.specs.Inner.Judgement.{FirstWrong, breach_by, or_else, of_element, first_wrong, first_wrong_item, is_alone, wrong_verdict, judged, page_verdict}
use Rattle.agreement.proofs.Verdicts.{page_verdict_is, judged_of, computes}
use Rattle.round_trip.specs.Written.{written_items, written_page, marked}
use Rattle.round_trip.proofs.Exact.{page_exactly}
use Rattle.round_trip.proofs.Pages.{page_back}
use Rattle.blank_text.specs.WithoutBlank.{SameButOffset}
use Rattle.blank_text.proofs.Alike.{Alike, nothing, blank_here, blank_there, both, AlikeItem, both_text, both_gap, both_element, without}
use Rattle.blank_text.proofs.Rightness.{same_word, same_alone}
use Rattle.blank_text.proofs.Offsets.{unmoved, both_moved, element_moved}
use Rattle.blank_text.proofs.Ranges.{tree_there, shorter, like_anew}

-- The first wrong element here and there: none, or one that breaks the same.
data SameFirst : FirstWrong → FirstWrong → Type 0 where
  nowhere : SameFirst None None
  somewhere : {at at' : ℕ} {b : Breach} → SameFirst (Some (record { at = at; breach = b })) (Some (record { at = at'; breach = b }))

one_after_other : {u u' w w' : FirstWrong} → SameFirst u u' → SameFirst w w' → SameFirst (or_else u w) (or_else u' w')
one_after_other nowhere f = f
one_after_other somewhere f = somewhere

around : (o : Option Breach) (mark mark' : ℕ) {w w' : FirstWrong} → SameFirst w w' → SameFirst (of_element o mark w) (of_element o mark' w')
around none mark mark' f = f
around (some b) mark mark' f = somewhere

-- Two pages that are alike, judged.
module _ (D : Vocabulary) {M : ℕ → ℕ → Type 0} where
  mutual
    unfolding first_wrong

    same_first : {φ φ' : Items} → Alike M φ φ' → SameFirst (first_wrong D φ) (first_wrong D φ')
    same_first nothing = nowhere
    same_first (blank_here a) = same_first a
    same_first (blank_there a) = same_first a
    same_first (both i a) = one_after_other (same_first_in i) (same_first a)

    same_first_in : {i i' : Item} → AlikeItem M i i' → SameFirst (first_wrong_item D i) (first_wrong_item D i')
    same_first_in both_text = nowhere
    same_first_in both_gap = nowhere
    same_first_in (both_element {e = e} {mark = mark} {mark' = mark'} {δ = δ} {φ' = φ'} m a) =
        rw (same_word a) (around (breach_by (rule_of D.rules e) δ (word φ')) mark mark' (same_first a))

  same_judged : (φ φ' : Items) → Alike M φ φ' → SameButOffset (numbers_of (judged D (whole φ 0))) (numbers_of (judged D (whole φ' 0)))
  same_judged φ φ' a = rw (same_alone D.root a) (by_root (is_alone D.root φ') (same_first a))
    where
      by_root : (b : Bool) {w w' : FirstWrong} → SameFirst w w' → SameButOffset (numbers_of (cond b (wrong_verdict w) (Refused (Refusals.Page (NotRoot 0 0)))))
          (numbers_of (cond b (wrong_verdict w') (Refused (Refusals.Page (NotRoot 0 0)))))
      by_root true nowhere = unmoved _
      by_root true (somewhere {at = at} {at' = at'} {b = b}) = element_moved 0 0 at at' b
      by_root false f = unmoved _

-- A page that is read is read without blank text, with its elements marked anew.
pub page_anew : (D : Vocabulary) (p : List ℕ) (φ : Items) (end : ℕ) → page_slice D p ≡ whole φ end
    → page_slice D (written_page (without_blank φ)) ≡ whole (marked 0 (without_blank φ)) (length (written_page (without_blank φ)))
unfolding written_page
page_anew D p φ end e =
    let x = (page_exactly D p φ end).0 e in
    page_back D (without_blank φ) (tree_there Page D (without φ) x.is_in_range.page) (omega (
      arith,
      x.short,
      ap length x.bytes,
      shorter φ,
      length-append (written_items φ) (0x27 ∷ []),
      length-append (written_items (without_blank φ)) (0x27 ∷ []),
    ))

module _ {v p : List ℕ} {D : Vocabulary} {φ : Items} (R : Readable v p D φ) where
  pub same_page_numbers : {n n' : Numbers} → PageVerdict v p n → PageVerdict v (written_page (without_blank φ)) n' → SameButOffset n n'
  same_page_numbers h h' =
      let R' : Readable v (written_page (without_blank φ)) D (marked 0 (without_blank φ)) = record {
        vocabulary_end = R.vocabulary_end;
        page_end = length (written_page (without_blank φ));
        vocabulary_reads = R.vocabulary_reads;
        page_reads = page_anew D p φ R.page_end R.page_reads;
      } in
      subst₂ SameButOffset (ap numbers_of (sym (judged_of R)) ∙ computes h) (ap numbers_of (sym (judged_of R')) ∙ computes h')
      (same_judged D φ (marked 0 (without_blank φ)) (like_anew φ 0))

-- Two pages whose bytes without blank text are the same.
pub same_page_but_blank : {v p p' : List ℕ} {D : Vocabulary} {φ φ' : Items} → Readable v p D φ → Readable v p' D φ'
    → written_page (without_blank φ) ≡ written_page (without_blank φ') → {n n' : Numbers} → PageVerdict v p n → PageVerdict v p' n' → SameButOffset n n'
same_page_but_blank {v} {φ = φ} R R' q h h' =
    let between = numbers_of (page_verdict v (written_page (without_blank φ))) in
    let o = page_verdict_is v (written_page (without_blank φ)) in
    both_moved (same_page_numbers R h o) (same_page_numbers R' h' (subst (λ (w : List ℕ). PageVerdict v w between) q o))
