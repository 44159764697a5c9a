-- The numbers tell verdicts apart: a refusal prints no 0 first, and two verdicts that print the same numbers are one.
use Prim.Native.Nat.{ℕ}
use native.Mathlib.Omega.{arith}
use mathlib.Core.Path.{◌≡◌, refl, sym, ap, ◌∙◌}
use mathlib.Core.Bool.{cond}
use lib.Dec.{eqb}
use Rattle.verdicts.specs.declared.Form.{Form}
use Rattle.verdicts.specs.declared.Form.TheVariants.{TooLong, Ended, NotAllowed, OutOfRange, NotRising, TooMany, TooManyFacts, Missing}
use Rattle.verdicts.specs.declared.Cover.TheVariants.{Start, Step}
use Rattle.verdicts.specs.declared.Fault.{Fault}
use Rattle.verdicts.specs.declared.Fault.TheVariants.{NotRoot, AttributeNotAllowed, ContentNotAllowed, ClauseFails}
use Rattle.verdicts.specs.declared.Place.{Place}
use Rattle.verdicts.specs.declared.Refusal.TheVariants as Refusals
use Rattle.verdicts.specs.declared.Verdict.{Verdict}
use Rattle.verdicts.specs.declared.Verdict.TheVariants.{Accepted, Refused}
use Rattle.verdicts.specs.declared.Numbers.{Numbers}
use Rattle.verdicts.specs.Printed.{prints, form_number, fault_numbers, numbers_of}

-- The verdict of four numbers.
abbrev form_of : ℕ → Form
form_of n =
    cond (eqb n 1) TooLong
    (cond (eqb n 2) Ended
    (cond (eqb n 3) NotAllowed
    (cond (eqb n 4) OutOfRange
    (cond (eqb n 5) NotRising
    (cond (eqb n 6) TooMany
    (cond (eqb n 7) TooManyFacts
    Missing))))))

abbrev told_by : ℕ → ℕ → ℕ → ℕ → Verdict
told_by n a b c =
    cond (eqb n 0) Accepted
    (cond (eqb n 9) (Refused (Refusals.Cover (Start c)))
    (cond (eqb n 10) (Refused (Refusals.Cover (Step a b c)))
    (cond (eqb n 11) (Refused (Refusals.Page (NotRoot a b)))
    (cond (eqb n 12) (Refused (Refusals.Page (AttributeNotAllowed a b c)))
    (cond (eqb n 13) (Refused (Refusals.NoRoom a))
    (cond (eqb n 14) (Refused (Refusals.Page (ContentNotAllowed a b c)))
    (cond (eqb n 15) (Refused (Refusals.Page (ClauseFails a b c)))
    (Refused (Refusals.Form (form_of n) (record { at = a; slice = b }))))))))))

abbrev told : Numbers → Verdict
told v = told_by v.n v.a v.b v.c

told_form : (f : Form) (place : Place) → told (prints (form_number f) place.at place.slice 0) ≡ Refused (Refusals.Form f place)
told_form TooLong place = refl
told_form Ended place = refl
told_form NotAllowed place = refl
told_form OutOfRange place = refl
told_form NotRising place = refl
told_form TooMany place = refl
told_form TooManyFacts place = refl
told_form Missing place = refl

told_of : (r : Verdict) → told (numbers_of r) ≡ r
told_of Accepted = refl
told_of (Refused (Refusals.Form f place)) = told_form f place
told_of (Refused (Refusals.Cover (Start x))) = refl
told_of (Refused (Refusals.Cover (Step p q x))) = refl
told_of (Refused (Refusals.Page (NotRoot p t))) = refl
told_of (Refused (Refusals.Page (AttributeNotAllowed p t at))) = refl
told_of (Refused (Refusals.Page (ContentNotAllowed p t at))) = refl
told_of (Refused (Refusals.Page (ClauseFails p i at))) = refl
told_of (Refused (Refusals.NoRoom needed)) = refl

-- So a promise that leaves one set of numbers leaves one answer.
pub one_answer : (r r' : Verdict) → numbers_of r ≡ numbers_of r' → r ≡ r'
one_answer r r' e = sym (told_of r) ∙ ap told e ∙ told_of r'

pub form_refuses : (f : Form) → form_number f ≡ 0 → ⊥
form_refuses TooLong e = omega arith
form_refuses Ended e = omega arith
form_refuses NotAllowed e = omega arith
form_refuses OutOfRange e = omega arith
form_refuses NotRising e = omega arith
form_refuses TooMany e = omega arith
form_refuses TooManyFacts e = omega arith
form_refuses Missing e = omega arith

pub fault_refuses : (f : Fault) → (fault_numbers f).n ≡ 0 → ⊥
fault_refuses (NotRoot p t) e = omega arith
fault_refuses (AttributeNotAllowed p t at) e = omega arith
fault_refuses (ContentNotAllowed p t at) e = omega arith
fault_refuses (ClauseFails p i at) e = omega arith
