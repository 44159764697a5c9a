-- The numbers N A B C that document 01, "Verdicts", gives each verdict: N is the kind, A B C are its places, unused ones 0. 13 is
-- document 02's, F-1; 14 and 15, and 12 for attributes alone, are F-6's.
use Rattle.std.specs.Prelude.{ℕ, Result, Ok, Err}
use Rattle.verdicts.specs.declared.Form.{Form}
use Rattle.verdicts.specs.declared.Form.TheVariants.{TooLong, Ended, NotAllowed, OutOfRange, NotRising, TooMany, TooManyFacts, Missing}
use Rattle.verdicts.specs.declared.Cover.{Cover}
use Rattle.verdicts.specs.declared.Cover.TheVariants.{Start, Step}
use Rattle.verdicts.specs.declared.Fault.{Fault}
use Rattle.verdicts.specs.declared.Fault.TheVariants.{NotRoot, AttributeNotAllowed, ContentNotAllowed, ClauseFails}
use Rattle.verdicts.specs.declared.Breach.{Breach}
use Rattle.verdicts.specs.declared.Breach.TheVariants as Breaches
use Rattle.verdicts.specs.declared.Refusal.{Refusal}
use Rattle.verdicts.specs.declared.Refusal.TheVariants as Refusals
use Rattle.verdicts.specs.declared.Verdict.{Verdict}
use Rattle.verdicts.specs.declared.Verdict.TheVariants.{Accepted, Refused}
use Rattle.verdicts.specs.declared.Numbers.{Numbers}

-- N A B C.
abbrev pub prints : ℕ → ℕ → ℕ → ℕ → Numbers
prints n a b c = record { n = n; a = a; b = b; c = c }

abbrev pub form_number : Form → ℕ
form_number TooLong = 1
form_number Ended = 2
form_number NotAllowed = 3
form_number OutOfRange = 4
form_number NotRising = 5
form_number TooMany = 6
form_number TooManyFacts = 7
form_number Missing = 8

abbrev pub cover_numbers : Cover → Numbers
cover_numbers (Start x) = prints 9 0 0 x
cover_numbers (Step p q x) = prints 10 p q x

abbrev pub fault_numbers : Fault → Numbers
fault_numbers (NotRoot p t) = prints 11 p t 0
fault_numbers (AttributeNotAllowed p t at) = prints 12 p t at
fault_numbers (ContentNotAllowed p t at) = prints 14 p t at
fault_numbers (ClauseFails p i at) = prints 15 p i at

-- The fault of an element of template t at an offset, in a page that point p shows, by what it breaks of its rule (document 02, F-6). A
-- clause takes the place of the template.
abbrev pub element_fault : ℕ → ℕ → ℕ → Breach → Fault
element_fault p t at Breaches.Attribute = AttributeNotAllowed p t at
element_fault p t at Breaches.Content = ContentNotAllowed p t at
element_fault p t at (Breaches.Clause i) = ClauseFails p i at

-- The refusal of bytes that cannot be read, at an offset of a slice.
abbrev pub unreadable : Form → ℕ → ℕ → Refusal
unreadable f at slice = Refusals.Form f (record { at = at; slice = slice })

abbrev pub refusal_numbers : Refusal → Numbers
refusal_numbers (Refusals.Form f place) = prints (form_number f) place.at place.slice 0
refusal_numbers (Refusals.Cover c) = cover_numbers c
refusal_numbers (Refusals.Page f) = fault_numbers f
refusal_numbers (Refusals.NoRoom needed) = prints 13 needed 0 0

abbrev pub numbers_of : Verdict → Numbers
numbers_of Accepted = prints 0 0 0 0
numbers_of (Refused r) = refusal_numbers r

-- The answer of a call that writes: how many bytes it has written, or a refusal.
abbrev pub Writing : Type 0
Writing = Result ℕ Refusal

-- The verdict of an answer that holds a value where nothing is refused.
abbrev pub verdict_of : {A : Type 0} → Result A Refusal → Verdict
verdict_of (Ok x) = Accepted
verdict_of (Err r) = Refused r

-- What a call that writes tells (document 02, F-1: "success also tells the bytes written"): its verdict, and the bytes written, 0 on a
-- refusal.
abbrev pub bytes_written : Writing → ℕ
bytes_written (Ok n) = n
bytes_written (Err r) = 0
