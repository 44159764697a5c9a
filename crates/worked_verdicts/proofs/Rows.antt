-- Every row of the tables has the verdict that it says. Three rounds of pattern sets are enough for every row.
use Prim.Native.Nat.{ℕ, zero, suc}
use native.Mathlib.Omega.{arith}
use mathlib.Core.Path.{◌≡◌, refl, sym, ap, subst}
use mathlib.Core.List.Memᴰ
use mathlib.Core.List.{List, [], ◌∷◌, map}
use mathlib.Core.Bool.{Bool, true, ◌&&◌}
use mathlib.Core.Option.{Option, some}
use mathlib.Core.Logic.{⊎_elim}
use lib.Dec.{ltb}
use borrow.Author.Tests.{ltb-true}
use Rattle.verdicts.specs.declared.Numbers.{Numbers}
use Rattle.commands.specs.Commands.{command}
use Rattle.vocabularies.specs.Vocabulary.{rule_of}
use Rattle.vocabularies.specs.Facts.{with_facts}
use Rattle.pages.specs.Items.{gap_in, attribute_gap_in}
use Rattle.pages.specs.RightPages.{◌∈◌}
use Rattle.judging.specs.Inner.Judgement.{precedes}
use Rattle.programs.specs.Program.{template_at}
use Rattle.summaries.specs.Summaries.{same_code}
use Rattle.agreement.proofs.JobVerdicts.{unique}
use Rattle.patterns.specs.Inner.Patterns.{breaks_value, join}
use Rattle.patterns.specs.Inner.Morphisms.{class_of}
use Rattle.patterns.specs.Inner.Elements.{can_break_under}
use Rattle.patterns.proofs.ReadVocabularies.{Bytes}
use Rattle.sets.specs.Sets.{member}
use Rattle.sets.proofs.Booleans.{and_left, and_right}
use Rattle.worked_verdicts.specs.Table.{Row, RowHolds, table}
use Rattle.worked_verdicts.specs.BlankText.{blank_table}
use Rattle.worked_verdicts.specs.Frames.{framed_table}
use Rattle.worked_verdicts.specs.Absence.{absent_table}
use Rattle.worked_verdicts.specs.Breaches.{breach_table}
use Rattle.worked_verdicts.proofs.Verdicts.{verdict_by, verdict_by_lem}

abbrev are_bytes : List ℕ → Bool
are_bytes [] = true
are_bytes (a ∷ s) = ltb a 256 && are_bytes s

are_bytes_lem : (s : List ℕ) → are_bytes s ≡ true → Bytes s
are_bytes_lem [] e i = omega arith
are_bytes_lem (a ∷ s) e zero = ltb-true a 256 (and_left _ _ e)
are_bytes_lem (a ∷ s) e (suc i) = are_bytes_lem s (and_right (ltb a 256) _ e) i

-- What is computed of a row.
record Answer : Type 0 where
  bytes : Bool
  numbers : Option Numbers

abbrev computed : Row → Answer
computed r = record { bytes = are_bytes r.bytes; numbers = verdict_by 3 r.bytes }

abbrev stated : Row → Answer
stated r = record { bytes = true; numbers = some r.numbers }

answers : (map computed table ≡ map stated table) × (map computed blank_table ≡ map stated blank_table) × (map computed framed_table ≡ map stated framed_table)
    × (map computed absent_table ≡ map stated absent_table) × (map computed breach_table ≡ map stated breach_table)
unfolding verdict_by command rule_of with_facts gap_in attribute_gap_in template_at same_code can_break_under class_of join precedes breaks_value member
answers = (refl, refl, refl, refl, refl)

same_at : {A B : Type 0} (f g : A → B) (xs : List A) → map f xs ≡ map g xs → (a : A) → a ∈ xs → f a ≡ g a
same_at f g [] e a i = absurd (Memᴰ.not-nil i)
same_at f g (x ∷ xs) e a i =
    let first : f x ≡ g x = cc in
    let rest : map f xs ≡ map g xs = cc in
    ⊎_elim (λ q. subst (λ b. f b ≡ g b) (sym q) first) (same_at f g xs rest a) (Memᴰ.cases_cons i)

each_holds : (rows : List Row) → map computed rows ≡ map stated rows → (r : Row) → r ∈ rows → RowHolds r
each_holds rows all r i =
    let e : computed r ≡ stated r = same_at computed stated rows all r i in
    let is = verdict_by_lem 3 r.bytes (are_bytes_lem r.bytes (ap (λ (a : Answer). a.bytes) e)) r.numbers (ap (λ (a : Answer). a.numbers) e) in
    record { is = is; only = λ v h. unique h is }

-- The theorem for all rows of the marked cases, and those for jobs with blank text, with frames, with attributes that can be absent, and about
-- what a wrong element breaks.
pub rows_hold : (r : Row) → r ∈ table → RowHolds r
rows_hold = each_holds table answers.0

pub blank_rows_hold : (r : Row) → r ∈ blank_table → RowHolds r
blank_rows_hold = each_holds blank_table answers.1

pub framed_rows_hold : (r : Row) → r ∈ framed_table → RowHolds r
framed_rows_hold = each_holds framed_table answers.2

pub absent_rows_hold : (r : Row) → r ∈ absent_table → RowHolds r
absent_rows_hold = each_holds absent_table answers.3

pub breach_rows_hold : (r : Row) → r ∈ breach_table → RowHolds r
breach_rows_hold = each_holds breach_table answers.4
