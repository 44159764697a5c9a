-- What a command's first byte tells of its statement.
use Prim.Native.Nat.{ℕ, ◌+◌, ◌≤◌, ◌<◌}
use mathlib.Core.Path.{◌≡◌, refl, sym, ap}
use mathlib.Core.List.{List, [], ◌∷◌}
use mathlib.Core.Bool.{Bool, true, false, cond, not}
use mathlib.Core.Option.{Option, some, none}
use native.Mathlib.Numerals.{add-one}
use lib.ListN.{length, get_or}
use Rattle.std.specs.Prelude as Found
use Rattle.std.proofs.lemmas.Option.{none-some, same_Some}
use lib.Seq.{slice, slice-cons}
use lib.Dec.{eqb}
use borrow.Author.Tests.{ne_eqb, eqb-true}
use Rattle.programs.specs.Program.{copy_template, set_template, copy_string, set_string, any_string, plug, plug_string, show, show_framed, Statement, step, stop}
use Rattle.programs.specs.Inner.Promises.{statement_here, placed}
use Rattle.programs.specs.ProgramReading.{statement_of, points_there, strayed}

picked : {A : Type 0} (P : A → Type 0) (b : Bool) (x y : A) → (b ≡ true → P x) → (b ≡ false → P y) → P (cond b x y)
picked P true x y t f = t refl
picked P false x y t f = f refl

-- What holds of each statement, with the command that it is of, holds of the statement that is read.
pub read_cases : (P : Statement → Type 0) (code : ℕ) (o : ℕ → ℕ)
    → (code ≡ 0x30 → P (step (copy_template (o 1) (o 2)) (o 3) (o 4)))
    → (code ≡ 0x31 → P (step (set_template (o 1) (o 2)) (o 3) (o 4)))
    → (code ≡ 0x32 → P (step (copy_string (o 1) (o 2)) (o 3) (o 4)))
    → (code ≡ 0x33 → P (step (set_string (o 1) (o 2)) (o 3) (o 4)))
    → (code ≡ 0x34 → P (step (any_string (o 1)) (o 2) (o 3)))
    → (code ≡ 0x35 → P (step (plug (o 1) (o 2) (o 3) (o 4)) (o 5) (o 6)))
    → (code ≡ 0x36 → P (step (plug_string (o 1) (o 2) (o 3) (o 4)) (o 5) (o 6)))
    → (code ≡ 0x37 → P (step (show (o 1)) (o 2) (o 3)))
    → (code ≡ 0x39 → P (step (show_framed (o 1) (o 2) (o 3)) (o 4) (o 5)))
    → P stop
    → P (statement_of code o)
read_cases P code o c30 c31 c32 c33 c34 c35 c36 c37 c39 c38 =
    picked P (eqb code 0x30) _ _ (λ e. c30 (eqb-true _ _ e)) λ _.
    picked P (eqb code 0x31) _ _ (λ e. c31 (eqb-true _ _ e)) λ _.
    picked P (eqb code 0x32) _ _ (λ e. c32 (eqb-true _ _ e)) λ _.
    picked P (eqb code 0x33) _ _ (λ e. c33 (eqb-true _ _ e)) λ _.
    picked P (eqb code 0x34) _ _ (λ e. c34 (eqb-true _ _ e)) λ _.
    picked P (eqb code 0x35) _ _ (λ e. c35 (eqb-true _ _ e)) λ _.
    picked P (eqb code 0x36) _ _ (λ e. c36 (eqb-true _ _ e)) λ _.
    picked P (eqb code 0x37) _ _ (λ e. c37 (eqb-true _ _ e)) λ _.
    picked P (eqb code 0x39) _ _ (λ e. c39 (eqb-true _ _ e)) λ _. c38

-- The command is none of `30` to `37` and `39`, as a match has it.
abbrev pub NoneOfThese : ℕ → Type 0
NoneOfThese code = (((((((((Unit {0}) × (code ≡ 0x30 → ⊥)) × (code ≡ 0x31 → ⊥)) × (code ≡ 0x32 → ⊥)) × (code ≡ 0x33 → ⊥)) × (code ≡ 0x34 → ⊥)) × (code ≡ 0x35 → ⊥)) × (code ≡ 0x36 → ⊥)) × (code ≡ 0x37 → ⊥)) × (code ≡ 0x39 → ⊥)

pub no_step : (code : ℕ) (o : ℕ → ℕ) → NoneOfThese code → statement_of code o ≡ stop
no_step code o n =
    rw (ne_eqb code 0x30 n.0.0.0.0.0.0.0.0.1, ne_eqb code 0x31 n.0.0.0.0.0.0.0.1, ne_eqb code 0x32 n.0.0.0.0.0.0.1, ne_eqb code 0x33 n.0.0.0.0.0.1, ne_eqb code 0x34 n.0.0.0.0.1, ne_eqb code 0x35 n.0.0.0.1, ne_eqb code 0x36 n.0.0.1, ne_eqb code 0x37 n.0.1, ne_eqb code 0x39 n.1)

pub next_place : (places : List ℕ) (count i : ℕ) → i < count → count ≤ length places → slice i count places ≡ get_or places i 0 ∷ slice (i + 1) count places
next_place places count i here most = rw (add-one i) (slice-cons i count places 0 here most)

-- The earliest statement that strays, by the place where it stands.
strayed_at : (b : Bool) (rest : Found.Option ℕ) (rest' : Option ℕ) (at : ℕ) → ((p : ℕ) → rest ≡ Found.Some p → rest' ≡ some p) → (rest ≡ Found.None → rest' ≡ none)
    → (((p : ℕ) → Found.if◌then◌else◌ (not b) (Found.Some at) rest ≡ Found.Some p → cond b rest' (some at) ≡ some p)
    × (Found.if◌then◌else◌ (not b) (Found.Some at) rest ≡ Found.None → cond b rest' (some at) ≡ none))
strayed_at true rest rest' at found lacks = (found, lacks)
strayed_at false rest rest' at found lacks = (λ p e. ap some (same_Some _ _ e), λ e. absurd (none-some _ (sym e)))

pub strayed_is : (s : List ℕ) (count : ℕ) (places : List ℕ)
    → ((p : ℕ) → Found.find (λ at. not (points_there count (statement_here s at))) places ≡ Found.Some p → strayed count (placed s places) ≡ some p)
    × (Found.find (λ at. not (points_there count (statement_here s at))) places ≡ Found.None → strayed count (placed s places) ≡ none)
unfolding strayed
strayed_is s count [] = (λ p e. absurd (none-some _ e), λ e. refl)
strayed_is s count (at ∷ places) = let rest = strayed_is s count places in strayed_at (points_there count (statement_here s at)) _ _ at rest.0 rest.1
