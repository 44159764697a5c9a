-- The operands of a command that was read are in range.
use Prim.Native.Nat.{ℕ, zero, suc, ◌+◌, ◌≤◌, ◌<◌}
use mathlib.Core.Path.{◌≡◌, refl}
use mathlib.Core.List.{List, [], ◌∷◌}
use mathlib.Core.Bool.{Bool, true, false, cond}
use mathlib.Core.Option.{Option, some, none}
use native.Mathlib.Omega.{arith}
use native.Mathlib.Nat.{add-zero}
use lib.Dec.{eqb}
use borrow.Author.Tests.{eqb-true, leb-true, ltb-true}
use Rattle.sets.proofs.Booleans.{and_left, and_right}
use Rattle.commands.specs.Commands.{Operand, gap, string, variable, entry, width, byte, operands_of, in_range, all_in_range}

-- The operand at a place, where all before it are one byte.
unfoldable pub nth : List Operand → ℕ → Option Operand
nth [] j = none
nth (o ∷ os) zero = some o
nth (o ∷ os) (suc j) = cond (eqb (width o) 1) (nth os j) none

one_byte : (b : Bool) (rest : Option Operand) (o : Operand) → cond b rest none ≡ some o → (b ≡ true) × (rest ≡ some o)
one_byte true rest o e = (refl, e)
one_byte false rest o e = absurd (let z : ◌≡◌ {A = ℕ} 0 1 = cc in omega arith)

ranged : (os : List Operand) (j : ℕ) (o : Operand) (s : List ℕ) (i : ℕ) → nth os j ≡ some o → all_in_range os s i ≡ true → in_range o s (i + j) ≡ true
unfolding nth all_in_range
ranged [] j o s i e h = absurd (let z : ◌≡◌ {A = ℕ} 0 1 = cc in omega arith)
ranged (o' ∷ os) zero o s i e h =
    let q : o' ≡ o = cc in
    rw (add-zero i, ← q) (and_left (in_range o' s i) (all_in_range os s (i + width o')) h)
ranged (o' ∷ os) (suc j) o s i e h =
    let w = one_byte (eqb (width o') 1) (nth os j) o e in
    let l : width o' ≡ 1 = eqb-true (width o') 1 w.0 in
    let k : i + suc j ≡ i + width o' + j = omega arith in
    rw k (ranged os j o s (i + width o') w.1 (and_right (in_range o' s i) (all_in_range os s (i + width o')) h))

-- The n-th operand of a command, counted from 1.
module _ (s : List ℕ) (at code k j n a : ℕ) (ranges : all_in_range (operands_of code) s (at + 1) ≡ true) (key : code ≡ k) (counts : n ≡ j + 1) (is : a ≡ byte s (at + n)) where
  at_place : (o : Operand) → nth (operands_of k) j ≡ some o → in_range o s (at + n) ≡ true
  at_place o e = let i : at + 1 + j ≡ at + n = omega arith in rw i at (ranged (operands_of k) j o s (at + 1) e (rw key at ranges))

  pub variable_low : nth (operands_of k) j ≡ some variable → a < 4
  unfolding in_range
  variable_low e = let l : byte s (at + n) ≤ 3 = leb-true _ _ (at_place variable e) in omega arith

  pub gap_low_lem : nth (operands_of k) j ≡ some gap → a < 8
  unfolding in_range
  gap_low_lem e = let l : byte s (at + n) ≤ 7 = leb-true _ _ (at_place gap e) in omega arith

  pub string_low : nth (operands_of k) j ≡ some string → a < 64
  unfolding in_range
  string_low e = let l : byte s (at + n) < 64 = ltb-true _ _ (at_place string e) in omega arith

  pub entry_low : nth (operands_of k) j ≡ some entry → a < 8
  unfolding in_range
  entry_low e = let l : byte s (at + n) ≤ 7 = leb-true _ _ (at_place entry e) in omega arith
