-- What is read at an offset, from what stands in the bytes from there on. Each law of reading back says: if the bytes from an offset on are
-- those that were written, and then a rest, what was written is read there, at every fuel that is enough.
use Prim.Native.Nat.{ℕ, zero, suc, ◌+◌, ◌*◌, ◌/◌, ◌%◌, ◌^◌, ◌≤◌, ◌<◌}
use native.Mathlib.Nat.{add-suc, add_assoc, mod-lt, div-add-mod', one-le-pow, pow-suc, add-zero, zero-lt-suc}
use native.Mathlib.Numerals.{add-one}
use native.Mathlib.Omega.{arith}
use mathlib.Core.Path.{◌≡◌, refl, ap, sym, ◌∙◌}
use mathlib.Core.List.{List, [], ◌∷◌, ◌++◌, append_assoc}
use mathlib.Core.Bool.{true}
use lib.ListN.{length, get_or, drop, length-append, length-drop}
use lib.Seq.{get_or-drop, drop-drop, drop-append_seam}
use borrow.Author.Tests.{le-leb, le-ltb}
use Rattle.commands.specs.declared.Context.{Context}
use Rattle.commands.specs.declared.Decoded.TheVariants.{Moved}
use Rattle.commands.specs.Commands.{Operand, element, attribute, content, gap, string, variable, entry, template, point, strings_set, width, byte, spelt, set_at, in_range, all_in_range, allowed, operands_of, operand_bytes, command}
use Rattle.commands.specs.Reading.{Read, whole}
use Rattle.commands.proofs.Laws.{moves}
use Rattle.vocabularies.specs.VocabularyReading.{alone}
use Rattle.round_trip.specs.Written.{highest_first}
use Rattle.round_trip.specs.InRange.{IsElement}

-- `w` is what stands in the bytes s from an offset on.
pub record Rest (s : List ℕ) (at : ℕ) (w : List ℕ) : Type 0 where
  pub is : drop at s ≡ w
  pub inside : at ≤ length s

-- What bytes begin with; 0 if there are none.
abbrev pub head : List ℕ → ℕ
head w = get_or w 0 0

module _ {s : List ℕ} {at : ℕ} where
  -- The i-th byte from the offset on is the i-th of what stands there.
  pub byte_at : {w : List ℕ} (i : ℕ) → Rest s at w → byte s (at + i) ≡ get_or w i 0
  byte_at i r = sym (get_or-drop at s i 0) ∙ ap (λ v. get_or v i 0) r.is

  pub first : {w : List ℕ} → Rest s at w → byte s at ≡ head w
  first r = rw add-zero at (byte_at 0 r)

  pub reaches : {w : List ℕ} → Rest s at w → at + length w ≡ length s
  reaches r = omega (arith, ap length r.is, length-drop at s)

  -- What stands behind a first part.
  pub behind : (v : List ℕ) {w : List ℕ} → Rest s at (v ++ w) → Rest s (at + length v) w
  behind v {w} r = record {
    is = sym (drop-drop (length v) at s) ∙ ap (drop (length v)) r.is ∙ drop-append_seam v w;
    inside = omega (arith, reaches r, length-append v w);
  }

  -- Two parts and what stands behind them.
  pub grouped : (u v w : List ℕ) → Rest s at (u ++ v ++ w) → Rest s at (u ++ (v ++ w))
  grouped u v w r = rw append_assoc at r

pub all : (s : List ℕ) → Rest s 0 s
all s = record { is = refl; inside = omega arith }

-- A number is spelt by the bytes that were written for it.
spells : (n m k : ℕ) {s : List ℕ} {at : ℕ} (w : List ℕ) → m < 256 ^ n → Rest s at (highest_first n m ++ w) → spelt n s at k ≡ k * 256 ^ n + m
unfolding spelt highest_first
spells zero m k w h r = omega arith
spells (suc n) m k {s} {at} w h r =
    let e : byte s at ≡ m / 256 ^ n = first r in
    let next : Rest s (suc at) (highest_first n (m % 256 ^ n) ++ w) = rw add-one at (behind (m / 256 ^ n ∷ []) r) in
    let d : ℕ = k * 256 + m / 256 ^ n in
    let ih : spelt n s (suc at) d ≡ d * 256 ^ n + m % 256 ^ n = spells n (m % 256 ^ n) d w (mod-lt m (one-le-pow n 256 (zero-lt-suc 255))) next in
    rw (e, pow-suc) (ih ∙ omega (arith, div-add-mod' m (256 ^ n)))

pub reads_set : {s : List ℕ} {at : ℕ} (m : ℕ) (w : List ℕ) → m < 2 ^ 64 → Rest s at (highest_first 8 m ++ w) → set_at s at ≡ m
reads_set m w h r = spells 8 m 0 w h r ∙ omega arith

pub length_highest_first : (n m : ℕ) → length (highest_first n m) ≡ n
unfolding highest_first
length_highest_first zero m = refl
length_highest_first (suc n) m = ap suc (length_highest_first n (m % 256 ^ n))

-- Operands are read from what stands there.
module _ {s : List ℕ} {at : ℕ} {w : List ℕ} (r : Rest s at w) where
  spelt_there : (n j m : ℕ) → spelt n s (at + j) m ≡ spelt n w j m
  unfolding spelt
  spelt_there zero j m = refl
  spelt_there (suc n) j m = rw (byte_at j r, ← add-suc) (spelt_there n (suc j) (m * 256 + byte w j))

  in_range_there : (o : Operand) (j : ℕ) → in_range o s (at + j) ≡ in_range o w j
  unfolding in_range
  in_range_there element j = rw (byte_at j r)
  in_range_there attribute j = rw (byte_at j r)
  in_range_there content j = rw (byte_at j r)
  in_range_there gap j = rw (byte_at j r)
  in_range_there string j = rw (byte_at j r)
  in_range_there variable j = rw (byte_at j r)
  in_range_there entry j = rw (byte_at j r)
  in_range_there template j = refl
  in_range_there point j = refl
  in_range_there strings_set j = rw (spelt_there 8 j 0)

  all_in_range_there : (os : List Operand) (j : ℕ) → all_in_range os s (at + j) ≡ all_in_range os w j
  unfolding all_in_range
  all_in_range_there [] j = refl
  all_in_range_there (o ∷ os) j = rw (in_range_there o j, add_assoc, all_in_range_there os (j + width o))

-- A command that was written with its operands in range is taken.
pub taken : (x : Context) {s : List ℕ} {at : ℕ} (c : ℕ) (w : List ℕ) → Rest s at (c ∷ w) → allowed x c ≡ true → operand_bytes c ≤ length w
    → all_in_range (operands_of c) (c ∷ w) 1 ≡ true → command x s at ≡ Moved c (record { at = at + suc (operand_bytes c) })
taken x {s} {at} c w r a h q =
    let e : byte s at ≡ c = first r in
    let l : at + suc (length w) ≡ length s = reaches r in
    let p : at + 1 + operand_bytes c ≡ at + suc (operand_bytes c) = omega arith in
    let a' : allowed x (byte s at) ≡ true = rw e a in
    let fits : at + operand_bytes (byte s at) < length s = rw e (omega arith) in
    let q' : all_in_range (operands_of (byte s at)) s (at + 1) ≡ true = rw e (all_in_range_there r (operands_of c) 1 ∙ q) in
    rw (e, p) at (sym (moves x s at (omega arith) a' fits q'))

-- So is one that has no operand,
pub bare_goes : (x : Context) (c : ℕ) → allowed x c ≡ true → operands_of c ≡ [] → (s : List ℕ) (at : ℕ) (w : List ℕ) → Rest s at (c ∷ w)
    → command x s at ≡ Moved c (record { at = at + 1 })
unfolding operand_bytes all_in_range
bare_goes x c a o s at w r =
    let none : operand_bytes c ≡ 0 = rw o in
    rw none at (taken x c w r a (rw none (omega arith)) (rw o))

-- and one whose operand is an element.
pub element_goes : (x : Context) (c : ℕ) → allowed x c ≡ true → operands_of c ≡ element ∷ [] → (s : List ℕ) (at e : ℕ) (w : List ℕ)
    → IsElement e → Rest s at (c ∷ e ∷ w) → command x s at ≡ Moved c (record { at = at + 2 })
unfolding operand_bytes all_in_range
element_goes x c a o s at e w i r =
    let one : operand_bytes c ≡ 1 = rw o in
    let range : all_in_range (operands_of c) (c ∷ e ∷ w) 1 ≡ true = rw (o, le-leb 1 e i.0, le-leb e 63 i.1) in
    rw one at (taken x c (e ∷ w) r a (rw one (omega arith)) range)

-- The same end, written otherwise.
pub ends_at : {A : Type 0} {r : Read A} {a : A} {m n : ℕ} → r ≡ whole a m → m ≡ n → r ≡ whole a n
ends_at {a} e p = e ∙ ap (whole a) p

-- Bytes that are not too long and are read to their end are read alone.
pub reads_alone : {A : Type 0} (s : List ℕ) {r : Read A} {a : A} → length s ≤ 65535 → r ≡ whole a (length s) → alone s r ≡ whole a (length s)
reads_alone s h e = rw (le-leb (length s) 65535 h, e, le-ltb (length s) (length s) (omega arith))
