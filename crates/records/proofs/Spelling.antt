-- Bytes that spell a number, and the digits of bytes, byte by byte.
use Prim.Native.Nat.{ℕ, zero, suc, ◌+◌, ◌*◌, ◌≤◌, ◌<◌}
use native.Mathlib.Omega.{arith}
use native.Mathlib.Nat.{le_of_suc-le-suc, not-suc-le-zero}
use native.Mathlib.Numerals.{add-one}
use mathlib.Core.Path.{◌≡◌, refl, sym, ap}
use mathlib.Core.List.{List, [], ◌∷◌, ◌++◌}
use lib.ListN.{length, get_or, take}
use lib.Seq.{length-take-le, take_all}
use Rattle.memory.specs.Inner.Laid.{Writes}
use Rattle.memory.proofs.Laid.{writes_none, writes_then, writes_same, writes_length}
use Rattle.records.specs.Spelling.{digits_of, spelt}
use Rattle.records.specs.Reading.{number_of}

pub four : (bs : List ℕ) → get_or bs 0 0 + 256 * get_or bs 1 0 + 65536 * get_or bs 2 0 + 16777216 * get_or bs 3 0 ≡ number_of 4 bs
unfolding number_of
four [] = refl
four (a ∷ []) = omega arith
four (a ∷ b ∷ []) = omega arith
four (a ∷ b ∷ c ∷ []) = omega arith
four (a ∷ b ∷ c ∷ d ∷ bs) = omega arith

pub spelt_length : (bs : List ℕ) → length (spelt bs) ≡ length bs + length bs
unfolding spelt
spelt_length [] = refl
spelt_length (b ∷ bs) = let h = spelt_length bs in omega arith

-- One byte more.
spelt_more : (bs : List ℕ) (i : ℕ) → i < length bs → spelt (take (suc i) bs) ≡ spelt (take i bs) ++ digits_of (get_or bs i 0)
unfolding spelt
spelt_more [] i l = absurd (not-suc-le-zero l)
spelt_more (b ∷ bs) zero l = refl
spelt_more (b ∷ bs) (suc i) l = ap (λ (r : List ℕ). digits_of b ++ r) (spelt_more bs i (le_of_suc-le-suc l))

pub spell_none : (bytes line : List ℕ) → Writes line 0 (spelt (take 0 bytes)) 0 line
unfolding spelt
spell_none bytes line = writes_none line 0

module _ (bytes line₀ : List ℕ) (i at : ℕ) (line : List ℕ) (W : Writes line₀ 0 (spelt (take i bytes)) at line) where
  module _ (l : i < length bytes) where
    pub two_fit : length bytes + length bytes ≤ length line₀ → at + 2 ≤ length line
    two_fit room =
        let n : length (take i bytes) ≡ i = length-take-le i bytes (omega arith) in
        let k = spelt_length (take i bytes) in
        omega (arith, W.0, n, k, writes_length line₀ 0 (spelt (take i bytes)) at line W)

    pub spell_on : (next : ℕ) (after : List ℕ) → Writes line at (digits_of (get_or bytes i 0)) next after → Writes line₀ 0 (spelt (take (i + 1) bytes)) next after
    spell_on next after w = rw (add-one i, spelt_more bytes i l) (writes_then line₀ 0 (spelt (take i bytes)) (digits_of (get_or bytes i 0)) at line next after W w)

  pub spell_end : length bytes ≤ i → Writes line₀ 0 (spelt bytes) at line
  spell_end l = writes_same line₀ 0 (spelt (take i bytes)) (spelt bytes) at line (ap spelt (sym (take_all i bytes l))) W

-- No more digits than the line has room for.
pub spelt_within : (bytes line : List ℕ) (r : ℕ) (after : List ℕ) → length bytes + length bytes ≤ length line → Writes line 0 (spelt bytes) r after → r ≤ length after
spelt_within bytes line r after room W = omega (arith, W.0, spelt_length bytes, writes_length line 0 (spelt bytes) r after W)
