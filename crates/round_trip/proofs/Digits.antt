-- A number that is read from bytes, highest first, is written as those bytes.
use Prim.Native.Nat.{ℕ, zero, suc, ◌+◌, ◌*◌, ◌/◌, ◌%◌, ◌^◌, ◌<◌}
use native.Mathlib.Nat.{add-suc, mod-eq_of_lt, div-eq_of_lt, mul-add-div_right, mul-add-mod_self_right, mul-le-mul_right, pow-suc}
use native.Mathlib.Omega.{arith}
use mathlib.Core.Path.{◌≡◌, refl, ap, ◌∙◌}
use mathlib.Core.List.{List, [], ◌∷◌}
use Rattle.commands.specs.Commands.{byte, spelt}
use Rattle.round_trip.specs.Written.{highest_first}
use Rattle.round_trip.specs.InRange.{Bytes}
use Rattle.round_trip.proofs.Spans.{bytes}

pub byte_small : (s : List ℕ) (i : ℕ) → Bytes s → byte s i < 256
unfolding Bytes
byte_small [] i b = omega arith
byte_small (c ∷ s) zero b = b.0
byte_small (c ∷ s) (suc i) b = byte_small s i b.1

first_digit : (n d m : ℕ) → m < 256 ^ n → highest_first (suc n) (d * 256 ^ n + m) ≡ d ∷ highest_first n m
unfolding highest_first
first_digit n d m h =
    let pos : 0 < 256 ^ n = omega arith in
    let quotient : (d * 256 ^ n + m) / 256 ^ n ≡ d = mul-add-div_right pos d m ∙ omega (arith, div-eq_of_lt h) in
    let remainder : (d * 256 ^ n + m) % 256 ^ n ≡ m = mul-add-mod_self_right d (256 ^ n) m ∙ mod-eq_of_lt h in
    rw (quotient, remainder)

module _ (s : List ℕ) where
  -- What is spelt behind a number.
  spelt_behind : (n i m : ℕ) → spelt n s i m ≡ m * 256 ^ n + spelt n s i 0
  unfolding spelt
  spelt_behind zero i m = omega arith
  spelt_behind (suc n) i m =
      rw pow-suc (spelt_behind n (suc i) (m * 256 + byte s i) ∙ omega (arith, spelt_behind n (suc i) (0 * 256 + byte s i)))

  spelt_first : (n i : ℕ) → spelt (suc n) s i 0 ≡ byte s i * 256 ^ n + spelt n s (suc i) 0
  unfolding spelt
  spelt_first n i = spelt_behind n (suc i) (0 * 256 + byte s i) ∙ omega arith

  module _ (b : Bytes s) where
    pub spelt_small : (n i : ℕ) → spelt n s i 0 < 256 ^ n
    unfolding spelt
    spelt_small zero i = omega arith
    spelt_small (suc n) i =
        rw pow-suc (omega (arith, spelt_first n i, spelt_small n (suc i), mul-le-mul_right (256 ^ n) (byte_small s i b)))

    pub digits : (at n i : ℕ) → highest_first n (spelt n s (at + i) 0) ≡ bytes s at i n
    unfolding highest_first
    digits at zero i = refl
    digits at (suc n) i =
        let rest : highest_first n (spelt n s (suc (at + i)) 0) ≡ bytes s at (suc i) n = rw add-suc at (digits at n (suc i)) in
        ap (highest_first (suc n)) (spelt_first n (at + i)) ∙ first_digit n (byte s (at + i)) _ (spelt_small n (suc (at + i))) ∙ ap (byte s (at + i) ∷◌) rest
