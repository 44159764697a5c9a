-- The set at an offset, byte by byte.
use Prim.Native.Nat.{ℕ, zero, suc, ◌+◌, ◌-◌, ◌*◌, ◌^◌, ◌≤◌, ◌<◌}
use mathlib.Core.Path.{◌≡◌, refl, ◌∙◌}
use mathlib.Core.List.{List}
use native.Mathlib.Omega.{arith}
use lib.ListN.{length, get_or-eq_default}
use Rattle.commands.specs.Commands.{byte, spelt, set_at}

-- What so many bytes can spell is below this.
unfoldable pub bound : ℕ → ℕ
bound zero = 1
bound (suc k) = 256 * bound k

low : (k : ℕ) → k < 8 → bound k ≤ 2 ^ 56
unfolding bound
low zero h = omega arith
low (suc zero) h = omega arith
low (suc (suc zero)) h = omega arith
low (suc (suc (suc zero))) h = omega arith
low (suc (suc (suc (suc zero)))) h = omega arith
low (suc (suc (suc (suc (suc zero))))) h = omega arith
low (suc (suc (suc (suc (suc (suc zero)))))) h = omega arith
low (suc (suc (suc (suc (suc (suc (suc zero))))))) h = omega arith
low (suc (suc (suc (suc (suc (suc (suc (suc k)))))))) h = absurd (omega arith)

module _ (s : List ℕ) (i : ℕ) where
  -- After k bytes, which spell m, the others come.
  pub record Spelling (k m : ℕ) : Type 0 where
    pub others : spelt (8 - k) s (i + k) m ≡ set_at s i
    pub small : m < bound k

  pub starts : Spelling 0 0
  unfolding bound
  starts = let e : i + 0 ≡ i = omega arith in record { others = rw e; small = omega arith }

  module _ (k m : ℕ) (h : k < 8) (S : Spelling k m) where
    pub fits : m < 2 ^ 56
    fits = omega (arith, S.small, low k h)

    pub goes_on : (b : ℕ) → b ≡ byte s (i + k) → b < 256 → Spelling (k + 1) (m * 256 + b)
    unfolding bound spelt
    goes_on b e l =
        let n : 8 - k ≡ suc (8 - (k + 1)) = omega arith in
        let j : i + (k + 1) ≡ suc (i + k) = omega arith in
        let q : k + 1 ≡ suc k = omega arith in
        record { others = rw (j, e) (rw n at S.others); small = rw q (omega (arith, S.small)) }

  pub ends : (k m : ℕ) → k ≡ 8 → Spelling k m → m ≡ set_at s i
  unfolding spelt
  ends k m e S = rw e at S.others

-- Past the end all eight are 0.
past : (s : List ℕ) (n i : ℕ) → length s ≤ i → spelt n s i 0 ≡ 0
unfolding spelt
past s zero i h = refl
past s (suc n) i h =
    let e : byte s i ≡ 0 = get_or-eq_default s 0 h in
    rw e (past s n (suc i) (omega arith))

pub none : (s : List ℕ) (i : ℕ) → length s ≤ i → 0 ≡ set_at s i
none s i h = rw (past s 8 i h)

pub numbered_none : (s : List ℕ) (at m : ℕ) → length s ≤ at → m ≡ 0 → m ≡ set_at s (at + 2)
numbered_none s at m h e = e ∙ none s (at + 2) (omega arith)
