-- The lists of the numbers below n, one after another: as a loop counts and writes them.
use Prim.Native.Nat.{ℕ, zero, suc, ◌+◌, ◌-◌, ◌*◌, ◌/◌, ◌%◌, ◌≤◌, ◌<◌}
use mathlib.Core.Path.{◌≡◌, refl, sym, ap, ap₂, ◌∙◌}
use mathlib.Core.List.{List, [], ◌++◌, append-nil, append_assoc}
use native.Mathlib.Nat.{suc-mul, mul-le-mul_right, le_trans}
use native.Mathlib.Numerals.{add-one}
use native.Mathlib.Omega.{arith}
use lib.ListN.{length, length-append}
use Rattle.summaries.specs.ProposalOf.{each}
use Rattle.memory.specs.Inner.Laid.{Writes}
use Rattle.memory.proofs.Laid.{writes_none, writes_then, writes_fits}

pub each_same : {A : Type 0} (n : ℕ) (f g : ℕ → List A) → ((q : ℕ) → q < n → f q ≡ g q) → each n f ≡ each n g
unfolding each
each_same zero f g h = refl
each_same (suc n) f g h = ap₂ (λ xs ys. xs ++ ys) (each_same n f g (λ q l. h q (omega arith))) (h n (omega arith))

pub each_one : {A : Type 0} (f : ℕ → List A) → each 1 f ≡ f 0
unfolding each
each_one f = refl

-- Rows of eight, one after another.
module _ (f : ℕ → ℕ → List ℕ) where
  abbrev pub rows_at : ℕ → List ℕ
  rows_at i = f (i / 8) (i % 8)

  row_after : (p k : ℕ) → k ≤ 8 → each (p * 8) rows_at ++ each k (f p) ≡ each (p * 8 + k) rows_at
  unfolding each
  row_after p zero l = let none : p * 8 ≡ p * 8 + 0 = omega arith in append-nil (each (p * 8) rows_at) ∙ ap (λ (n : ℕ). each n rows_at) none
  row_after p (suc k) l =
      let next : p * 8 + suc k ≡ suc (p * 8 + k) = omega arith in
      let row : (p * 8 + k) / 8 ≡ p = omega arith in
      let place : (p * 8 + k) % 8 ≡ k = omega arith in
      sym (append_assoc (each (p * 8) rows_at) (each k (f p)) (f p k)) ∙ ap (λ (bs : List ℕ). bs ++ f p k) (row_after p k (omega arith)) ∙ rw (next, row, place) refl

  pub each_rows : (n : ℕ) → each n (λ p. each 8 (f p)) ≡ each (n * 8) rows_at
  unfolding each
  each_rows zero = refl
  each_rows (suc n) =
      let next : suc n * 8 ≡ n * 8 + 8 = omega arith in
      ap (λ (bs : List ℕ). bs ++ each 8 (f n)) (each_rows n) ∙ row_after n 8 (omega arith) ∙ ap (λ (k : ℕ). each k rows_at) (sym next)

module _ (f : ℕ → List ℕ) where
  pub each_next : (q : ℕ) → each (q + 1) f ≡ each q f ++ f q
  unfolding each
  each_next q = rw (add-one q) refl

  pub each_skip : (q : ℕ) → f q ≡ [] → each (q + 1) f ≡ each q f
  each_skip q e = each_next q ∙ ap (λ (xs : List ℕ). each q f ++ xs) e ∙ append-nil (each q f)

  next_length : (q : ℕ) → length (each (q + 1) f) ≡ length (each q f) + length (f q)
  next_length q = ap length (each_next q) ∙ length-append (each q f) (f q)

  grows : (q d : ℕ) → length (each q f) ≤ length (each (q + d) f)
  grows q zero = let e : q + 0 ≡ q = omega arith in rw e (omega arith)
  grows q (suc d) = let e : q + suc d ≡ q + d + 1 = omega arith in rw e (omega (arith, grows q d, next_length (q + d)))

  -- The next one is no more than what is left of all.
  pub next_fits : (m q : ℕ) → q < m → length (each q f) + length (f q) ≤ length (each m f)
  next_fits m q l =
      let e : m ≡ q + 1 + (m - (q + 1)) = omega arith in
      let g : length (each (q + 1) f) ≤ length (each m f) = rw e (grows (q + 1) (m - (q + 1))) in
      omega (arith, g, next_length q)

  at_most : (n k : ℕ) → ((q : ℕ) → q < n → length (f q) ≤ k) → length (each n f) ≤ n * k
  unfolding each
  at_most zero k h = omega arith
  at_most (suc n) k h = rw (suc-mul n k) (omega (arith, at_most n k (λ q l. h q (omega arith)), h n (omega arith), length-append (each n f) (f n)))

  pub each_most : (n most k : ℕ) → n ≤ most → ((q : ℕ) → q < n → length (f q) ≤ k) → length (each n f) ≤ most * k
  each_most n most k l h = le_trans (at_most n k h) (mul-le-mul_right k l)

  -- ---- a loop that counts

  pub counting_goes : (q total r : ℕ) → total ≡ length (each q f) → r ≡ length (f q) → total + r ≡ length (each (q + 1) f)
  counting_goes q total r e g = omega (arith, e, g, next_length q)

  pub counting_fits : (m q total r : ℕ) → q < m → total ≡ length (each q f) → r ≡ length (f q) → total + r ≤ length (each m f)
  counting_fits m q total r l e g = omega (arith, e, g, next_fits m q l)

  pub counting_ends : (m q total : ℕ) → q ≤ m → m ≤ q → total ≡ length (each q f) → total ≡ length (each m f)
  counting_ends m q total l h e = let s : q ≡ m = omega arith in e ∙ ap (λ (n : ℕ). length (each n f)) s

  pub counting_starts : 0 ≡ length (each 0 f)
  unfolding each
  counting_starts = refl

  -- ---- a loop that writes

  module _ (out : List ℕ) (at : ℕ) where
    pub writing_starts : Writes out at (each 0 f) at out
    unfolding each
    writing_starts = writes_none out at

    pub writing_fits : (m q n : ℕ) (half : List ℕ) → q < m → at + length (each m f) ≤ length out → Writes out at (each q f) n half → n + length (f q) ≤ length half
    writing_fits m q n half l h w = writes_fits out at (each q f) (f q) n half w (omega (arith, next_fits m q l, length-append (each q f) (f q)))

    pub writing_goes : (q n : ℕ) (half : List ℕ) (r : ℕ) (after : List ℕ) → Writes out at (each q f) n half → Writes half n (f q) r after → Writes out at (each (q + 1) f) r after
    writing_goes q n half r after w v = rw (each_next q) (writes_then out at (each q f) (f q) n half r after w v)

    pub writing_ends : (m q n : ℕ) (half : List ℕ) → q ≤ m → m ≤ q → Writes out at (each q f) n half → Writes out at (each m f) n half
    writing_ends m q n half l h w = let s : m ≡ q = omega arith in rw s w
