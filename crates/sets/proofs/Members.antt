-- The first member of a word: trailing zeros count what is skipped.
use Prim.Native.Nat.{ℕ, zero, suc, ◌+◌, ◌-◌, ◌*◌, ◌/◌, ◌%◌, ◌^◌, ◌<◌, ◌≤◌}
use mathlib.Core.Path.{◌≡◌, refl, sym, ap, ◌∙◌}
use mathlib.Core.Bool.{Bool, true, false, cond, false≢true}
use native.Mathlib.Nat.{mod-lt}
use native.Mathlib.Omega.{arith}
use lib.Count.{count_trailing_zeros, under}
use lib.Dec.{eqb, ltb, lit<}
use lib.Pow.{shr_le}
use borrow.Author.Tests.{eq-eqb, ne_eqb, ltb-true, ltb-false}
use Rattle.sets.specs.Sets.{member}
use Rattle.sets.specs.Inner.Promises.{MemberFrom}
use Rattle.sets.proofs.Laws.{member_zero, member_high, member_head, member_tail, member_shift, same_members}

-- A number doubled, with a lowest bit.
pub double_head : (b : Bool) (n : ℕ) → member (cond b 1 0 + 2 * n) 0 ≡ b
double_head true n = member_head (1 + 2 * n) ∙ eq-eqb ((1 + 2 * n) % 2) 1 (omega arith)
double_head false n = member_head (0 + 2 * n) ∙ ne_eqb ((0 + 2 * n) % 2) 1 (λ e. omega arith)

pub double_tail : (b : Bool) (n k : ℕ) → member (cond b 1 0 + 2 * n) (suc k) ≡ member n k
double_tail true n k = member_tail (1 + 2 * n) k ∙ ap (λ (m : ℕ). member m k) (omega arith)
double_tail false n k = member_tail (0 + 2 * n) k ∙ ap (λ (m : ℕ). member m k) (omega arith)

-- ---- trailing zeros

pub trailing_held : (k n : ℕ) → count_trailing_zeros k n < k → member n (count_trailing_zeros k n) ≡ true
unfolding count_trailing_zeros
trailing_held zero n h = absurd (omega arith)
trailing_held (suc k) n h = go (λ l. trailing_held k (n / 2) l) (n % 2) refl (mod-lt n (lit< tt)) h
  where
    go : (count_trailing_zeros k (n / 2) < k → member (n / 2) (count_trailing_zeros k (n / 2)) ≡ true)
        → (d : ℕ) → n % 2 ≡ d → d < 2 → under d (count_trailing_zeros k (n / 2)) < suc k → member n (under d (count_trailing_zeros k (n / 2))) ≡ true
    go held zero e b l = member_tail n (count_trailing_zeros k (n / 2)) ∙ held (omega arith)
    go held (suc zero) e b l = member_head n ∙ ap (λ (d : ℕ). eqb d 1) e
    go held (suc (suc d)) e b l = absurd (omega arith)

trailing_skips : (k n x : ℕ) → x < count_trailing_zeros k n → member n x ≡ false
unfolding count_trailing_zeros
trailing_skips zero n x h = absurd (omega arith)
trailing_skips (suc k) n x h = go (trailing_skips k (n / 2)) (n % 2) refl x h
  where
    go : ((x : ℕ) → x < count_trailing_zeros k (n / 2) → member (n / 2) x ≡ false)
        → (d : ℕ) → n % 2 ≡ d → (x : ℕ) → x < under d (count_trailing_zeros k (n / 2)) → member n x ≡ false
    go skips zero e zero l = member_head n ∙ ap (λ (d : ℕ). eqb d 1) e
    go skips zero e (suc x) l = member_tail n x ∙ skips x (omega arith)
    go skips (suc d) e x l = absurd (omega arith)

pub no_members : (n : ℕ) → n < 2 ^ 64 → ((k : ℕ) → k < 64 → member n k ≡ false) → n ≡ 0
no_members n b none = same_members 64 n 0 b (lit< tt) (λ k h. none k h ∙ sym (member_zero k))

-- A word that is not zero has a member below 64.
pub trailing_below : (n : ℕ) → n < 2 ^ 64 → (n ≡ 0 → ⊥) → count_trailing_zeros 64 n < 64
trailing_below n b ne = go (ltb (count_trailing_zeros 64 n) 64) refl
  where
    go : (t : Bool) → ltb (count_trailing_zeros 64 n) 64 ≡ t → count_trailing_zeros 64 n < 64
    go true e = ltb-true (count_trailing_zeros 64 n) 64 e
    go false e =
        let l : 64 ≤ count_trailing_zeros 64 n = ltb-false (count_trailing_zeros 64 n) 64 e in
        absurd (ne (no_members n b (λ k h. trailing_skips 64 n k (omega arith))))

-- ---- the first member from a place on

module _ (word from : ℕ) (h : from < 64) where
  -- A member of what a shift leaves.
  shifted : (x : ℕ) → from ≤ x → member word x ≡ member (word / 2 ^ from) (x - from)
  shifted x l =
      let s : from + (x - from) ≡ x = omega arith in
      ap (member word) (sym s) ∙ sym (member_shift word from (x - from))

  pub no_rest : word / 2 ^ from ≡ 0 → (k : ℕ) → from ≤ k → member word k ≡ false
  no_rest e k l = shifted k l ∙ ap (λ (n : ℕ). member n (k - from)) e ∙ member_zero (k - from)

  pub rest_from : word < 2 ^ 64 → (word / 2 ^ from ≡ 0 → ⊥) → MemberFrom word from (from + count_trailing_zeros 64 (word / 2 ^ from))
  rest_from b ne = record {
    after = omega arith;
    within = within;
    is_held = is_held;
    skips = λ k l m. shifted k l ∙ trailing_skips 64 rest (k - from) (omega arith);
  }
    where
      rest : ℕ
      rest = word / 2 ^ from

      is_held : member word (from + count_trailing_zeros 64 (word / 2 ^ from)) ≡ true
      is_held = sym (member_shift word from (count_trailing_zeros 64 (word / 2 ^ from))) ∙ trailing_held 64 (word / 2 ^ from) (trailing_below (word / 2 ^ from) (let l : word / 2 ^ from ≤ word = shr_le word from in omega arith) ne)

      go : (t : Bool) → ltb (from + count_trailing_zeros 64 (word / 2 ^ from)) 64 ≡ t → from + count_trailing_zeros 64 (word / 2 ^ from) < 64
      go true e = ltb-true (from + count_trailing_zeros 64 (word / 2 ^ from)) 64 e
      go false e = absurd (false≢true (sym (member_high 64 word (from + count_trailing_zeros 64 (word / 2 ^ from)) b (ltb-false (from + count_trailing_zeros 64 (word / 2 ^ from)) 64 e)) ∙ is_held))

      within : from + count_trailing_zeros 64 (word / 2 ^ from) < 64
      within = go (ltb (from + count_trailing_zeros 64 (word / 2 ^ from)) 64) refl
