-- How many members sets have: sets that grow stay the same or have a member more, and there is at most one for each template and
-- pattern. This is the measure of a loop over rounds.
use Prim.Native.Nat.{ℕ, zero, suc, ◌+◌, ◌*◌, ◌≤◌, ◌<◌}
use native.Mathlib.Omega.{arith}
use mathlib.Core.Path.{◌≡◌, refl, sym, ap, ◌∙◌}
use mathlib.Core.Bool.{Bool, true, false, not, ◌&&◌, true≢false}
use mathlib.Core.Logic.{◌⊎◌, inl, inr, ⊎_elim}
use lib.Dec.{eqb}
use borrow.Author.Tests.{eqb-true, eqb-false, not-true}
use Rattle.sets.specs.Inner.Promises.{count_below}
use Rattle.sets.proofs.Counts.{count_grows, count_more, count_most}
use Rattle.patterns.specs.Inner.Rounds.{Set, Sets, any_below}
use Rattle.patterns.proofs.Tests.{any_below_lem, below_any}
use Rattle.sets.proofs.Booleans.{and_both, and_left, and_right, alike, either}

-- Y holds what X holds, of the first N templates and the numbers below M.
abbrev pub Within : ℕ → ℕ → Sets → Sets → Type 0
Within N M X Y = (n x : ℕ) → n < N → x < M → X n x ≡ true → Y n x ≡ true

abbrev pub Same : ℕ → ℕ → Sets → Sets → Type 0
Same N M X Y = (n x : ℕ) → n < N → x < M → X n x ≡ Y n x

-- How many members the sets of the first N templates have below M.
unfoldable pub members : ℕ → ℕ → Sets → ℕ
unfolding count_below
members zero M X = 0
members (suc N) M X = members N M X + count_below M (X N)

pub members_grow : (N M : ℕ) (X Y : Sets) → Within N M X Y → members N M X ≤ members N M Y
unfolding members
members_grow zero M X Y h = omega arith
members_grow (suc N) M X Y h =
    let before : members N M X ≤ members N M Y = members_grow N M X Y (λ n x i k. h n x (omega arith) k) in
    let last : count_below M (X N) ≤ count_below M (Y N) = count_grows M (X N) (Y N) (λ x k. h N x (omega arith) k) in
    omega arith

pub members_more : (N M : ℕ) (X Y : Sets) → Within N M X Y → (n x : ℕ) → n < N → x < M → X n x ≡ false → Y n x ≡ true
    → members N M X < members N M Y
unfolding members
members_more zero M X Y h n x i k no_x yes_y = absurd (omega arith)
members_more (suc N) M X Y h n x i k no_x yes_y = ⊎_elim
    (λ (e : eqb n N ≡ true). here (eqb-true n N e))
    (λ (e : eqb n N ≡ false).
    let ne : n ≡ N → ⊥ = eqb-false n N e in
    let before : members N M X < members N M Y = members_more N M X Y (λ m y a b. h m y (omega arith) b) n x (omega arith) k no_x yes_y in
    let last : count_below M (X N) ≤ count_below M (Y N) = count_grows M (X N) (Y N) (λ y b. h N y (omega arith) b) in
    omega arith)
    (either (eqb n N))
  where
    here : n ≡ N → members N M X + count_below M (X N) < members N M Y + count_below M (Y N)
    here e =
        let before : members N M X ≤ members N M Y = members_grow N M X Y (λ m y a b. h m y (omega arith) b) in
        let last : count_below M (X N) < count_below M (Y N) = count_more M (X N) (Y N) (λ y b. h N y (omega arith) b) x k (rw (← e) no_x) (rw (← e) yes_y) in
        omega arith

pub members_most : (N M : ℕ) (X : Sets) → members N M X ≤ N * M
unfolding members
members_most zero M X = omega arith
members_most (suc N) M X =
    let before : members N M X ≤ N * M = members_most N M X in
    let last : count_below M (X N) ≤ M = count_most M (X N) in
    omega arith

-- Sets that grow stay the same, or have a member more.
pub same_or_more : (N M : ℕ) (X Y : Sets) → Within N M X Y → Same N M X Y ⊎ (members N M X < members N M Y)
same_or_more N M X Y within = go (any_below N (λ n. any_below M (added n))) refl
  where
    added : ℕ → Set
    added n x = Y n x && not (X n x)

    go : (b : Bool) → any_below N (λ n. any_below M (added n)) ≡ b → Same N M X Y ⊎ (members N M X < members N M Y)
    go true e =
        let (n, hn, p) = below_any N (λ k. any_below M (added k)) e in
        let (x, hx, q) = below_any M (added n) p in
        inr (members_more N M X Y within n x hn hx (not-true (X n x) (and_right (Y n x) (not (X n x)) q)) (and_left (Y n x) (not (X n x)) q))
    go false e = inl (λ n x hn hx. alike (X n x) (Y n x) (within n x hn hx)
        (λ y. ⊎_elim
        (λ k. k)
        (λ k. absurd (true≢false (sym (any_below_lem N (λ i. any_below M (added i)) n hn (any_below_lem M (added n) x hx (and_both _ _ y (ap not k)))) ∙ e)))
        (either (X n x))))
